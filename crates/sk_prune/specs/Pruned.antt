-- A program without what no run of a function that stays can reach. Bodies are trimmed, and then the functions that stay, with
-- what is left of them, keep their order. Each call and each `implements` has the new number, and a function has as many slots
-- as it needs.
use Rattle.std.specs.Prelude.{ℕ, ◌≡◌, Bool, true, false, List, [], ◌∷◌, map}
use Rattle.sk_base.specs.declared.bounds.Bounds.{Bounds}
use Rattle.sk_prog.specs.declared.prog.ConstDef.{ConstDef}
use Rattle.sk_prog.specs.declared.prog.Fun.{Fun}
use Rattle.sk_prog.specs.declared.prog.Prog.{Prog}
use Rattle.sk_model.specs.Parts.{rank}
use Rattle.sk_model.specs.Slots.{with_body}
use Rattle.sk_prune.specs.Trimmed.{trimmed}
use Rattle.sk_prune.specs.Renamed.{any_id, renamed}
use Rattle.sk_prune.specs.Stays.{AreMarks}

abbrev pub trimmed_fun : List ConstDef → ℕ → Fun → Fun
trimmed_fun consts width f = record f { body = trimmed consts width f.body }

abbrev pub trimmed_funs : Prog → ℕ → List Fun
trimmed_funs p width = map (trimmed_fun p.consts width) p.funs

abbrev pub renamed_fun : (ℕ → ℕ) → Fun → Fun
renamed_fun number f = with_body (record f { implements = any_id number f.implements }) (renamed number f.body)

-- those that are marked, with new numbers
abbrev pub kept_funs : (ℕ → ℕ) → List Bool → List Fun → List Fun
kept_funs number (true ∷ bs) (f ∷ fs) = renamed_fun number f ∷ kept_funs number bs fs
kept_funs number (false ∷ bs) (f ∷ fs) = kept_funs number bs fs
kept_funs number [] fs = []
kept_funs number (b ∷ bs) [] = []

-- these are the functions of p without what no run can reach
pub record AreKept (p : Prog) (width : ℕ) (funs : List Fun) : Type 0 where
  pub marks : List Bool
  pub are : AreMarks (trimmed_funs p width) marks
  pub is : funs ≡ kept_funs (rank marks) marks (trimmed_funs p width)

-- q is p without what no run can reach
pub record IsPruned (bounds : Bounds) (p q : Prog) : Type 0 where
  pub structs : q.structs ≡ p.structs
  pub consts : q.consts ≡ p.consts
  pub funs : AreKept p bounds.int_bits q.funs
