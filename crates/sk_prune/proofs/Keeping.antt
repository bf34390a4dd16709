-- The functions that are marked, one by one.
use Rattle.std.proofs.Common.{◌≡◌, ◌≤◌, ℕ, Bool, true, false, List, [], ◌∷◌, ◌++◌, length, drop, refl, sym, ap, subst, ◌∙◌}
use Rattle.std.proofs.lemmas.List.{append-nil, at_drop_all}
use Rattle.std.specs.Prelude.{if◌then◌else◌}
use Rattle.sk_base.specs.declared.bounds.Bounds.{Bounds}
use Rattle.sk_prog.specs.declared.prog.Fun.{Fun}
use Rattle.sk_prog.specs.declared.prog.Prog.{Prog}
use Rattle.sk_model.specs.Parts.{rank}
use Rattle.sk_expand_copies.specs.Ranks.{ranks_from, count_true}
use Rattle.sk_prune.specs.Numbered.{numbered}
use Rattle.sk_prune.specs.Stays.{AreMarks}
use Rattle.sk_prune.specs.Pruned.{trimmed_funs, renamed_fun, kept_funs, AreKept, IsPruned}
use Rattle.sk_prune.proofs.Numbers.{ranks}

-- the functions of a program without what no run can reach
pub are_kept : (p : Prog) (width : ℕ) (fs funs : List Fun) (marks : List Bool) → fs ≡ trimmed_funs p width → AreMarks fs marks → funs ≡ kept_funs (rank marks) marks fs → AreKept p width funs
are_kept p width fs funs marks is are kept = record {
  marks = marks;
  are = subst (λ gs. AreMarks gs marks) is are;
  is = kept ∙ ap (kept_funs (rank marks) marks) is;
}

pub is_pruned : (bounds : Bounds) (p q : Prog) → q.structs ≡ p.structs → q.consts ≡ p.consts → AreKept p bounds.int_bits q.funs → IsPruned bounds p q
is_pruned bounds p q s c f = record { structs = s; consts = c; funs = f }

pub kept_step : (number : ℕ → ℕ) (b : Bool) (bs : List Bool) (f : Fun) (fs : List Fun) → kept_funs number (b ∷ bs) (f ∷ fs) ≡ (if b then renamed_fun number f ∷ [] else []) ++ kept_funs number bs fs
kept_step number true bs f fs = refl
kept_step number false bs f fs = refl

-- the table of new numbers is that of the marks
pub kept_by : (table : List ℕ) (last : ℕ) (bs : List Bool) (fs : List Fun) → table ≡ ranks_from 0 bs → last ≡ count_true bs → kept_funs (numbered table last) bs fs ≡ kept_funs (rank bs) bs fs
kept_by table last bs fs tabled counted =
    ap (λ n. kept_funs n bs fs) (ap (λ t. numbered t last) tabled ∙ ap (λ l. numbered (ranks_from 0 bs) l) counted ∙ ranks bs)

pub none_kept : (number : ℕ → ℕ) (fs : List Fun) → kept_funs number [] fs ≡ []
none_kept number fs = refl

pub kept_end : (number : ℕ → ℕ) (bs : List Bool) → kept_funs number bs [] ≡ []
kept_end number [] = refl
kept_end number (true ∷ bs) = refl
kept_end number (false ∷ bs) = refl

-- all are kept where none is left
pub kept_done : (number : ℕ → ℕ) (kept : List Fun) (bs : List Bool) (fs all : List Fun) (i : ℕ) → length fs ≤ i → kept ++ kept_funs number bs (drop i fs) ≡ all → kept ≡ all
kept_done number kept bs fs all i less so_far =
    sym (ap (λ gs. kept ++ gs) (at_drop_all (kept_funs number bs) fs i less ∙ kept_end number bs) ∙ append-nil kept) ∙ so_far

pub ruleset keeping = (kept_step, none_kept)
