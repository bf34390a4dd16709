-- The filling of a program in which each function keeps the slots that it had, and what is asked of a choice for all functions
-- that stand.
use Rattle.std.specs.Prelude.{◌≡◌, ℕ, zero, suc, ◌+◌, nat_le, Bool, true, false, ◌||◌, IsTrue, List, [], ◌∷◌, ◌++◌, map, length, Some, slice_get, slice_index_or}
use Rattle.sk_base.specs.declared.bounds.Bounds.{Bounds}
use Rattle.sk_prog.specs.declared.ids.FunId.{FunId}
use Rattle.sk_prog.specs.declared.value.Value.{Value}
use Rattle.sk_prog.specs.declared.stmt.PStmt.{PStmt}
use Rattle.sk_prog.specs.declared.prog.Fun.{Fun}
use Rattle.sk_prog.specs.declared.prog.Prog.{Prog}
use Rattle.sk_model.specs.declared.expanded.Choice.{Choice}
use Rattle.sk_model.specs.declared.expanded.Expanded.{Expanded}
use Rattle.sk_model.specs.Parts.{rank}
use Rattle.sk_model.specs.Sites.{stmts_sites}
use Rattle.sk_model.specs.Stands.{standing, funs_stand, all_paid, body_standing}
use Rattle.sk_model.specs.Fill.{minimize_of, before_body, fill_stmts, stmts_count}
use Rattle.sk_model.specs.Run.{run}
use Rattle.sk_model.specs.Open.{run_open}
use Rattle.sk_holes_laws.specs.Filling.{Ready}

-- for each function whether it stands
abbrev pub marks_of : Expanded → List ℕ → List Bool
marks_of e values = funs_stand (standing e values)

-- whether the function with this number stands
abbrev pub is_standing : Expanded → List ℕ → ℕ → Bool
is_standing e values n = slice_index_or (marks_of e values) n false

-- whether the function with this number stands, or there is none
abbrev pub may_call : Expanded → List ℕ → ℕ → Bool
may_call e values n = is_standing e values n || nat_le (length e.prog.funs) n

-- the number of a function in the filling
abbrev pub new_number : Expanded → List ℕ → ℕ → ℕ
new_number e values n = rank (marks_of e values) n

module _ (values : List ℕ) (number : ℕ → ℕ) (paid : List PStmt) where
  -- a function that is filled, and keeps its slots; its first site has place i
  abbrev pub keep_fun : Fun → ℕ → Fun
  keep_fun f i = record f { body = before_body f.kind paid ++ fill_stmts values number f.body i }

  abbrev pub keep_funs : List Bool → List Fun → ℕ → List Fun
  keep_funs (true ∷ bs) (f ∷ fs) i = keep_fun f i ∷ keep_funs bs fs (i + stmts_count values number f.body)
  keep_funs (false ∷ bs) (f ∷ fs) i = keep_funs bs fs (i + stmts_count values number f.body)
  keep_funs _ _ i = []

abbrev pub kept_filling : Expanded → Choice → Prog
kept_filling e a = record e.prog { funs = keep_funs a.values (new_number e a.values) (map minimize_of (all_paid (standing e a.values))) (marks_of e a.values) e.prog.funs 0 }

-- the place of the first site of the function with number n
abbrev pub place_in : List ℕ → (ℕ → ℕ) → List Fun → ℕ → ℕ
place_in values number fs zero = 0
place_in values number [] (suc n) = 0
place_in values number (f ∷ fs) (suc n) = stmts_count values number f.body + place_in values number fs n

-- The values of the sites of each function that stands are in range, and the functions that what stands in it calls stand,
-- where they are there.
abbrev pub AreReady : Bounds → Expanded → List ℕ → Type 0
AreReady bounds e values =
    (n : ℕ) (f : Fun) → slice_get e.prog.funs n ≡ Some f → IsTrue (is_standing e values n)
    → Ready values (λ k. IsTrue (may_call e values k)) (stmts_sites bounds f.body) (body_standing values f.body) (place_in values (new_number e values) e.prog.funs n)

-- that a run under a choice is a run of the filling in which each function keeps its slots
abbrev pub RunsAreKept : Type 0
RunsAreKept =
    (bounds : Bounds) (e : Expanded) (a : Choice) → AreReady bounds e a.values → (f : FunId) (args : List Value) → IsTrue (is_standing e a.values f.index)
    → run_open e a f args bounds ≡ run (kept_filling e a) (record { index = new_number e a.values f.index }) args bounds
