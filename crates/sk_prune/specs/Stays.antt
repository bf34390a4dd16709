-- Which functions stay: harnesses, functions that implement another and those that they implement, and what a function that
-- stays calls. It is the least such set.
use Rattle.std.specs.Prelude.{ℕ, ◌≡◌, Bool, false, IsTrue, List, length, Some, slice_get, slice_index_or, Contains}
use Rattle.sk_prog.specs.declared.ids.FunId.{FunId}
use Rattle.sk_prog.specs.declared.prog.FunKind.TheVariants as kind
use Rattle.sk_prog.specs.declared.prog.Fun.{Fun}
use Rattle.sk_prune.specs.Called.{called}

-- the function with this number stays
pub data Stays (funs : List Fun) : ℕ → Type 0 where
  Harness : {n : ℕ} (f : Fun) → slice_get funs n ≡ Some f → f.kind ≡ kind.Harness → Stays funs n
  Implementation : {n : ℕ} (f : Fun) (g : FunId) → slice_get funs n ≡ Some f → f.implements ≡ Some g → Stays funs n
  Reference : {n : ℕ} (m : ℕ) (f : Fun) (g : FunId) → slice_get funs m ≡ Some f → f.implements ≡ Some g → g.index ≡ n → Stays funs n
  Called : {n : ℕ} (m : ℕ) (f : Fun) → Stays funs m → slice_get funs m ≡ Some f → Contains (called f.body) n → Stays funs n

-- a mark for each function, which says whether it stays
pub record AreMarks (funs : List Fun) (marks : List Bool) : Type 0 where
  pub each : length marks ≡ length funs
  pub stay : (n : ℕ) → IsTrue (slice_index_or marks n false) → Stays funs n
  pub marked : (n : ℕ) (f : Fun) → slice_get funs n ≡ Some f → Stays funs n → IsTrue (slice_index_or marks n false)
