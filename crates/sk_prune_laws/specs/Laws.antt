-- What a reader expects of a pruned program.
use Rattle.std.specs.Prelude.{◌≡◌, List, slice_get, Some}
use Rattle.sk_base.specs.declared.bounds.Bounds.{Bounds}
use Rattle.sk_prog.specs.declared.ids.FunId.{FunId}
use Rattle.sk_prog.specs.declared.value.Value.{Value}
use Rattle.sk_prog.specs.declared.prog.Fun.{Fun}
use Rattle.sk_prog.specs.declared.prog.Prog.{Prog}
use Rattle.sk_model.specs.Parts.{rank}
use Rattle.sk_model.specs.Run.{run}
use Rattle.sk_prune.specs.Stays.{Stays}
use Rattle.sk_prune.specs.Pruned.{trimmed_fun, trimmed_funs, renamed_fun, IsPruned}

-- The function of p with this number stays in q.
pub record StaysIn (bounds : Bounds) (p q : Prog) (h : IsPruned bounds p q) (f : FunId) : Type 0 where
  pub fun : Fun
  pub there : slice_get p.funs f.index ≡ Some fun
  pub stays : Stays (trimmed_funs p bounds.int_bits) f.index

-- its number in q
abbrev pub new_number : (bounds : Bounds) (p q : Prog) → IsPruned bounds p q → FunId → FunId
new_number bounds p q h f = record { index = rank h.funs.marks f.index }

-- Each function that stays runs on all arguments as before: its outcome is the same, with the result, the final values of
-- its `ref` parameters, the cost and the span where it fails or is skipped.
abbrev pub PrunedRuns : Type 0
PrunedRuns = (bounds : Bounds) (p q : Prog) (h : IsPruned bounds p q) (f : FunId) (args : List Value) → StaysIn bounds p q h f → run q (new_number bounds p q h f) args bounds ≡ run p f args bounds

-- It is there under its new number, with its name, its kind, its parameters and its result.
abbrev pub FunctionsStay : Type 0
FunctionsStay = (bounds : Bounds) (p q : Prog) (h : IsPruned bounds p q) (f : FunId) (s : StaysIn bounds p q h f) → slice_get q.funs (new_number bounds p q h f).index ≡ Some (renamed_fun (rank h.funs.marks) (trimmed_fun p.consts bounds.int_bits s.fun))
