-- What is counted of a call: its function, and then the calls in it, one after another. Of a call that would fail,
-- because too many are active, nothing is counted, and nothing where there are too many steps before it.
use Rattle.std.specs.Prelude.{ℕ, zero, suc, ◌==◌, ◌++◌, List, [], ◌∷◌, count_by, slice_get, Option, Some, None, nat_lt, if◌then◌else◌}
use Rattle.sk_base.specs.declared.bounds.Bounds.{Bounds}
use Rattle.sk_prog.specs.declared.prog.Fun.{Fun}
use Rattle.sk_expand_sizes.specs.declared.tally.Tally.{Tally}
use Rattle.sk_expand_sizes.specs.declared.count.Due.{Due}
use Rattle.sk_expand_sizes.specs.Tally.{is_over}
use Rattle.sk_expand_sizes.specs.Count.{fun_counted}

-- what is counted of a call of the function with a number, which is made so many times
abbrev pub Calls : Type 0
Calls = ℕ → ℕ → Tally → Tally

abbrev pub each_called : Calls → List Due → Tally → Tally
each_called call [] t = t
each_called call (d ∷ ds) t = each_called call ds (call d.callee d.times t)

abbrev pub entered : ℕ → Calls → Option Fun → ℕ → Tally → Tally
entered turns call None times t = t
entered turns call (Some f) times t = let c = fun_counted turns f times t in each_called call c.due c.tally

module _ (bounds : Bounds) (funs : List Fun) where
  -- where calls of these functions are active, and so many more calls may be
  unfoldable pub called : ℕ → List ℕ → Calls
  called zero active f times t = t
  called (suc left) active f times t =
      if is_over t then t
      else if nat_lt (count_by (λ g. g == f) active) bounds.inline_amnt
      then entered bounds.unroll (called left (active ++ f ∷ [])) (slice_get funs f) times t
      else t
