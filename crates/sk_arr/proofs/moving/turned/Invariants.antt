use Rattle.std.proofs.Common.{◌≡◌, ◌++◌, length}
use Rattle.std.specs.Prelude.{reverse}
use Rattle.sk_arr.proofs.moving.turned.Given as goal

-- those that are left are to come
abbrev pub invariant-loop-last : goal.invariant-loop-last
invariant-loop-last l = l.made ++ reverse l.rest ≡ reverse l.initial.rest

abbrev pub decreases-loop-last : goal.decreases-loop-last
decreases-loop-last l = length l.rest
