use Rattle.std.proofs.Common.{◌≡◌, ◌++◌}
use Rattle.sk_adt.specs.Chains.{closers}
use Rattle.sk_adt.proofs.branch.push_closers.Given as goal

abbrev pub invariant-loop-left : goal.invariant-loop-left
invariant-loop-left l = l.out.items ++ closers l.span l.left ≡ l.fn.out.items ++ closers l.span l.fn.count

abbrev pub decreases-loop-left : goal.decreases-loop-left
decreases-loop-left l = l.left
