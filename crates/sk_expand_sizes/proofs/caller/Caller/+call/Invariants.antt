use Rattle.std.proofs.Common.{◌≡◌, ◌+◌, ◌*◌, drop}
use Rattle.sk_expand_sizes.specs.Calls.{called, each_called}
use Rattle.sk_expand_sizes.proofs.caller.Caller.+call.Given as goal

abbrev pub decreases-call : goal.decreases-call
decreases-call l = 3 * l.left

abbrev pub decreases-enter : goal.decreases-enter
decreases-enter l = 3 * l.left + 2

abbrev pub decreases-each : goal.decreases-each
decreases-each l = 3 * l.left + 1

-- the calls that are still to be counted, after those that were counted, are all
abbrev pub invariant-each-loop-d : goal.invariant-each-loop-d
invariant-each-loop-d l = each_called (called l.self.bounds l.self.funs.now l.left l.active) (drop l.d-index l.due) l.tally ≡ each_called (called l.self.bounds l.self.funs.now l.left l.active) l.due l.fn.tally
