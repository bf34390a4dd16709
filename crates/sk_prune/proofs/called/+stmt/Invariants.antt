use Rattle.std.proofs.Common.{◌≡◌, drop, ◌++◌}
use Rattle.sk_prune.specs.Called.{called}
use Rattle.sk_prune.proofs.called.+stmt.Given as goal

-- what is found from here, after what is found so far, is all that is found
abbrev pub invariant-called-loop-s : goal.invariant-called-loop-s
invariant-called-loop-s l = l.found.items ++ called (drop l.s-index l.ss) ≡ l.fn.found.items ++ called l.ss
