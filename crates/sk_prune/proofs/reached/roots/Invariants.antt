use Rattle.std.proofs.Common.{◌≡◌, drop, ◌++◌}
use Rattle.sk_prune.specs.Reached.{roots_from}
use Rattle.sk_prune.proofs.reached.roots.Given as goal

-- what is found so far, and what is left
abbrev pub invariant-loop-n : goal.invariant-loop-n
invariant-loop-n l = l.found.items ++ roots_from l.n (drop l.n l.funs) ≡ roots_from 0 l.funs
