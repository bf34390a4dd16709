use Rattle.std.proofs.Common.{◌≡◌, drop, map, ◌++◌}
use Rattle.sk_prune.specs.Pruned.{trimmed_fun}
use Rattle.sk_prune.proofs.trimmer.Trimmer.funs.Given as goal

-- what is made so far, and what is left
abbrev pub invariant-loop-f : goal.invariant-loop-f
invariant-loop-f l = l.made.items ++ map (trimmed_fun l.self.constants.consts.now l.self.constants.width) (drop l.f-index l.funs) ≡ map (trimmed_fun l.self.constants.consts.now l.self.constants.width) l.funs
