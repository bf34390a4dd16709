use Rattle.std.proofs.Common.{◌≡◌, drop, ◌++◌}
use Rattle.sk_prune.specs.Numbered.{number}
use Rattle.sk_prune.specs.Pruned.{kept_funs}
use Rattle.sk_prune.proofs.renamer.Renamer.funs.Given as goal

-- those that are kept so far, and those that are left
abbrev pub invariant-loop-f : goal.invariant-loop-f
invariant-loop-f l = l.kept.items ++ kept_funs (number l.self) l.left (drop l.f-index l.funs) ≡ kept_funs (number l.self) l.marks l.funs
