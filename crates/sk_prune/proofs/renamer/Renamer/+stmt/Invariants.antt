use Rattle.std.proofs.Common.{◌≡◌, drop, ◌++◌}
use Rattle.sk_prune.specs.Numbered.{number}
use Rattle.sk_prune.specs.Renamed.{renamed}
use Rattle.sk_prune.proofs.renamer.Renamer.+stmt.Given as goal

-- what is made so far, and what is left
abbrev pub invariant-stmts-loop-s : goal.invariant-stmts-loop-s
invariant-stmts-loop-s l = l.made.items ++ renamed (number l.self) (drop l.s-index l.ss) ≡ renamed (number l.self) l.ss
