use Rattle.std.proofs.Common.{◌≡◌, drop, ◌++◌}
use Rattle.sk_prune.specs.Numbered.{number}
use Rattle.sk_prune.specs.Words.{exprs_renamed, fields_renamed}
use Rattle.sk_prune.proofs.renamer.Renamer.+expr.Given as goal

-- what is made so far, and what is left
abbrev pub invariant-exprs-loop-e : goal.invariant-exprs-loop-e
invariant-exprs-loop-e l = l.made.items ++ exprs_renamed (number l.self) (drop l.e-index l.es) ≡ exprs_renamed (number l.self) l.es

abbrev pub invariant-fields-loop-x : goal.invariant-fields-loop-x
invariant-fields-loop-x l = l.made.items ++ fields_renamed (number l.self) (drop l.x-index l.given) ≡ fields_renamed (number l.self) l.given
