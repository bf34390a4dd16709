use Rattle.std.proofs.Common.{◌≡◌, ◌++◌, drop}
use Rattle.sk_all_exclusions.specs.Exclusions.{all_denied}
use Rattle.sk_all_exclusions.proofs.excluding.exclusion.Given as goal

-- the literals so far, and those of the bits that are left
abbrev pub invariant-loop-j : goal.invariant-loop-j
invariant-loop-j l = l.clause.items ++ all_denied l.marks l.values (drop l.j l.names) (drop l.j l.leaves) ≡ all_denied l.marks l.values l.names l.leaves
