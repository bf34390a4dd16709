use Rattle.std.proofs.Common.{◌≡◌, ◌++◌, length}
use Rattle.sk_adt.specs.Builds.{built_from, built}
use Rattle.sk_adt.proofs.build.built.Given as goal

abbrev pub invariant-loop-token : goal.invariant-loop-token
invariant-loop-token l = l.out.items ++ built_from l.known l.before l.lists.items l.rest ≡ built l.known l.tokens

abbrev pub decreases-loop-token : goal.decreases-loop-token
decreases-loop-token l = length l.rest
