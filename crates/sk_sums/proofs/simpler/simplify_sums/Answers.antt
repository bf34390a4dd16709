use Rattle.sk_sums.proofs.RootLemmas.{KeepsRoots-trans, roots_there}
use Rattle.sk_sums.proofs.simpler.simplify_sums.Goals as goal

pub cancelled-requires-clause-roots : goal.cancelled-requires-clause-roots
cancelled-requires-clause-roots c = roots_there c.in_ok-first.ensures.roots

pub returns-clause-roots : goal.returns-clause-roots
returns-clause-roots c = KeepsRoots-trans c.in_ok-first.ensures.roots c.in_ok-made.ensures.roots
