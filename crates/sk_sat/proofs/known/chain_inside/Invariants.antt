use Rattle.sk_sat.proofs.KnownLemmas.{IsApartFrom}
use Rattle.sk_sat.proofs.known.chain_inside.Given as goal

abbrev pub invariant-chain : goal.invariant-chain
invariant-chain l = IsApartFrom l.list l.clause l.v l.top

abbrev pub decreases-chain : goal.decreases-chain
decreases-chain l = l.top
