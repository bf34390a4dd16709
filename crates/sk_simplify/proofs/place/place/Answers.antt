use Rattle.std.proofs.Common.{true, refl}
use Rattle.sk_simplify.proofs.SimpleLemmas.{IsWorth-known, IsWorth-fresh, IsSimple-made}
use Rattle.sk_dag.proofs.ReachLemmas.{AddsAtMost-made}
use Rattle.sk_simplify.proofs.place.place.Goals as goal

pub reduce-requires-clause-may : goal.reduce-requires-clause-may
reduce-requires-clause-may c = c.ordered.ensures.same.may _ _ c.requires.may

pub returns-in-Known-clause-worth : goal.returns-in-Known-clause-worth
returns-in-Known-clause-worth c = IsWorth-known c.int_bits-bits.ensures.well_formed c.ordered.ensures.same c.in-Known.ensures

pub returns-in_ok-i-in-Fresh-clause-simple : goal.returns-in_ok-i-in-Fresh-clause-simple
returns-in_ok-i-in-Fresh-clause-simple c = IsSimple-made c.in_ok-i-in-Fresh.ensures.makes c.requires.simple c.in-Fresh.ensures.simple

pub returns-in_ok-i-in-Fresh-clause-worth : goal.returns-in_ok-i-in-Fresh-clause-worth
returns-in_ok-i-in-Fresh-clause-worth c = IsWorth-fresh c.ordered.ensures.same c.in-Fresh.ensures c.in_ok-i-in-Fresh.ensures.makes

pub returns-in_ok-i-in-Fresh-clause-only : goal.returns-in_ok-i-in-Fresh-clause-only
returns-in_ok-i-in-Fresh-clause-only c = AddsAtMost-made true refl c.in_ok-i-in-Fresh.ensures.makes
