use Rattle.std.proofs.Common.{◌≡◌, ◌≤◌, length, take}
use Rattle.sk_rup.specs.Steps.{Covers}
use Rattle.sk_rup.proofs.trail.clear.Given as goal

abbrev pub invariant-pops : goal.invariant-pops
invariant-pops l = record {
  covers : Covers l.values l.lits.items;
  front : l.lits.items ≡ take (length l.lits.items) l.fn.lits.items;
  enough : l.begin ≤ length l.lits.items;
}

abbrev pub decreases-pops : goal.decreases-pops
decreases-pops l = length l.lits.items
