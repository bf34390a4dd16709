use Rattle.std.proofs.Common.{◌≡◌, take}
use Rattle.sk_cnf.specs.Standing.{IsNamed}
use Rattle.sk_cnf.proofs.growing.named.Given as goal

abbrev pub invariant-loop-i : goal.invariant-loop-i
invariant-loop-i l = record {
  named : IsNamed l.encoded l.set.keys;
  keys : l.set.keys ≡ take l.i l.leaves;
}
