use Rattle.std.proofs.Common.{◌<◌, All}
use Rattle.sk_gates.specs.Extension.{Continues}
use Rattle.sk_cnf.specs.Standing.{Covers}
use Rattle.sk_cnf.proofs.growing.encode_marked.Given as goal

abbrev pub invariant-loop-i : goal.invariant-loop-i
invariant-loop-i l = record {
  covers : Covers l.fn.to l.dag l.fn.leaves.keys l.fn.names l.fn.marks l.to l.codes l.i;
  behind : Continues l.fn.to l.to;
  within : All (λ x. x < l.to.vars) l.fn.names;
}
