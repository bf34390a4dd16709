use Rattle.std.proofs.Common.{◌≡◌, drop}
use Rattle.sk_holes.specs.Range.{first_out}
use Rattle.sk_holes.proofs.range.first_out.Given as goal

abbrev pub invariant-loop-i : goal.invariant-loop-i
invariant-loop-i l = first_out l.i (drop l.i l.sites) (drop l.i l.values) ≡ first_out 0 l.sites l.values
