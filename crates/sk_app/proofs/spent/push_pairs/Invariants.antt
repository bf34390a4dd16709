use Rattle.std.proofs.Common.{◌≡◌, ◌++◌, length}
use Rattle.std.specs.List.{flat_map}
use Rattle.sk_app.specs.SpentText.{pair_lines}
use Rattle.sk_app.proofs.spent.push_pairs.Given as goal

abbrev pub invariant-loop-rest : goal.invariant-loop-rest
invariant-loop-rest l = l.out.items ++ flat_map pair_lines l.rest ≡ l.fn.out.items ++ flat_map pair_lines l.pairs

abbrev pub decreases-loop-rest : goal.decreases-loop-rest
decreases-loop-rest l = length l.rest
