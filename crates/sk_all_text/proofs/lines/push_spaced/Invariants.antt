use Rattle.std.proofs.Common.{◌≡◌, ◌++◌, length}
use Rattle.sk_all_text.specs.AllLines.{spaced}
use Rattle.sk_all_text.proofs.lines.push_spaced.Given as goal

abbrev pub invariant-loop-rest : goal.invariant-loop-rest
invariant-loop-rest l = l.out.items ++ spaced l.rest ≡ l.fn.out.items ++ spaced l.numbers

abbrev pub decreases-loop-rest : goal.decreases-loop-rest
decreases-loop-rest l = length l.rest
