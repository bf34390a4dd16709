use Rattle.std.proofs.Common.{◌≡◌, ◌≤◌, ◌+◌, length}
use Rattle.sk_explain_notes.specs.Numbers.{front_of}
use Rattle.sk_explain_notes.proofs.numbers.length_before.Given as goal

abbrev pub invariant-loop-rest : goal.invariant-loop-rest
invariant-loop-rest l =
    record { within : length l.rest ≤ length l.word; same : length l.word + length (front_of l.sign l.rest) ≡ length (front_of l.sign l.word) + length l.rest }

abbrev pub decreases-loop-rest : goal.decreases-loop-rest
decreases-loop-rest l = length l.rest
