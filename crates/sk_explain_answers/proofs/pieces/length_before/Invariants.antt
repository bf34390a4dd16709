use Rattle.std.proofs.Common.{◌≡◌, ◌≤◌, ◌+◌, length}
use Rattle.sk_explain_answers.specs.Pieces.{front_of}
use Rattle.sk_explain_answers.proofs.pieces.length_before.Given as goal

abbrev pub invariant-loop-rest : goal.invariant-loop-rest
invariant-loop-rest l =
    record { within : length l.rest ≤ length l.bytes; same : length l.bytes + length (front_of l.sign l.rest) ≡ length (front_of l.sign l.bytes) + length l.rest }

abbrev pub decreases-loop-rest : goal.decreases-loop-rest
decreases-loop-rest l = length l.rest
