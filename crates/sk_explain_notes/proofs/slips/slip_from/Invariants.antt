use Rattle.std.proofs.Common.{◌≡◌, map, length}
use Rattle.std.specs.String.{string_bytes}
use Rattle.sk_explain_notes.specs.Slips.{slip_from}
use Rattle.sk_explain_notes.proofs.slips.slip_from.Given as goal

abbrev pub invariant-loop-word : goal.invariant-loop-word
invariant-loop-word l = slip_from l.seen (map string_bytes l.rest) ≡ slip_from l.fn.walk (map string_bytes l.fn.words)

abbrev pub decreases-loop-word : goal.decreases-loop-word
decreases-loop-word l = length l.rest
