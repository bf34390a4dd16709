use Rattle.std.proofs.Common.{◌≡◌, ◌≤◌, ◌+◌, ◌*◌, ◌^◌, drop}
use Rattle.sk_explain_notes.specs.Numbers.{number_from}
use Rattle.sk_explain_notes.proofs.numbers.number_from.Given as goal

-- Each byte puts the number times ten and at most 207 more.
abbrev pub invariant-loop-byte : goal.invariant-loop-byte
invariant-loop-byte l = record { within : l.number + 23 ≤ 23 * 10 ^ l.byte-index; rest : number_from l.number (drop l.byte-index l.digits) ≡ number_from 0 l.digits }
