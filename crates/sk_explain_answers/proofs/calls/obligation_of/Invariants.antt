use Rattle.std.proofs.Common.{◌≡◌, drop}
use Rattle.sk_explain_answers.specs.Calls.{obligation_from}
use Rattle.sk_explain_answers.proofs.calls.obligation_of.Given as goal

-- the word spells no number so far
abbrev pub invariant-loop-number : goal.invariant-loop-number
invariant-loop-number l = obligation_from 0 l.obligations l.word ≡ obligation_from l.number (drop l.number l.obligations) l.word
