use Rattle.std.proofs.Common.{◌≡◌, length}
use Rattle.sk_explain_notes.specs.Options.{choice_among}
use Rattle.sk_explain_notes.proofs.options.choice_among.Given as goal

abbrev pub invariant-loop-rest : goal.invariant-loop-rest
invariant-loop-rest l = choice_among l.choices l.word ≡ choice_among l.rest l.word

abbrev pub decreases-loop-rest : goal.decreases-loop-rest
decreases-loop-rest l = length l.rest
