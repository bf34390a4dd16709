use Rattle.std.proofs.Common.{sym, ◌∙◌, arith}
use Rattle.sk_explain_answers.proofs.CallLemmas.{not_spelt}
use Rattle.sk_explain_answers.proofs.calls.obligation_of.Goals as goal

pub loop-number-preserved : goal.loop-number-preserved
loop-number-preserved c = not_spelt c.args.obligations.now c.args.word.now c.loop-number.number (omega arith) (sym c.spells.ensures ∙ c.if-spells.false) c.loop-number.invariant
