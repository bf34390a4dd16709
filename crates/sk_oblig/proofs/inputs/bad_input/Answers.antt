use Rattle.std.proofs.Common.{sym, ◌∙◌}
use Rattle.sk_oblig.proofs.Answering.{found_bad, none_of, spared}
use Rattle.sk_oblig.proofs.inputs.bad_input.Goals as goal

pub returns-then-not-has_inputs : goal.returns-then-not-has_inputs
returns-then-not-has_inputs c = none_of c.args.number c.args.obligation c.args.bits.now c.requires.askable c.requires.range c.requires.found (sym c.has_inputs.ensures ∙ c.if-not-has_inputs.true)

pub returns-then-not-yes : goal.returns-then-not-yes
returns-then-not-yes c = spared c.args.query.now c.args.number c.args.obligation c.args.bits.now c.in_ok-input.input c.as_slice-args.result.now c.in_ok-yes.yes c.requires.askable c.requires.range c.requires.query c.requires.found c.in_ok-input.ensures c.as_slice-args.ensures c.in_ok-yes.ensures c.if-not-yes.true

pub returns : goal.returns
returns c = found_bad c.args.query.now c.args.number c.args.obligation c.args.bits.now c.in_ok-input.input c.as_slice-args.result.now c.requires.askable c.requires.range c.requires.query c.requires.found (sym c.has_inputs.ensures ∙ c.if-not-has_inputs.false) c.in_ok-input.ensures c.as_slice-args.ensures (c.in_ok-yes.ensures.0 c.if-not-yes.false)
