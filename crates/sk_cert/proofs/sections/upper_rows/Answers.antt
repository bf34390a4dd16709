use Rattle.std.proofs.Common.{◌∙◌, ap, arith}
use Rattle.sk_cert.specs.Readers.{most_parts}
use Rattle.sk_cert.proofs.Numbered.{shown, numbered_step, numbered_last, numbered_end}
use Rattle.sk_cert.proofs.sections.upper_rows.Goals as goal

pub loop-i-preserved : goal.loop-i-preserved
loop-i-preserved c = numbered_step most_parts c.loop-i.i c.loop-i.parts _ c.loop-i.rest.now c.args.text.now c.in-Some.part c.in-Some.behind.now c.loop-i-test.true c.loop-i.invariant (c.in_ok-part.ensures ∙ ap shown c.in-Some.is) c.in_ok-push.ensures.ok

pub returns-in_default : goal.returns-in_default
returns-in_default c = numbered_last most_parts c.loop-i.i c.loop-i.parts c.loop-i.rest.now c.args.text.now c.loop-i-test.true c.loop-i.invariant (c.in_ok-part.ensures ∙ ap shown c.in_default.is)

pub returns : goal.returns
returns c = numbered_end most_parts c.loop-i.i c.loop-i.parts c.loop-i.rest.now c.args.text.now (omega (arith, c.loop-i-test.false)) c.loop-i.invariant
