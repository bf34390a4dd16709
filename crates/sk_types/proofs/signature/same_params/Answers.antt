use Rattle.std.proofs.Common.{sym, ap, ◌∙◌, arith}
use Rattle.std.specs.Option.{option_copied}
use Rattle.sk_types.proofs.SignatureLaws.{params_differ, params_go_on, left_over}
use Rattle.sk_types.proofs.signature.same_params.Goals as goal

pub returns-then-not-same_param : goal.returns-then-not-same_param
returns-then-not-same_param c = sym (c.loop-i.invariant
    ∙ params_differ c.args.a.now c.args.b.now c.loop-i.i c.index-a-i.result c.in-Some.other.now c.loop-i-test.true c.index-a-i.is
    (sym c.at.ensures ∙ ap option_copied c.in-Some.is) (sym c.same_param.ensures ∙ c.if-not-same_param.true))

pub loop-i-preserved : goal.loop-i-preserved
loop-i-preserved c = c.loop-i.invariant
    ∙ params_go_on c.args.a.now c.args.b.now c.loop-i.i c.index-a-i.result c.in-Some.other.now c.loop-i-test.true c.index-a-i.is
    (sym c.at.ensures ∙ ap option_copied c.in-Some.is) (sym c.same_param.ensures ∙ c.if-not-same_param.false)

pub returns-then-a-b : goal.returns-then-a-b
returns-then-a-b c = sym (c.loop-i.invariant
    ∙ left_over c.args.a.now c.args.b.now c.loop-i.i c.loop-i-test.false (omega (arith, c.if-a-b.true, c.loop-i.auto.i-end)))
