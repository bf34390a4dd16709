use Rattle.std.proofs.Common.{true≢false, arith, refl, sym}
use Rattle.sk_sym_operators.proofs.Elements.{like_more, like_all, unlike_all}
use Rattle.sk_sym_operators.proofs.element.like_all.Goals as goal

pub loop-s-preserved : goal.loop-s-preserved
loop-s-preserved c = record {
  alike = like_more c.args.a.now c.args.list.now c.loop-s.s-index c.s-item.result c.loop-s-test.true c.s-item.is c.loop-s.invariant.alike (c.if-not-alike.ensures.0 refl);
}

pub returns : goal.returns
returns c = (λ holds. like_all c.args.a.now c.args.list.now c.loop-s.s-index (omega arith) c.loop-s.invariant.alike, λ alike. refl)

pub returns-then-not-alike : goal.returns-then-not-alike
returns-then-not-alike c = (
  λ holds. absurd (true≢false (sym holds)),
  λ alike. absurd (unlike_all c.args.a.now c.args.list.now c.loop-s.s-index c.s-item.result c.loop-s-test.true c.s-item.is (λ h. true≢false (sym (c.if-not-alike.ensures.1 h))) alike),
)
