use Rattle.sk_dag.proofs.EvalLemmas.{Keeps-trans}
use Rattle.sk_oblig.proofs.Speaking.{any_more, place_more}
use Rattle.sk_oblig.proofs.asked.any_speaks.Goals as goal

pub loop-obligation-preserved : goal.loop-obligation-preserved
loop-obligation-preserved c =
    let inv = c.loop-obligation.invariant in
    record {
      keeps = Keeps-trans (Keeps-trans inv.keeps c.in_ok-one.ensures.keeps) c.in_ok-any-2.ensures.keeps;
      place = place_more c.args.expanded.now c.args.bounds.now c.args.obligations.now c.loop-obligation.obligation-index _ c.loop-obligation.first c.in_ok-first.first c.loop-obligation-test.true inv.place c.in_ok-first.ensures;
      bad = any_more c.args.obligations.now c.loop-obligation.obligation-index _ c.loop-obligation.first c.loop-obligation.any c.in_ok-one.one c.in_ok-any-2.any c.loop-obligation-test.true inv.place c.in_ok-one.ensures.keeps c.in_ok-any-2.ensures.keeps inv.bad c.in_ok-one.ensures.bad c.in_ok-any-2.ensures.there c.in_ok-any-2.ensures.value;
    }
