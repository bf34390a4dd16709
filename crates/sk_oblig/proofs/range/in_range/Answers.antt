use Rattle.std.proofs.Common.{◌+◌, ap, ◌∙◌}
use Rattle.sk_dag.proofs.EvalLemmas.{Keeps-trans}
use Rattle.sk_oblig.proofs.Ranges.{range_more}
use Rattle.sk_oblig.proofs.range.in_range.Goals as goal

pub loop-site-preserved : goal.loop-site-preserved
loop-site-preserved c =
    let inv = c.loop-site.invariant in
    record {
      keeps = Keeps-trans (Keeps-trans inv.keeps c.in_ok-one.ensures.keeps) c.in_ok-all-2.ensures.keeps;
      place = c.in_ok-place.ensures.next ∙ ap (λ j. j + 1) inv.place;
      range = range_more c.args.sites.now c.loop-site.site-index c.loop-site.place _ c.loop-site.all c.in_ok-one.one c.in_ok-all-2.all c.loop-site-test.true inv.place c.in_ok-one.ensures.keeps c.in_ok-all-2.ensures.keeps inv.range c.in_ok-one.ensures.value c.in_ok-all-2.ensures.there c.in_ok-all-2.ensures.value;
    }
