use Rattle.std.proofs.Common.{◌<◌, ◌≤◌, ◌∙◌, length, arith}
use Rattle.sk_sat.proofs.ShortenLemmas.{trims_drop, trims_keep, trims_end, trims_only}
use Rattle.sk_sat.proofs.minimize.trim.Goals as goal

pub loop-l-preserved-then-forced : goal.loop-l-preserved-then-forced
loop-l-preserved-then-forced c =
    let less : c.loop-l.l-index < length c.args.out.now = omega arith in
    let imp = c.in_ok-forced.ensures.implied c.if-forced.true in
    record {
      trims = trims_drop _ _ _ _ _ _ _ _ _ _ _ _ _ _ less c.loop-l.invariant.trims c.in_ok-forced.ensures.more imp;
      long = c.in_ok-forced.ensures.long ∙ c.loop-l.invariant.long;
    }

pub loop-l-preserved : goal.loop-l-preserved
loop-l-preserved c =
    let less : c.loop-l.l-index < length c.args.out.now = omega arith in
    record {
      trims = rw c.in_ok-push.ensures.items (trims_keep _ _ _ _ _ _ _ _ _ _ _ _ _ _ less c.loop-l.invariant.trims c.in_ok-forced.ensures.more);
      long = c.in_ok-forced.ensures.long ∙ c.loop-l.invariant.long;
    }

pub returns-clause-turn : goal.returns-clause-turn
returns-clause-turn c =
    let reached : length c.args.out.now ≤ c.loop-l.l-index = omega arith in
    trims_end _ _ _ _ _ _ _ _ _ _ _ _ _ c.requires.trail c.requires.turn c.requires.kept reached c.loop-l.invariant.trims

pub returns-clause-only : goal.returns-clause-only
returns-clause-only c = trims_only _ _ _ _ _ _ _ _ _ _ _ c.requires.kept c.loop-l.invariant.trims
