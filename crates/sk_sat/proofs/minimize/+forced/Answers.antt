use Rattle.std.proofs.Common.{◌<◌, ◌≤◌, ◌∙◌, length, arith}
use Rattle.sk_sat.proofs.MarkLemmas.{covers_all, covers_more, marks_then}
use Rattle.sk_sat.proofs.minimize.+forced.Goals as goal

pub is_forced-loop-packed-preserved : goal.is_forced-loop-packed-preserved
is_forced-loop-packed-preserved t c =
    let less : c.loop-packed.packed-index < length c.get-clause.result.now = omega arith in
    let here = c.lit.ensures ∙ c.packed-item.is in
    let now = rw here at (c.in_ok-covered.ensures.covered (let f = c.if-not-covered.false in cc)) in
    record {
      more = marks_then c.args.known.now c.args.values.now c.args.reason.now c.args.level.now c.args.lits.now _ _ _ _ _ _ c.loop-packed.invariant.more c.in_ok-covered.ensures.more;
      long = c.in_ok-covered.ensures.long ∙ c.loop-packed.invariant.long;
      covered = covers_more c.args.known.now c.args.values.now c.args.reason.now c.args.level.now c.args.lits.now _ _ _ _ _ _ _ _ less c.loop-packed.invariant.covered c.in_ok-covered.ensures.more now;
    }

pub is_forced-returns-clause-implied : goal.is_forced-returns-clause-implied
is_forced-returns-clause-implied t c = λ _.
    (let reached : length c.get-clause.result.now ≤ c.loop-packed.packed-index = omega arith in
    let covered = covers_all c.args.level.now c.loop-packed.kept c.get-clause.result.now c.args.l c.loop-packed.packed-index reached c.loop-packed.invariant.covered in
    c.has_reason.ensures.implied (let f = c.if-not-has_reason.false in cc) c.loop-packed.kept (rw c.get-clause.ensures at covered))
