-- one more copy
use Rattle.std.specs.Prelude.{length}
use Rattle.sk_holes_marks.specs.Marking.{is_first}
use Rattle.sk_holes_marks.specs.Words.{stmt}
use Rattle.sk_holes_marks.proofs.Rows.{row_marks, row_place}
use Rattle.sk_holes_marks.proofs.walk.+mark_stmt.Goals as goal

pub mark_copies-loop-k-preserved : goal.mark_copies-loop-k-preserved
mark_copies-loop-k-preserved t c =
    let f = stmt c.args.values.now in
    record {
      marks = row_marks f (is_first c.args.number) c.args.stands c.is_kept.result c.loop-k.k c.args.ss.now c.index-ss-k.result c.loop-k.marks.items c.mark_stmt.new.marks.items _ c.loop-k-test.true c.index-ss-k.is c.is_kept.ensures c.in_ok-mark_stmt.ensures.marks c.in_ok-mark_stmt.ensures.place c.loop-k.invariant.marks;
      place = row_place f c.loop-k.k c.args.ss.now c.index-ss-k.result _ (length c.loop-k.marks.items) (length c.mark_stmt.new.marks.items) c.loop-k-test.true c.index-ss-k.is c.in_ok-mark_stmt.ensures.place c.loop-k.invariant.place;
    }
