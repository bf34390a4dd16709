-- one more string
use Rattle.std.specs.Prelude.{length}
use Rattle.sk_holes_marks.specs.Marking.{is_one}
use Rattle.sk_holes_marks.specs.Words.{expr}
use Rattle.sk_holes_marks.proofs.Rows.{row_marks, row_place}
use Rattle.sk_holes_marks.proofs.walk.+mark_expr.Goals as goal

pub mark_strings-loop-k-preserved : goal.mark_strings-loop-k-preserved
mark_strings-loop-k-preserved t c =
    let f = expr c.args.values.now in
    record {
      marks = row_marks f (is_one c.args.number) c.args.stands c.is_chosen.result c.loop-k.k c.args.es.now c.index-es-k.result c.loop-k.marks.items c.mark_expr.new.marks.items _ c.loop-k-test.true c.index-es-k.is c.is_chosen.ensures c.in_ok-mark_expr.ensures.marks c.in_ok-mark_expr.ensures.place c.loop-k.invariant.marks;
      place = row_place f c.loop-k.k c.args.es.now c.index-es-k.result _ (length c.loop-k.marks.items) (length c.mark_expr.new.marks.items) c.loop-k-test.true c.index-es-k.is c.in_ok-mark_expr.ensures.place c.loop-k.invariant.place;
    }
