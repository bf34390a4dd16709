-- one more string
use Rattle.std.specs.Prelude.{◌==◌}
use Rattle.sk_holes_standing.specs.Standing.{expr}
use Rattle.sk_holes_standing.proofs.Rows.{row_called, row_paid, row_place}
use Rattle.sk_holes_standing.proofs.walker.Walker.+expr.Goals as goal

pub strings-loop-k-preserved : goal.strings-loop-k-preserved
strings-loop-k-preserved t c =
    let f = expr c.args.self.now in
    record {
      called = row_called f (λ n. n == c.args.number) c.loop-k.k c.args.es.now c.index-es-k.result c.loop-k.met.called c.string.new.met.called _ c.loop-k.at c.string.new.at c.loop-k-test.true c.index-es-k.is c.in_ok-string.ensures.called c.in_ok-string.ensures.at c.loop-k.invariant.called;
      payments = row_paid f (λ n. n == c.args.number) c.loop-k.k c.args.es.now c.index-es-k.result c.loop-k.met.payments c.string.new.met.payments _ c.loop-k.at c.string.new.at c.loop-k-test.true c.index-es-k.is c.in_ok-string.ensures.payments c.in_ok-string.ensures.at c.loop-k.invariant.payments;
      at = row_place f c.loop-k.k c.args.es.now c.index-es-k.result _ c.loop-k.at c.string.new.at c.loop-k-test.true c.index-es-k.is c.in_ok-string.ensures.at c.loop-k.invariant.at;
    }
