-- one more copy
use Rattle.std.specs.Prelude.{nat_lt}
use Rattle.sk_holes_standing.specs.Standing.{stmt}
use Rattle.sk_holes_standing.proofs.Rows.{row_called, row_paid, row_place}
use Rattle.sk_holes_standing.proofs.walker.Walker.+stmt.Goals as goal

pub copies-loop-k-preserved : goal.copies-loop-k-preserved
copies-loop-k-preserved t c =
    let f = stmt c.args.self.now in
    record {
      called = row_called f (λ n. nat_lt n c.args.number) c.loop-k.k c.args.ss.now c.index-ss-k.result c.loop-k.met.called c.copy.new.met.called _ c.loop-k.at c.copy.new.at c.loop-k-test.true c.index-ss-k.is c.in_ok-copy.ensures.called c.in_ok-copy.ensures.at c.loop-k.invariant.called;
      payments = row_paid f (λ n. nat_lt n c.args.number) c.loop-k.k c.args.ss.now c.index-ss-k.result c.loop-k.met.payments c.copy.new.met.payments _ c.loop-k.at c.copy.new.at c.loop-k-test.true c.index-ss-k.is c.in_ok-copy.ensures.payments c.in_ok-copy.ensures.at c.loop-k.invariant.payments;
      at = row_place f c.loop-k.k c.args.ss.now c.index-ss-k.result _ c.loop-k.at c.copy.new.at c.loop-k-test.true c.index-ss-k.is c.in_ok-copy.ensures.at c.loop-k.invariant.at;
    }
