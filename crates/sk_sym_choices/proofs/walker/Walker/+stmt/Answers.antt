-- one more
use Rattle.sk_sym_choices.specs.Guards.{exceeds, stmt_guards}
use Rattle.sk_sym_choices.proofs.Walks.{row_called, row_owed, row_place}
use Rattle.sk_sym_choices.proofs.walker.Walker.+stmt.Goals as goal

pub copies-loop-number-preserved : goal.copies-loop-number-preserved
copies-loop-number-preserved t c =
    let test = exceeds c.args.site in
    record {
      called = row_called stmt_guards test c.args.path.now c.loop-number.number c.args.ss.now c.index-ss-number.result c.loop-number.met.called c.copy.new.met.called _ c.loop-number.at c.copy.new.at c.loop-number-test.true c.index-ss-number.is c.in_ok-copy.ensures.called c.in_ok-copy.ensures.at c.loop-number.invariant.called;
      owed = row_owed stmt_guards test c.args.path.now c.loop-number.number c.args.ss.now c.index-ss-number.result c.loop-number.met.owed c.copy.new.met.owed _ c.loop-number.at c.copy.new.at c.loop-number-test.true c.index-ss-number.is c.in_ok-copy.ensures.owed c.in_ok-copy.ensures.at c.loop-number.invariant.owed;
      at = row_place stmt_guards test c.loop-number.number c.args.ss.now c.index-ss-number.result _ c.loop-number.at c.copy.new.at c.loop-number-test.true c.index-ss-number.is c.in_ok-copy.ensures.at c.loop-number.invariant.at;
    }
