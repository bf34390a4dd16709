-- one more
use Rattle.sk_sym_choices.specs.Guards.{takes, expr_guards}
use Rattle.sk_sym_choices.proofs.Walks.{row_called, row_owed, row_place}
use Rattle.sk_sym_choices.proofs.walker.Walker.+expr.Goals as goal

pub strings-loop-number-preserved : goal.strings-loop-number-preserved
strings-loop-number-preserved t c =
    let test = takes c.args.site in
    record {
      called = row_called expr_guards test c.args.path.now c.loop-number.number c.args.es.now c.index-es-number.result c.loop-number.met.called c.string.new.met.called _ c.loop-number.at c.string.new.at c.loop-number-test.true c.index-es-number.is c.in_ok-string.ensures.called c.in_ok-string.ensures.at c.loop-number.invariant.called;
      owed = row_owed expr_guards test c.args.path.now c.loop-number.number c.args.es.now c.index-es-number.result c.loop-number.met.owed c.string.new.met.owed _ c.loop-number.at c.string.new.at c.loop-number-test.true c.index-es-number.is c.in_ok-string.ensures.owed c.in_ok-string.ensures.at c.loop-number.invariant.owed;
      at = row_place expr_guards test c.loop-number.number c.args.es.now c.index-es-number.result _ c.loop-number.at c.string.new.at c.loop-number-test.true c.index-es-number.is c.in_ok-string.ensures.at c.loop-number.invariant.at;
    }
