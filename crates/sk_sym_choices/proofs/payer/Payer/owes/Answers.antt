use Rattle.sk_dag.proofs.EvalLemmas.{Keeps-trans}
use Rattle.sk_sym_choices.proofs.Ledger.{owed_next}
use Rattle.sk_sym_choices.proofs.payer.Payer.owes.Goals as goal

pub loop-o-preserved : goal.loop-o-preserved
loop-o-preserved c =
    let inv = c.loop-o.invariant in
    record {
      keeps = Keeps-trans inv.keeps c.in_ok-owe.ensures.keeps;
      owed = owed_next c.args.owed.now c.loop-o.o-index c.o-item.result c.loop-o-test.true c.o-item.is inv.owed c.in_ok-owe.ensures.keeps c.in_ok-owe.ensures.owed;
    }
