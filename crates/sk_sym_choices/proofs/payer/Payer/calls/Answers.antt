use Rattle.sk_dag.proofs.EvalLemmas.{Keeps-trans}
use Rattle.sk_sym_choices.proofs.Ledger.{marked_next}
use Rattle.sk_sym_choices.proofs.payer.Payer.calls.Goals as goal

pub loop-c-preserved : goal.loop-c-preserved
loop-c-preserved c =
    let inv = c.loop-c.invariant in
    record {
      keeps = Keeps-trans inv.keeps c.in_ok-call.ensures.keeps;
      marked = marked_next c.args.calls.now c.loop-c.c-index c.c-item.result c.loop-c-test.true c.c-item.is inv.marked c.in_ok-call.ensures.keeps c.in_ok-call.ensures.marked;
    }
