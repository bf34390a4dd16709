use Rattle.sk_dag.proofs.EvalLemmas.{Keeps-trans}
use Rattle.sk_arr.proofs.Makers.{Keeps-refl}
use Rattle.sk_arr.proofs.Standing.{AllStand-keeps}
use Rattle.sk_arr.proofs.Values.{stand_none, stand_push}
use Rattle.rows_sym.proofs.input.shapes_of.Goals as goal

pub loop-param-init : goal.loop-param-init
loop-param-init c = record { keeps = Keeps-refl _; stand = rw c.new-made.ensures (stand_none c.args.dag.now) }

pub loop-param-preserved : goal.loop-param-preserved
loop-param-preserved c =
    let inv = c.loop-param.invariant in
    record {
      keeps = Keeps-trans inv.keeps c.in_ok-one.ensures.keeps;
      stand = rw c.in_ok-push.ensures.ok (stand_push c.loop-param.made c.in_ok-one.one (AllStand-keeps c.in_ok-one.ensures.keeps inv.stand) c.in_ok-one.ensures.stands);
    }
