use Rattle.sk_dag.proofs.EvalLemmas.{Keeps-trans}
use Rattle.sk_arr.proofs.Makers.{Keeps-refl}
use Rattle.sk_arr.proofs.Standing.{AllStand-keeps}
use Rattle.sk_arr.proofs.Values.{stand_none, stand_push}
use Rattle.rows_sym.proofs.input.grid.Goals as goal

pub loop-init : goal.loop-init
loop-init c = record { keeps = Keeps-refl _; stand = rw c.new-parts.ensures (stand_none c.args.dag.now) }

pub loop-preserved : goal.loop-preserved
loop-preserved c =
    let inv = c.loop.invariant in
    record {
      keeps = Keeps-trans inv.keeps c.in_ok-part.ensures.keeps;
      stand = rw c.in_ok-push.ensures.ok (stand_push c.loop.parts c.in_ok-part.part (AllStand-keeps c.in_ok-part.ensures.keeps inv.stand) c.in_ok-part.ensures.stands);
    }
