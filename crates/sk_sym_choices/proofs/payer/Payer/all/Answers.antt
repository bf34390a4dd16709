use Rattle.sk_dag.proofs.EvalLemmas.{Keeps-trans}
use Rattle.sk_sym_choices.proofs.Turns.{Keeps-refl, given_keeps}
use Rattle.sk_sym_choices.proofs.Going.{walked_first, walked_more}
use Rattle.sk_sym_choices.proofs.payer.Payer.all.Goals as goal

pub loop-n-init : goal.loop-n-init
loop-n-init c = record {
  keeps = Keeps-refl _;
  never = c.requires.never;
  always = c.requires.always;
  walked = rw (c.in_ok-table.ensures, c.new-made.ensures) (walked_first c.args.funs.now c.requires.never);
}

pub loop-n-preserved : goal.loop-n-preserved
loop-n-preserved c =
    let inv = c.loop-n.invariant in
    let keeps = c.in_ok-turn.ensures.keeps in
    record {
      keeps = Keeps-trans inv.keeps keeps;
      never = given_keeps keeps inv.never;
      always = given_keeps keeps inv.always;
      walked = walked_more c.loop-n.n c.loop-n.at c.turn.new.at c.index-funs-n.result c.loop-n-test.true c.index-funs-n.is inv.walked keeps c.in_ok-turn.ensures.turned c.in_ok-turn.ensures.at;
    }
