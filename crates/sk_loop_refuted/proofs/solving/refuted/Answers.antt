use Rattle.std.proofs.Common.{◌∙◌, ap}
use Rattle.sk_sat.specs.Solver.{State}
use Rattle.sk_loop_refuted.proofs.Answering.{answered}
use Rattle.sk_loop_refuted.proofs.solving.refuted.Goals as goal

pub returns : goal.returns
returns g c =
    answered c.args.encoded.now c.load.new.solver c.solve.new.self c.args.budget c.in_ok-answer.answer
    (record {
      vars = c.in_ok-load.ensures.vars;
      added = c.in_ok-load.ensures.added;
      learnt = c.in_ok-load.ensures.learnt ∙ ap (λ (s : State). s.learnt) c.in_ok-vars.ensures.ok ∙ c.new-solver.ensures.learnt;
    })
    c.learnt_is_within.ensures c.in_ok-answer.ensures.gains c.in_ok-answer.ensures.answer
