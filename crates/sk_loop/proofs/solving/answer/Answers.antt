use Rattle.std.proofs.Common.{subst}
use Rattle.sk_sat.specs.Answer.{IsAnswer}
use Rattle.sk_loop.proofs.Answering.{never_met}
use Rattle.sk_loop.proofs.solving.answer.Goals as goal

pub returns-in-Unsat-clause-answered : goal.returns-in-Unsat-clause-answered
returns-in-Unsat-clause-answered g c =
    let a = subst (IsAnswer c.args.solver.now c.solve.new.self c.args.budget) c.in-Unsat.is c.in_ok-found.ensures.answer in
    never_met c.args.solver.now.added c.in-Unsat.field-0 c.args.encoded.now a.1 c.requires.added
