use Rattle.std.proofs.Common.{◌∙◌}
use Rattle.sk_dag.proofs.EvalLemmas.{Keeps-trans}
use Rattle.sk_sym_walk.proofs.Frames.{CallerStands-keeps, call_does}
use Rattle.sk_sym.proofs.Paid.{as_wide}
use Rattle.sk_sym.proofs.call.call.Goals as goal

pub body-requires-clause-width : goal.body-requires-clause-width
body-requires-clause-width c = as_wide c.in_ok-caller.ensures.entered.keeps ∙ c.requires.width

pub leave-requires-clause-caller : goal.leave-requires-clause-caller
leave-requires-clause-caller c = CallerStands-keeps c.in_ok-body.ensures.executes.moves.keeps c.in_ok-caller.ensures.entered.waits

pub returns-clause-ends : goal.returns-clause-ends
returns-clause-ends c =
    let left = c.in_ok-ended.ensures.left in
    record { does = call_does (λ d g e l. l) c.in_ok-caller.ensures.entered c.in_ok-body.ensures.executes left; there = left.given.stands }

pub returns-in_err-ended-clause-keeps : goal.returns-in_err-ended-clause-keeps
returns-in_err-ended-clause-keeps c = Keeps-trans c.in_ok-caller.ensures.keeps (Keeps-trans c.in_ok-body.ensures.keeps c.leave.ensures.keeps)

pub returns-clause-keeps : goal.returns-clause-keeps
returns-clause-keeps c = Keeps-trans c.in_ok-caller.ensures.keeps (Keeps-trans c.in_ok-body.ensures.keeps c.in_ok-ended.ensures.keeps)
