use Rattle.sk_check_app.specs.Judging.{served}
use Rattle.sk_check_app.proofs.judging.answer.Goals as goal

pub returns-in-Ok : goal.returns-in-Ok
returns-in-Ok g c = served c.in-Ok.set c.in-Ok.ensures.found c.judge_source.ensures
