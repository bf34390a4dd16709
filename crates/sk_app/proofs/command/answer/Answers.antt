use Rattle.sk_app.specs.Effects.{served}
use Rattle.sk_app.proofs.command.answer.Goals as goal

pub returns-in-Ok : goal.returns-in-Ok
returns-in-Ok g c = served c.in-Ok.line c.in-Ok.ensures.found c.serve.ensures
