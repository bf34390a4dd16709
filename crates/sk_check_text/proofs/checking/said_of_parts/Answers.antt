use Rattle.sk_check_text.proofs.Answering.{askable, said}
use Rattle.sk_check_text.proofs.checking.said_of_parts.Goals as goal

pub said_of_text-requires-clause-askable : goal.said_of_text-requires-clause-askable
said_of_text-requires-clause-askable c = askable c.args.set.now c.args.sketch.now c.in-Ok.expansion c.in-Ok.ensures.found

pub returns-in-Ok-said_of_text-clause-found : goal.returns-in-Ok-said_of_text-clause-found
returns-in-Ok-said_of_text-clause-found c = said c.args.set.now c.args.sketch.now c.in-Ok.expansion c.args.text.now c.in-Ok-said_of_text.said c.in-Ok.ensures.found c.in-Ok-said_of_text.ensures
