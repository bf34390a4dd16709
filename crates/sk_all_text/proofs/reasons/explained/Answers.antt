use Rattle.sk_all_text.proofs.Answering.{askable_of, reasons_of}
use Rattle.sk_all_text.proofs.reasons.explained.Goals as goal

pub told-requires : goal.told-requires
told-requires g c = record { askable = askable_of c.args.set.now c.args.text.now c.in-Ok.expansion c.in-Ok.ensures.found }

pub returns-in-Ok-told-clause-found : goal.returns-in-Ok-told-clause-found
returns-in-Ok-told-clause-found g c = reasons_of c.args.set.now c.args.text.now c.in-Ok.expansion c.in-Ok-told.reasons c.in-Ok.ensures.found c.in-Ok-told.ensures
