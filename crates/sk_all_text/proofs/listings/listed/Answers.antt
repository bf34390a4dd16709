use Rattle.sk_all_text.proofs.Answering.{askable_of, listing_of}
use Rattle.sk_all_text.proofs.listings.listed.Goals as goal

pub told-requires-clause-askable : goal.told-requires-clause-askable
told-requires-clause-askable g c = askable_of c.args.set.now c.args.text.now c.in-Ok.expansion c.in-Ok.ensures.found

pub returns-in-Ok-told-clause-found : goal.returns-in-Ok-told-clause-found
returns-in-Ok-told-clause-found g c = listing_of c.args.set.now c.args.most c.args.text.now c.in-Ok.expansion c.in-Ok-told.out.items c.in-Ok.ensures.found c.in-Ok-told.ensures
