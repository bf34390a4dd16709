use Rattle.sk_all_text.proofs.Taken.{ready_of}
use Rattle.sk_app.proofs.complete.built.Goals as goal

pub returns : goal.returns
returns c = ready_of c.args.set.now c.args.text.now c.in-Ok.expansion c.in-Ok.ensures.found
