use Rattle.sk_loop_laws.proofs.Listing.{inputs_are_counted}
use Rattle.sk_loop_laws.proofs.inputs_are_counted.Goals as goal

pub returns : goal.returns
returns c = inputs_are_counted
