use Rattle.sk_loop_laws.proofs.Pairs.{honest_are_inputs}
use Rattle.sk_loop_laws.proofs.honest_are_inputs.Goals as goal

pub returns : goal.returns
returns c = honest_are_inputs
