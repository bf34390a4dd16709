use Rattle.sk_cert_inputs.proofs.Fresh.{apart_exactly}
use Rattle.sk_cert_inputs.proofs.apart.are_apart.Goals as goal

pub returns : goal.returns
returns c = apart_exactly c.args.inputs.now c.in_ok-apart.apart c.in_ok-apart.ensures
