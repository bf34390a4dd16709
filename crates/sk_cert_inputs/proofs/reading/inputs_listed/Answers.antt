use Rattle.sk_cert_inputs.proofs.Listings.{read_exactly}
use Rattle.sk_cert_inputs.proofs.reading.inputs_listed.Goals as goal

pub returns : goal.returns
returns c = read_exactly c.args.prog.now c.args.bounds.now c.args.inputs.now c.in_ok-found.found c.in_ok-found.ensures
