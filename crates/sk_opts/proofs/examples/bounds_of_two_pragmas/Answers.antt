use Rattle.sk_opts.proofs.Computed.{bounds_of_pragmas}
use Rattle.sk_opts.proofs.examples.bounds_of_two_pragmas.Goals as goal

pub returns : goal.returns
returns c = bounds_of_pragmas
