use Rattle.sk_opts.proofs.Computed.{grid_of_bits, too_few_scalars, negative_int}
use Rattle.sk_opts.proofs.examples.spelt_values.Goals as goal

pub returns : goal.returns
returns c = record { grid = grid_of_bits; few = too_few_scalars; negative = negative_int }
