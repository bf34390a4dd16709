use Rattle.sk_opts.proofs.Computed.{bounds_passed_over}
use Rattle.sk_opts.proofs.examples.bounds_of_words_passed_over.Goals as goal

pub returns : goal.returns
returns c = bounds_passed_over
