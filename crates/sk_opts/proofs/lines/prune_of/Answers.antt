use Rattle.sk_opts.specs.Matching.{BoundsOptions}
use Rattle.sk_opts.proofs.lines.prune_of.Goals as goal

pub words_of-requires : goal.words_of-requires
words_of-requires c = BoundsOptions
