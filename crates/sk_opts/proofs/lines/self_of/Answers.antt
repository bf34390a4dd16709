use Rattle.sk_opts.specs.Matching.{NoOptions}
use Rattle.sk_opts.proofs.lines.self_of.Goals as goal

pub words_of-requires : goal.words_of-requires
words_of-requires c = NoOptions
