use Rattle.sk_opts.specs.Matching.{SynthOptions}
use Rattle.sk_opts.proofs.lines.synth_of.Goals as goal

pub words_of-requires : goal.words_of-requires
words_of-requires c = SynthOptions
