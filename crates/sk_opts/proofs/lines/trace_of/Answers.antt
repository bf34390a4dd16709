use Rattle.sk_opts.specs.Matching.{TraceOptions}
use Rattle.sk_opts.proofs.lines.trace_of.Goals as goal

pub words_of-requires : goal.words_of-requires
words_of-requires c = TraceOptions
