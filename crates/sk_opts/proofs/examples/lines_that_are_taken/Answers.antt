use Rattle.sk_opts.proofs.Computed.{synth_alone, synth_with_options, exec_before_option, exec_of_negative, self_of_seven, all_of_hundred, why_alone, trace_with_holes, trace_without_holes}
use Rattle.sk_opts.proofs.examples.lines_that_are_taken.Goals as goal

pub returns : goal.returns
returns c = record { synth = synth_alone; options = synth_with_options; exec = exec_before_option; negative = exec_of_negative; itself = self_of_seven; listing = all_of_hundred; causes = why_alone; trace = trace_with_holes; bare_trace = trace_without_holes }
