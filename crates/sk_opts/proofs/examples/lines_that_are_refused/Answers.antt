use Rattle.sk_opts.proofs.Computed.{value_past_range, option_twice, option_for_value, positional_of_synth, value_missing, holes_of_exec, no_number_of_holes, all_of_none, all_past_hundred, all_without_number, all_of_two_numbers, rounds_of_all, positional_of_why}
use Rattle.sk_opts.proofs.examples.lines_that_are_refused.Goals as goal

pub returns : goal.returns
returns c = record { range = value_past_range; twice = option_twice; unknown = option_for_value; positional = positional_of_synth; missing = value_missing; exec_holes = holes_of_exec; empty_hole = no_number_of_holes; list_of_none = all_of_none; long_list = all_past_hundred; list_alone = all_without_number; two_numbers = all_of_two_numbers; list_rounds = rounds_of_all; causes_positional = positional_of_why }
