-- The examples, computed.
use Rattle.std.proofs.Common.{refl, true, false, [], ◌∷◌, Some, None, codes}
use Rattle.sk_tree.specs.Shapes.{is_blank, is_digit}
use Rattle.sk_tree.specs.Tokens.{number_of}
use Rattle.sk_opts.specs.declared.line.Line.TheVariants as line
use Rattle.sk_opts.specs.Reader.{line_of}
use Rattle.sk_opts.specs.BoundsOf.{bounds_of}
use Rattle.sk_opts.specs.SpeltValues.{spells_value}
use Rattle.sk_opts.proofs.LineLaws.{found_is_line, none_is_line}
use Rattle.sk_opts.specs.Examples.{SynthAlone, SynthWithOptions, ExecBeforeOption, ExecOfNegative, SelfOfSeven, AllOfHundred, WhyAlone, TraceWithHoles, TraceWithoutHoles, ValuePastRange, OptionTwice, OptionForValue, PositionalOfSynth, ValueMissing, HolesOfExec, NoNumberOfHoles, AllOfNone, AllPastHundred, AllWithoutNumber, AllOfTwoNumbers, RoundsOfAll, PositionalOfWhy, BoundsOfPragmas, BoundsPassedOver, no_set, no_budget, with_int_bits, GridOfBits, TooFewScalars, NegativeInt}

pub synth_alone : SynthAlone
unfolding line_of
synth_alone = found_is_line (codes "synth" ∷ []) (line.Synth no_set no_budget false) refl

pub synth_with_options : SynthWithOptions
unfolding line_of is_digit number_of
synth_with_options = found_is_line (codes "synth" ∷ codes "--cert" ∷ codes "--bnd-cbits=3" ∷ codes "--rounds" ∷ codes "5" ∷ []) (line.Synth (record { cbits = Some 3; inbits = None; unroll = None; inline_amnt = None; int_bits = None }) (record { rounds = 5; conflicts = 0 }) true) refl

pub exec_before_option : ExecBeforeOption
unfolding line_of is_digit number_of
exec_before_option = found_is_line (codes "exec" ∷ codes "f" ∷ codes "2147483647" ∷ codes "--int-bits" ∷ codes "32" ∷ []) (line.Exec (with_int_bits 32) (codes "f") (codes "2147483647" ∷ [])) refl

pub exec_of_negative : ExecOfNegative
unfolding line_of
exec_of_negative = found_is_line (codes "exec" ∷ codes "f" ∷ codes "--" ∷ codes "-1" ∷ []) (line.Exec no_set (codes "f") (codes "-1" ∷ [])) refl

pub self_of_seven : SelfOfSeven
unfolding line_of is_digit number_of
self_of_seven = found_is_line (codes "self" ∷ codes "7" ∷ []) (line.Itself 7) refl

pub all_of_hundred : AllOfHundred
unfolding line_of is_digit number_of
all_of_hundred = found_is_line (codes "all" ∷ codes "100" ∷ codes "--int-bits=8" ∷ []) (line.All (with_int_bits 8) 100) refl

pub why_alone : WhyAlone
unfolding line_of
why_alone = found_is_line (codes "why" ∷ []) (line.Why no_set) refl

pub trace_with_holes : TraceWithHoles
unfolding line_of is_digit number_of
trace_with_holes = found_is_line (codes "trace" ∷ codes "f" ∷ codes "--holes" ∷ codes "3,9999999999,0" ∷ codes "4" ∷ []) (line.Trace no_set (codes "f") (codes "4" ∷ []) (Some (3 ∷ 9999999999 ∷ 0 ∷ []))) refl

pub trace_without_holes : TraceWithoutHoles
unfolding line_of
trace_without_holes = found_is_line (codes "trace" ∷ codes "f" ∷ []) (line.Trace no_set (codes "f") [] None) refl

pub value_past_range : ValuePastRange
unfolding line_of is_digit number_of
value_past_range = none_is_line (codes "synth" ∷ codes "--bnd-cbits" ∷ codes "17" ∷ []) refl

pub option_twice : OptionTwice
unfolding line_of
option_twice = none_is_line (codes "synth" ∷ codes "--cert" ∷ codes "--cert" ∷ []) refl

pub option_for_value : OptionForValue
unfolding line_of
option_for_value = none_is_line (codes "exec" ∷ codes "f" ∷ codes "-1" ∷ []) refl

pub positional_of_synth : PositionalOfSynth
unfolding line_of
positional_of_synth = none_is_line (codes "synth" ∷ codes "x" ∷ []) refl

pub value_missing : ValueMissing
unfolding line_of
value_missing = none_is_line (codes "check" ∷ codes "--int-bits" ∷ []) refl

pub holes_of_exec : HolesOfExec
unfolding line_of
holes_of_exec = none_is_line (codes "exec" ∷ codes "f" ∷ codes "--holes" ∷ codes "1" ∷ []) refl

pub no_number_of_holes : NoNumberOfHoles
unfolding line_of is_digit number_of
no_number_of_holes = none_is_line (codes "trace" ∷ codes "f" ∷ codes "--holes" ∷ codes "1,,2" ∷ []) refl

pub all_of_none : AllOfNone
unfolding line_of is_digit number_of
all_of_none = none_is_line (codes "all" ∷ codes "0" ∷ []) refl

pub all_past_hundred : AllPastHundred
unfolding line_of is_digit number_of
all_past_hundred = none_is_line (codes "all" ∷ codes "101" ∷ []) refl

pub all_without_number : AllWithoutNumber
unfolding line_of
all_without_number = none_is_line (codes "all" ∷ []) refl

pub all_of_two_numbers : AllOfTwoNumbers
unfolding line_of
all_of_two_numbers = none_is_line (codes "all" ∷ codes "1" ∷ codes "2" ∷ []) refl

pub rounds_of_all : RoundsOfAll
unfolding line_of
rounds_of_all = none_is_line (codes "all" ∷ codes "1" ∷ codes "--rounds=5" ∷ []) refl

pub positional_of_why : PositionalOfWhy
unfolding line_of
positional_of_why = none_is_line (codes "why" ∷ codes "1" ∷ []) refl

pub bounds_of_pragmas : BoundsOfPragmas
unfolding bounds_of is_blank is_digit number_of
bounds_of_pragmas = refl

pub bounds_passed_over : BoundsPassedOver
unfolding bounds_of is_blank is_digit number_of
bounds_passed_over = refl

pub grid_of_bits : GridOfBits
unfolding spells_value
grid_of_bits = refl

pub too_few_scalars : TooFewScalars
unfolding spells_value
too_few_scalars = refl

pub negative_int : NegativeInt
unfolding spells_value is_digit number_of
negative_int = refl
