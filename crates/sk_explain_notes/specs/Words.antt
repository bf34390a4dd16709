-- What is told of words that are no command line: a title, and the lines behind it.
use Rattle.std.specs.Prelude.{ℕ, Bool, true, false, is_some, ◌&&◌, ◌==◌, List, [], ◌∷◌, ◌++◌, map, decimal, codes, Option, Some, None, if◌then◌else◌}
use Rattle.std.specs.List.{filter}
use Rattle.std.specs.Str.{bytes_eq}
use Rattle.sk_explain_notes.specs.Notes.{said, line_said, one, one_line}
use Rattle.sk_explain_notes.specs.Near.{nearest}
use Rattle.sk_explain_notes.specs.Numbers.{number_of, front_of}
use Rattle.sk_explain_notes.specs.Options.{command_word, command_of, command_has, command_range, choice_name, choices, choice_takes}
use Rattle.sk_explain_notes.specs.Slips.{slip_of}
use Rattle.sk_explain_notes.specs.declared.options.Command.{Command}
use Rattle.sk_explain_notes.specs.declared.options.Command.TheVariants as command
use Rattle.sk_explain_notes.specs.declared.options.Choice.{Choice}
use Rattle.sk_explain_notes.specs.declared.options.Range.{Range}
use Rattle.sk_explain_notes.specs.declared.options.Takes.{Takes}
use Rattle.sk_explain_notes.specs.declared.options.Takes.TheVariants as takes
use Rattle.sk_explain_notes.specs.declared.slips.Slip.{Slip}
use Rattle.sk_explain_notes.specs.declared.slips.Slip.TheVariants as slip

-- how the commands are called that run a function
abbrev pub run_lines : List ℕ
run_lines =
    one_line (codes "       sketch exec [OPTION].. NAME VALUE.. < PROGRAM")
    ++ one_line (codes "       sketch trace [OPTION].. NAME VALUE.. < SKETCH")

-- how the commands are called that take a text
abbrev pub command_lines : List ℕ
command_lines =
    one_line (codes "usage: sketch synth [OPTION].. < SKETCH")
    ++ run_lines
    ++ one_line (codes "       sketch lower [OPTION].. < SKETCH")
    ++ one_line (codes "       sketch prune [OPTION].. < PROGRAM")
    ++ one_line (codes "       sketch all [OPTION].. K < SKETCH")
    ++ one_line (codes "       sketch why [OPTION].. < SKETCH")

-- how the program is called
abbrev pub usage : List ℕ
usage = command_lines ++ one_line (codes "       sketch --help")

-- a question for a name that is nearly a word
abbrev pub question : Option (List ℕ) → List ℕ
question None = []
question (Some name) = said (codes "; is " ∷ name ∷ codes " meant?" ∷ [])

-- the commands and the lines of one word
abbrev pub command_names : List (List ℕ)
command_names = codes "synth" ∷ codes "exec" ∷ codes "trace" ∷ codes "lower" ∷ codes "prune" ∷ codes "all" ∷ codes "why" ∷ codes "check" ∷ codes "self" ∷ codes "--help" ∷ codes "--version" ∷ []

-- the names of the options of a command
abbrev pub names_of : Command → List (List ℕ)
names_of c = map choice_name (filter (command_has c) choices)

-- a minus sign and digits
abbrev pub is_below_zero : List ℕ → Bool
is_below_zero [] = false
is_below_zero (b ∷ bs) = (b == 45) && is_some (number_of bs)

-- a command takes the values of a function
abbrev pub takes_values : Command → Bool
takes_values command.Exec = true
takes_values command.Trace = true
takes_values command.Synth = false
takes_values command.Lower = false
takes_values command.Prune = false
takes_values command.All = false
takes_values command.Why = false
takes_values command.Check = false
takes_values command.Itself = false

-- a value below 0 looks like an option
abbrev pub is_value : Command → List ℕ → Bool
is_value c word = takes_values c && is_below_zero word

-- Titles

abbrev pub range_text : Range → List ℕ
range_text range = decimal range.low ++ one (codes " to ") ++ decimal range.high

abbrev pub takes_text : Takes → List ℕ
takes_text takes.Nothing = []
takes_text (takes.Number range) = range_text range
takes_text takes.Numbers = one (codes "numbers of 1 to 10 digits with commas between them")

abbrev pub wants_text : Takes → List ℕ
wants_text takes.Nothing = []
wants_text (takes.Number range) = one (codes " wants a number behind it, ") ++ range_text range
wants_text takes.Numbers = one (codes " wants numbers behind it, with commas between them")

-- a value that is not wanted: bare where it is a number
abbrev pub not_text : List ℕ → List ℕ
not_text value = if is_some (number_of value) then said (codes ", not " ∷ value ∷ []) else said (codes ", not '" ∷ value ∷ codes "'" ∷ [])

abbrev pub no_command_title : List ℕ → List ℕ
no_command_title word = said (codes "'" ∷ word ∷ codes "' is no command" ∷ []) ++ question (nearest word command_names)

abbrev pub unknown_title : Command → List ℕ → List ℕ
unknown_title c name = said (codes "unknown option " ∷ name ∷ []) ++ question (nearest name (names_of c))

abbrev pub value_title : List ℕ
value_title = one (codes "a value below 0 stands behind --")

abbrev pub early_title : Choice → List ℕ
early_title c = said (choice_name c ∷ codes " stands before the command" ∷ [])

abbrev pub no_option_title : Command → List ℕ → List ℕ
no_option_title c word = if is_value c word then value_title else unknown_title c (front_of 61 word)

abbrev pub no_others : Command → List ℕ
no_others c = said (command_word c ∷ codes " takes no other words" ∷ [])

abbrev pub extra_words : Command → List ℕ → List ℕ
extra_words c word = said (codes "'" ∷ word ∷ codes "' is no option, and " ∷ []) ++ no_others c

abbrev pub one_number : Command → List ℕ → List ℕ
one_number c word = said (command_word c ∷ codes " takes one number" ∷ []) ++ said (codes ", and not '" ∷ word ∷ codes "' too" ∷ [])

abbrev pub extra_title : Command → List ℕ → List ℕ
extra_title command.Itself word = one_number command.Itself word
extra_title command.All word = one_number command.All word
extra_title command.Why word = extra_words command.Why word
extra_title command.Synth word = extra_words command.Synth word
extra_title command.Exec word = extra_words command.Exec word
extra_title command.Trace word = extra_words command.Trace word
extra_title command.Lower word = extra_words command.Lower word
extra_title command.Prune word = extra_words command.Prune word
extra_title command.Check word = extra_words command.Check word

abbrev pub wants_number : Command → List ℕ
wants_number c = said (command_word c ∷ codes " wants a number, " ∷ []) ++ range_text (command_range c)

abbrev pub missing_title : Command → List ℕ
missing_title command.Exec = one (codes "exec wants the name of a function")
missing_title command.Trace = one (codes "trace wants the name of a function")
missing_title command.Synth = wants_number command.Synth
missing_title command.Lower = wants_number command.Lower
missing_title command.Prune = wants_number command.Prune
missing_title command.All = wants_number command.All
missing_title command.Why = wants_number command.Why
missing_title command.Check = wants_number command.Check
missing_title command.Itself = wants_number command.Itself

abbrev pub slip_title : Slip → List ℕ → List ℕ
slip_title slip.NoWords word = one (codes "the words are a command and its options, and there are none")
slip_title slip.NoCommand word = no_command_title word
slip_title (slip.Early c) word = early_title c
slip_title slip.NotAlone word = said (word ∷ codes " stands alone" ∷ [])
slip_title (slip.NoOption c) word = no_option_title c word
slip_title (slip.OfOthers c option) word = said (choice_name option ∷ codes " is no option of " ∷ command_word c ∷ [])
slip_title (slip.NoValue c) word = one (choice_name c) ++ wants_text (choice_takes c)
slip_title (slip.BadValue c) word = said (choice_name c ∷ codes " is " ∷ []) ++ takes_text (choice_takes c) ++ not_text word
slip_title (slip.Valued c) word = said (choice_name c ∷ codes " takes no value" ∷ [])
slip_title (slip.Twice c) word = said (choice_name c ∷ codes " stands twice" ∷ [])
slip_title (slip.Extra c) word = extra_title c word
slip_title (slip.Missing c) word = missing_title c
slip_title (slip.BadNumber c) word = said (command_word c ∷ codes " takes a number, " ∷ []) ++ range_text (command_range c) ++ said (codes ", not '" ∷ word ∷ codes "'" ∷ [])
slip_title slip.Nothing word = []

-- Lines behind the title

abbrev pub alone_notes : List ℕ → List ℕ
alone_notes word = if bytes_eq word (codes "--help") then usage else line_said (codes "as in: sketch " ∷ word ∷ [])

abbrev pub value_notes : Command → List ℕ → List ℕ
value_notes c word = said (codes "as in: sketch " ∷ command_word c ∷ []) ++ line_said (codes " NAME -- " ∷ word ∷ [])

abbrev pub unknown_notes : List ℕ
unknown_notes = one_line (codes "sketch --help lists the options")

abbrev pub no_option_notes : Command → List ℕ → List ℕ
no_option_notes c word = if is_value c word then value_notes c word else unknown_notes

abbrev pub input_notes : Command → List ℕ → List ℕ
input_notes c word = said (command_word c ∷ codes " reads standard input: sketch " ∷ []) ++ one (command_word c) ++ line_said (codes " < " ∷ word ∷ [])

abbrev pub extra_notes : Command → List ℕ → List ℕ
extra_notes command.Itself word = []
extra_notes command.All word = []
extra_notes command.Why word = input_notes command.Why word
extra_notes command.Synth word = input_notes command.Synth word
extra_notes command.Exec word = input_notes command.Exec word
extra_notes command.Trace word = input_notes command.Trace word
extra_notes command.Lower word = input_notes command.Lower word
extra_notes command.Prune word = input_notes command.Prune word
extra_notes command.Check word = input_notes command.Check word

abbrev pub listing_notes : List ℕ
listing_notes = one_line (codes "as in: sketch all K < SKETCH")

abbrev pub missing_notes : Command → List ℕ
missing_notes command.Exec = one_line (codes "as in: sketch exec NAME VALUE.. < PROGRAM")
missing_notes command.Trace = one_line (codes "as in: sketch trace NAME VALUE.. < SKETCH")
missing_notes command.Synth = []
missing_notes command.Lower = []
missing_notes command.Prune = []
missing_notes command.All = listing_notes
missing_notes command.Why = []
missing_notes command.Check = []
missing_notes command.Itself = []

abbrev pub slip_notes : Slip → List ℕ → List ℕ
slip_notes slip.NoWords word = usage
slip_notes slip.NoCommand word = usage
slip_notes (slip.Early c) word = usage
slip_notes slip.NotAlone word = alone_notes word
slip_notes (slip.NoOption c) word = no_option_notes c word
slip_notes (slip.OfOthers c option) word = []
slip_notes (slip.NoValue c) word = []
slip_notes (slip.BadValue c) word = []
slip_notes (slip.Valued c) word = []
slip_notes (slip.Twice c) word = []
slip_notes (slip.Extra c) word = extra_notes c word
slip_notes (slip.Missing c) word = missing_notes c
slip_notes (slip.BadNumber c) word = []
slip_notes slip.Nothing word = usage

-- of words

abbrev pub words_title : List (List ℕ) → List ℕ
words_title words = slip_title (slip_of words).slip (slip_of words).word

abbrev pub words_notes : List (List ℕ) → List ℕ
words_notes words = slip_notes (slip_of words).slip (slip_of words).word
