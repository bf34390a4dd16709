-- The commands, their options, and what stands behind these.
use Rattle.std.specs.Prelude.{ℕ, Bool, true, false, not, ◌||◌, ◌&&◌, nat_le, List, [], ◌∷◌, Option, Some, None, if◌then◌else◌, codes}
use Rattle.std.specs.Str.{bytes_eq}
use Rattle.sk_explain_notes.specs.Numbers.{number_of, are_numbers}
use Rattle.sk_explain_notes.specs.declared.options.Command.{Command}
use Rattle.sk_explain_notes.specs.declared.options.Command.TheVariants as command
use Rattle.sk_explain_notes.specs.declared.options.Choice.{Choice}
use Rattle.sk_explain_notes.specs.declared.options.Choice.TheVariants as choice
use Rattle.sk_explain_notes.specs.declared.options.Range.{Range}
use Rattle.sk_explain_notes.specs.declared.options.Takes.{Takes}
use Rattle.sk_explain_notes.specs.declared.options.Takes.TheVariants as takes

-- Commands

abbrev pub command_word : Command → List ℕ
command_word command.Synth = codes "synth"
command_word command.Exec = codes "exec"
command_word command.Trace = codes "trace"
command_word command.Lower = codes "lower"
command_word command.Prune = codes "prune"
command_word command.All = codes "all"
command_word command.Why = codes "why"
command_word command.Check = codes "check"
command_word command.Itself = codes "self"

abbrev pub commands : List Command
commands = command.Synth ∷ command.Exec ∷ command.Trace ∷ command.Lower ∷ command.Prune ∷ command.All ∷ command.Why ∷ command.Check ∷ command.Itself ∷ []

-- the one of these that a word is
abbrev pub command_among : List Command → List ℕ → Option Command
command_among [] word = None
command_among (c ∷ cs) word = if bytes_eq word (command_word c) then Some c else command_among cs word

-- the command that a word is
abbrev pub command_of : List ℕ → Option Command
command_of word = command_among commands word

-- Options

abbrev pub choice_name : Choice → List ℕ
choice_name choice.HoleBits = codes "--bnd-cbits"
choice_name choice.InputBits = codes "--bnd-inbits"
choice_name choice.Turns = codes "--bnd-unroll-amnt"
choice_name choice.Calls = codes "--bnd-inline-amnt"
choice_name choice.IntBits = codes "--int-bits"
choice_name choice.Rounds = codes "--rounds"
choice_name choice.Conflicts = codes "--conflicts"
choice_name choice.Certificate = codes "--cert"
choice_name choice.Holes = codes "--holes"

abbrev pub choices : List Choice
choices =
    choice.HoleBits
    ∷ choice.InputBits
    ∷ choice.Turns
    ∷ choice.Calls
    ∷ choice.IntBits
    ∷ choice.Rounds
    ∷ choice.Conflicts
    ∷ choice.Certificate
    ∷ choice.Holes
    ∷ []

-- the one of these that is spelt so
abbrev pub choice_among : List Choice → List ℕ → Option Choice
choice_among [] word = None
choice_among (c ∷ cs) word = if bytes_eq word (choice_name c) then Some c else choice_among cs word

-- the option that is spelt so
abbrev pub choice_of : List ℕ → Option Choice
choice_of word = choice_among choices word

abbrev pub is_holes : Choice → Bool
is_holes choice.Holes = true
is_holes choice.HoleBits = false
is_holes choice.InputBits = false
is_holes choice.Turns = false
is_holes choice.Calls = false
is_holes choice.IntBits = false
is_holes choice.Rounds = false
is_holes choice.Conflicts = false
is_holes choice.Certificate = false

-- it sets a bound
abbrev pub is_bound : Choice → Bool
is_bound choice.HoleBits = true
is_bound choice.InputBits = true
is_bound choice.Turns = true
is_bound choice.Calls = true
is_bound choice.IntBits = true
is_bound choice.Rounds = false
is_bound choice.Conflicts = false
is_bound choice.Certificate = false
is_bound choice.Holes = false

-- a pragma can set it
abbrev pub is_of_pragmas : Choice → Bool
is_of_pragmas choice.HoleBits = true
is_of_pragmas choice.InputBits = true
is_of_pragmas choice.Turns = true
is_of_pragmas choice.Calls = true
is_of_pragmas choice.IntBits = false
is_of_pragmas choice.Rounds = false
is_of_pragmas choice.Conflicts = false
is_of_pragmas choice.Certificate = false
is_of_pragmas choice.Holes = false

-- which options a command has
abbrev pub command_has : Command → Choice → Bool
command_has command.Synth c = not (is_holes c)
command_has command.Exec c = is_bound c
command_has command.Trace c = is_holes c || is_bound c
command_has command.Lower c = is_bound c
command_has command.Prune c = is_bound c
command_has command.All c = is_bound c
command_has command.Why c = is_bound c
command_has command.Check c = is_bound c
command_has command.Itself c = false

-- the numbers that a command takes, where it takes one
abbrev pub command_range : Command → Range
command_range command.All = record { low = 1; high = 100 }
command_range command.Synth = record { low = 0; high = 60 }
command_range command.Exec = record { low = 0; high = 60 }
command_range command.Trace = record { low = 0; high = 60 }
command_range command.Lower = record { low = 0; high = 60 }
command_range command.Prune = record { low = 0; high = 60 }
command_range command.Why = record { low = 0; high = 60 }
command_range command.Check = record { low = 0; high = 60 }
command_range command.Itself = record { low = 0; high = 60 }

-- a number of its own for each option, a power of two
abbrev pub choice_bit : Choice → ℕ
choice_bit choice.HoleBits = 1
choice_bit choice.InputBits = 2
choice_bit choice.Turns = 4
choice_bit choice.Calls = 8
choice_bit choice.IntBits = 16
choice_bit choice.Rounds = 32
choice_bit choice.Conflicts = 64
choice_bit choice.Certificate = 128
choice_bit choice.Holes = 256

-- What stands behind an option

abbrev pub one_of : ℕ → ℕ → Takes
one_of low high = takes.Number (record { low = low; high = high })

abbrev pub choice_takes : Choice → Takes
choice_takes choice.HoleBits = one_of 1 16
choice_takes choice.InputBits = one_of 1 16
choice_takes choice.Turns = one_of 0 64
choice_takes choice.Calls = one_of 1 16
choice_takes choice.IntBits = one_of 6 32
choice_takes choice.Rounds = one_of 0 1000000
choice_takes choice.Conflicts = one_of 0 1000000000
choice_takes choice.Certificate = takes.Nothing
choice_takes choice.Holes = takes.Numbers

abbrev pub range_of : Takes → Option Range
range_of takes.Nothing = None
range_of (takes.Number range) = Some range
range_of takes.Numbers = None

-- a number of the range
abbrev pub lies_in : Range → Option ℕ → Bool
lies_in range None = false
lies_in range (Some n) = nat_le range.low n && nat_le n range.high

-- a word spells a number of the range
abbrev pub range_has : Range → List ℕ → Bool
range_has range word = lies_in range (number_of word)

-- a word is what stands behind an option
abbrev pub takes_word : Takes → List ℕ → Bool
takes_word takes.Nothing word = false
takes_word (takes.Number range) word = range_has range word
takes_word takes.Numbers word = are_numbers word
