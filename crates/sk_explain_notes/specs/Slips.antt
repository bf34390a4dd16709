-- What is wrong with words that are no command line: the first slip from the left.
use Rattle.std.specs.Prelude.{ℕ, ◌==◌, Bool, true, false, not, ◌&&◌, ◌||◌, List, [], ◌∷◌, Option, Some, None, is_some, if◌then◌else◌, codes, bit_and, bit_or}
use Rattle.std.specs.Str.{bytes_eq}
use Rattle.sk_explain_notes.specs.Numbers.{front_of, back_of}
use Rattle.sk_explain_notes.specs.Options.{command_of, command_has, command_range, choice_of, choice_bit, choice_takes, takes_word, range_has}
use Rattle.sk_explain_notes.specs.declared.options.Command.{Command}
use Rattle.sk_explain_notes.specs.declared.options.Command.TheVariants as command
use Rattle.sk_explain_notes.specs.declared.options.Choice.{Choice}
use Rattle.sk_explain_notes.specs.declared.options.Takes.{Takes}
use Rattle.sk_explain_notes.specs.declared.options.Takes.TheVariants as takes
use Rattle.sk_explain_notes.specs.declared.slips.Slip.{Slip}
use Rattle.sk_explain_notes.specs.declared.slips.Slip.TheVariants as slip
use Rattle.sk_explain_notes.specs.declared.slips.Walk.{Walk}
use Rattle.sk_explain_notes.specs.declared.slips.Found.{Found}

-- a slip with the word, or the value, that it is of; no bytes where it is of none
pub record Wrong : Type 0 where
  pub slip : Slip
  pub word : List ℕ

abbrev pub of_word : Slip → List ℕ → Wrong
of_word s w = record { slip = s; word = w }

abbrev pub of_none : Slip → Wrong
of_none s = of_word s []

abbrev pub wrong_of : Found → Wrong
wrong_of f = record { slip = f.slip; word = f.word.now }

-- an option begins with a minus sign and is longer than that
abbrev pub is_option : List ℕ → Bool
is_option [] = false
is_option (b ∷ []) = false
is_option (b ∷ c ∷ bs) = b == 45

-- a line of its own
abbrev pub is_lonely : List ℕ → Bool
is_lonely word = bytes_eq word (codes "--help") || bytes_eq word (codes "--version")

-- The next word

abbrev pub value_slip : Choice → List ℕ → Option Wrong
value_slip c v = if takes_word (choice_takes c) v then None else Some (of_word (slip.BadValue c) v)

-- of an option that takes this, with the value that stands in its word
abbrev pub given_slip : Choice → Takes → Option (List ℕ) → Option Wrong
given_slip c takes.Nothing None = None
given_slip c takes.Nothing (Some v) = Some (of_none (slip.Valued c))
given_slip c (takes.Number range) None = None
given_slip c (takes.Number range) (Some v) = value_slip c v
given_slip c takes.Numbers None = None
given_slip c takes.Numbers (Some v) = value_slip c v

-- the option stood there before
abbrev pub is_seen : ℕ → Choice → Bool
is_seen seen c = not (bit_and seen (choice_bit c) == 0)

-- of an option, with the value that stands in its word
abbrev pub choice_slip : Walk → Choice → Option (List ℕ) → Option Wrong
choice_slip w c value =
    if not (command_has w.command c) then Some (of_none (slip.OfOthers w.command c))
    else if is_seen w.seen c then Some (of_none (slip.Twice c))
    else given_slip c (choice_takes c) value

-- of an option, or of none
abbrev pub named_slip : Walk → List ℕ → Option Choice → Option Wrong
named_slip w word None = Some (of_word (slip.NoOption w.command) word)
named_slip w word (Some c) = choice_slip w c (back_of 61 word)

abbrev pub option_slip : Walk → List ℕ → Option Wrong
option_slip w word = if is_lonely word then Some (of_word slip.NotAlone word) else named_slip w word (choice_of (front_of 61 word))

-- of a word that is to be a number of the command
abbrev pub number_slip : Command → List ℕ → Option Wrong
number_slip c word = if range_has (command_range c) word then None else Some (of_word (slip.BadNumber c) word)

-- of a word that is no option, where such a word stood before or none did
abbrev pub other_slip : Command → Bool → List ℕ → Option Wrong
other_slip command.Exec others word = None
other_slip command.Trace others word = None
other_slip command.Synth others word = Some (of_word (slip.Extra command.Synth) word)
other_slip command.Lower others word = Some (of_word (slip.Extra command.Lower) word)
other_slip command.Prune others word = Some (of_word (slip.Extra command.Prune) word)
other_slip command.Why others word = Some (of_word (slip.Extra command.Why) word)
other_slip command.Check others word = Some (of_word (slip.Extra command.Check) word)
other_slip command.All others word = if others then Some (of_word (slip.Extra command.All) word) else number_slip command.All word
other_slip command.Itself others word = if others then Some (of_word (slip.Extra command.Itself) word) else number_slip command.Itself word

-- a word is taken as no option
abbrev pub is_other : Walk → List ℕ → Bool
is_other w word = w.ended || not (is_option word)

-- of a word that is no value
abbrev pub free_slip : Walk → List ℕ → Option Wrong
free_slip w word =
    if is_other w word then other_slip w.command w.others word
    else if bytes_eq word (codes "--") then None
    else option_slip w word

abbrev pub slip_at : Walk → Option Choice → List ℕ → Option Wrong
slip_at w None word = free_slip w word
slip_at w (Some c) word = value_slip c word

-- what is wrong with the next word
abbrev pub word_slip : Walk → List ℕ → Option Wrong
word_slip w word = slip_at w w.waiting word

-- What was seen with that word

-- the option whose value comes next, where its word has none
abbrev pub awaited : Choice → Takes → Bool → Option Choice
awaited c takes.Nothing has_value = None
awaited c (takes.Number range) has_value = if has_value then None else Some c
awaited c takes.Numbers has_value = if has_value then None else Some c

abbrev pub see_choice : Walk → Option Choice → Bool → Walk
see_choice w None has_value = w
see_choice w (Some c) has_value =
    record { command = w.command; waiting = awaited c (choice_takes c) has_value; ended = w.ended; seen = bit_or w.seen (choice_bit c); others = w.others }

abbrev pub see_free : Walk → List ℕ → Walk
see_free w word =
    if is_other w word then record { command = w.command; waiting = w.waiting; ended = w.ended; seen = w.seen; others = true }
    else if bytes_eq word (codes "--") then record { command = w.command; waiting = w.waiting; ended = true; seen = w.seen; others = w.others }
    else see_choice w (choice_of (front_of 61 word)) (is_some (back_of 61 word))

abbrev pub see_at : Walk → Option Choice → List ℕ → Walk
see_at w None word = see_free w word
see_at w (Some c) word = record { command = w.command; waiting = None; ended = w.ended; seen = w.seen; others = w.others }

abbrev pub see : Walk → List ℕ → Walk
see w word = see_at w w.waiting word

-- Behind the last word

-- it wants a word that is no option
abbrev pub wants_word : Command → Bool
wants_word command.Exec = true
wants_word command.Trace = true
wants_word command.All = true
wants_word command.Itself = true
wants_word command.Synth = false
wants_word command.Lower = false
wants_word command.Prune = false
wants_word command.Why = false
wants_word command.Check = false

abbrev pub end_at : Walk → Option Choice → Wrong
end_at w (Some c) = of_none (slip.NoValue c)
end_at w None = if wants_word w.command && not w.others then of_none (slip.Missing w.command) else of_none slip.Nothing

abbrev pub end_slip : Walk → Wrong
end_slip w = end_at w w.waiting

-- All words

abbrev pub or_else : Option Wrong → Wrong → Wrong
or_else None other = other
or_else (Some it) other = it

-- of the words behind a command, where so much was seen before
abbrev pub slip_from : Walk → List (List ℕ) → Wrong
slip_from w [] = end_slip w
slip_from w (word ∷ words) = or_else (word_slip w word) (slip_from (see w word) words)

abbrev pub begun : Command → Walk
begun c = record { command = c; waiting = None; ended = false; seen = 0; others = false }

abbrev pub lonely_slip : List ℕ → List (List ℕ) → Wrong
lonely_slip word [] = of_none slip.Nothing
lonely_slip word (next ∷ words) = of_word slip.NotAlone word

abbrev pub early_slip : List ℕ → Option Choice → Wrong
early_slip word None = of_word slip.NoCommand word
early_slip word (Some c) = of_none (slip.Early c)

-- of a first word that is no command
abbrev pub first_slip : List ℕ → List (List ℕ) → Wrong
first_slip word words = if is_lonely word then lonely_slip word words else early_slip word (choice_of (front_of 61 word))

abbrev pub slip_behind : Option Command → List ℕ → List (List ℕ) → Wrong
slip_behind None word words = first_slip word words
slip_behind (Some c) word words = slip_from (begun c) words

-- what is wrong with words, from the left
abbrev pub slip_of : List (List ℕ) → Wrong
slip_of [] = of_none slip.NoWords
slip_of (word ∷ words) = slip_behind (command_of word) word words
