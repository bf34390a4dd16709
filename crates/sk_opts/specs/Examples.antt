-- Command lines that are taken and refused, bounds, and values of `exec`.
use Rattle.std.specs.Prelude.{◌≡◌, ℕ, pos, ◌-ℤ◌, true, false, List, [], ◌∷◌, Some, None, codes}
use Rattle.sk_base.specs.declared.bounds.Bounds.{Bounds}
use Rattle.sk_base.specs.declared.bounds.Budget.{Budget}
use Rattle.sk_tree.specs.declared.item.Item.TheVariants as item
use Rattle.sk_tree.specs.declared.item.Tree.{Tree}
use Rattle.sk_prog.specs.declared.ty.Elem.TheVariants as elem
use Rattle.sk_prog.specs.declared.ty.Ty.TheVariants as ty
use Rattle.sk_prog.specs.declared.value.Value.TheVariants as value
use Rattle.sk_opts.specs.declared.line.Set.{Set}
use Rattle.sk_opts.specs.declared.line.Line.{Line}
use Rattle.sk_opts.specs.declared.line.Line.TheVariants as line
use Rattle.sk_opts.specs.CommandLine.{IsLine}
use Rattle.sk_opts.specs.BoundsOf.{bounds_of}
use Rattle.sk_opts.specs.SpeltValues.{spells_value}

abbrev pub Taken : List (List ℕ) → Line → Type 0
Taken words l = IsLine words l

abbrev pub Refused : List (List ℕ) → Type 0
Refused words = (l : Line) → IsLine words l → ⊥

abbrev pub no_set : Set
no_set = record { cbits = None; inbits = None; unroll = None; inline_amnt = None; int_bits = None }

abbrev pub no_budget : Budget
no_budget = record { rounds = 0; conflicts = 0 }

abbrev pub with_int_bits : ℕ → Set
with_int_bits n = record { cbits = None; inbits = None; unroll = None; inline_amnt = None; int_bits = Some n }

-- Lines that are taken

abbrev pub SynthAlone : Type 0
SynthAlone = Taken (codes "synth" ∷ []) (line.Synth no_set no_budget false)

abbrev pub SynthWithOptions : Type 0
SynthWithOptions =
    Taken (codes "synth" ∷ codes "--cert" ∷ codes "--bnd-cbits=3" ∷ codes "--rounds" ∷ codes "5" ∷ [])
    (line.Synth (record { cbits = Some 3; inbits = None; unroll = None; inline_amnt = None; int_bits = None }) (record { rounds = 5; conflicts = 0 }) true)

abbrev pub ExecBeforeOption : Type 0
ExecBeforeOption =
    Taken (codes "exec" ∷ codes "f" ∷ codes "2147483647" ∷ codes "--int-bits" ∷ codes "32" ∷ [])
    (line.Exec (with_int_bits 32) (codes "f") (codes "2147483647" ∷ []))

-- Behind `--` a word with a minus sign is a value.
abbrev pub ExecOfNegative : Type 0
ExecOfNegative = Taken (codes "exec" ∷ codes "f" ∷ codes "--" ∷ codes "-1" ∷ []) (line.Exec no_set (codes "f") (codes "-1" ∷ []))

abbrev pub SelfOfSeven : Type 0
SelfOfSeven = Taken (codes "self" ∷ codes "7" ∷ []) (line.Itself 7)

abbrev pub AllOfHundred : Type 0
AllOfHundred = Taken (codes "all" ∷ codes "100" ∷ codes "--int-bits=8" ∷ []) (line.All (with_int_bits 8) 100)

abbrev pub WhyAlone : Type 0
WhyAlone = Taken (codes "why" ∷ []) (line.Why no_set)

-- Numbers for holes are numbers of 1 to 10 digits.
abbrev pub TraceWithHoles : Type 0
TraceWithHoles =
    Taken (codes "trace" ∷ codes "f" ∷ codes "--holes" ∷ codes "3,9999999999,0" ∷ codes "4" ∷ [])
    (line.Trace no_set (codes "f") (codes "4" ∷ []) (Some (3 ∷ 9999999999 ∷ 0 ∷ [])))

abbrev pub TraceWithoutHoles : Type 0
TraceWithoutHoles = Taken (codes "trace" ∷ codes "f" ∷ []) (line.Trace no_set (codes "f") [] None)

-- Lines that are refused

abbrev pub ValuePastRange : Type 0
ValuePastRange = Refused (codes "synth" ∷ codes "--bnd-cbits" ∷ codes "17" ∷ [])

abbrev pub OptionTwice : Type 0
OptionTwice = Refused (codes "synth" ∷ codes "--cert" ∷ codes "--cert" ∷ [])

abbrev pub OptionForValue : Type 0
OptionForValue = Refused (codes "exec" ∷ codes "f" ∷ codes "-1" ∷ [])

abbrev pub PositionalOfSynth : Type 0
PositionalOfSynth = Refused (codes "synth" ∷ codes "x" ∷ [])

abbrev pub ValueMissing : Type 0
ValueMissing = Refused (codes "check" ∷ codes "--int-bits" ∷ [])

abbrev pub HolesOfExec : Type 0
HolesOfExec = Refused (codes "exec" ∷ codes "f" ∷ codes "--holes" ∷ codes "1" ∷ [])

abbrev pub NoNumberOfHoles : Type 0
NoNumberOfHoles = Refused (codes "trace" ∷ codes "f" ∷ codes "--holes" ∷ codes "1,,2" ∷ [])

abbrev pub AllOfNone : Type 0
AllOfNone = Refused (codes "all" ∷ codes "0" ∷ [])

abbrev pub AllPastHundred : Type 0
AllPastHundred = Refused (codes "all" ∷ codes "101" ∷ [])

abbrev pub AllWithoutNumber : Type 0
AllWithoutNumber = Refused (codes "all" ∷ [])

abbrev pub AllOfTwoNumbers : Type 0
AllOfTwoNumbers = Refused (codes "all" ∷ codes "1" ∷ codes "2" ∷ [])

abbrev pub RoundsOfAll : Type 0
RoundsOfAll = Refused (codes "all" ∷ codes "1" ∷ codes "--rounds=5" ∷ [])

abbrev pub PositionalOfWhy : Type 0
PositionalOfWhy = Refused (codes "why" ∷ codes "1" ∷ [])

-- Bounds

-- two pragmas, of which the later wins, and options for two bounds
abbrev pub two_pragmas : Tree
two_pragmas = record {
  items =
      item.Pragma (codes "options") (codes "--bnd-unroll-amnt 9 --other 3 --bnd-inbits 4")
      ∷ item.Pragma (codes "options") (codes "--bnd-unroll-amnt 7  --bnd-cbits 16 --bnd-inbits 99") ∷ [];
}

abbrev pub BoundsOfPragmas : Type 0
BoundsOfPragmas = bounds_of (with_int_bits 6) two_pragmas ≡ record { int_bits = 6; cbits = 5; inbits = 4; unroll = 7; inline_amnt = 5 }

-- A word of the four is passed over where the next word is no number; so is a number behind another word, and one that
-- is joined by `=`.
abbrev pub passing_over : Tree
passing_over = record { items = item.Pragma (codes "options") (codes "--bnd-cbits --bnd-inbits 4 3 --bnd-cbits=2 other 9") ∷ [] }

abbrev pub BoundsPassedOver : Type 0
BoundsPassedOver = bounds_of no_set passing_over ≡ record { int_bits = 16; cbits = 5; inbits = 4; unroll = 8; inline_amnt = 5 }

-- Values

abbrev pub defaults : Bounds
defaults = record { int_bits = 16; cbits = 5; inbits = 5; unroll = 8; inline_amnt = 5 }

abbrev pub GridOfBits : Type 0
GridOfBits =
    spells_value defaults (ty.Grid elem.Bit 2 2) (codes "1,0,0,0")
    ≡ Some (value.Array (value.Array (value.Bit true ∷ value.Bit false ∷ []) ∷ value.Array (value.Bit false ∷ value.Bit false ∷ []) ∷ []))

abbrev pub TooFewScalars : Type 0
TooFewScalars = spells_value defaults (ty.Array elem.Int 3) (codes "1,2") ≡ None

abbrev pub NegativeInt : Type 0
NegativeInt = spells_value defaults (ty.One elem.Int) (codes "-12") ≡ Some (value.Int (pos 0 -ℤ pos 12))
