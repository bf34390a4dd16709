-- In which ranges numbers of options and bounds lie.
use Rattle.std.specs.Prelude.{ℕ, ◌≤◌, ◌-◌, Option, Some, None}
use Rattle.sk_base.specs.declared.bounds.Bounds.{Bounds}
use Rattle.sk_opts.specs.declared.line.Set.{Set}
use Rattle.sk_opts.specs.declared.line.Line.{Line}
use Rattle.sk_opts.specs.declared.line.Line.TheVariants as line
use Rattle.sk_opts.specs.declared.setting.Setting.{Setting}
use Rattle.sk_opts.specs.declared.setting.Setting.TheVariants.{HoleBits, InputBits, Turns, Calls, IntBits}
use Rattle.sk_opts.specs.Settings.{lowest, highest}

-- the number, where there is one, lies between these two
abbrev pub IsBetween : ℕ → ℕ → Option ℕ → Type 0
IsBetween low high None = Unit {0}
IsBetween low high (Some n) = (low ≤ n) × (n ≤ high)

-- it lies in the option's range
abbrev pub LiesIn : Setting → Option ℕ → Type 0
LiesIn s n = IsBetween (lowest s) (highest s) n

-- each number that options give lies in its range
pub record IsInRanges (set : Set) : Type 0 where
  pub cbits : LiesIn HoleBits set.cbits
  pub inbits : LiesIn InputBits set.inbits
  pub unroll : LiesIn Turns set.unroll
  pub inline_amnt : LiesIn Calls set.inline_amnt
  pub int_bits : LiesIn IntBits set.int_bits

-- the numbers of a line's set lie in their ranges, and so does the number of completions to list
abbrev pub LineIsInRanges : Line → Type 0
LineIsInRanges (line.Synth set budget cert) = IsInRanges set
LineIsInRanges (line.Exec set name values) = IsInRanges set
LineIsInRanges (line.Trace set name values holes) = IsInRanges set
LineIsInRanges (line.Lower set) = IsInRanges set
LineIsInRanges (line.Prune set) = IsInRanges set
LineIsInRanges (line.Check set) = IsInRanges set
LineIsInRanges (line.All set most) = IsInRanges set × IsBetween 1 100 (Some most)
LineIsInRanges (line.Why set) = IsInRanges set
LineIsInRanges (line.Itself n) = Unit {0}
LineIsInRanges line.Help = Unit {0}
LineIsInRanges line.Version = Unit {0}

-- Bounds as all that takes bounds asks for them: holes and inputs have a bit at least, and at most as many as an
-- `int` has without its sign.
pub record AreInRanges (bounds : Bounds) : Type 0 where
  pub int_bits : IsBetween 2 32 (Some bounds.int_bits)
  pub cbits : IsBetween 1 16 (Some bounds.cbits)
  pub inbits : IsBetween 1 16 (Some bounds.inbits)
  pub unroll : IsBetween 0 64 (Some bounds.unroll)
  pub inline_amnt : IsBetween 1 16 (Some bounds.inline_amnt)
  pub cbits_fit : bounds.cbits ≤ bounds.int_bits - 1
  pub inbits_fit : bounds.inbits ≤ bounds.int_bits - 1
