-- What the pragmas and the options that are left come to, behind what was read.
use Rattle.std.specs.Prelude.{◌≡◌, ℕ, List, [], ◌∷◌, ◌++◌, Option, Some, None, not, Bool, if◌then◌else◌}
use Rattle.sk_tree.specs.Shapes.{is_blank}
use Rattle.sk_opts.specs.declared.line.Set.{Set}
use Rattle.sk_opts.specs.declared.setting.Setting.{Setting}
use Rattle.sk_opts.specs.declared.setting.Setting.TheVariants.{Certificate, HoleBits, InputBits, Turns, Calls, IntBits, Rounds, Conflicts, Holes}
use Rattle.sk_opts.specs.declared.setting.Given.{Given}
use Rattle.sk_opts.specs.declared.setting.GivenValue.TheVariants.{Number}
use Rattle.sk_opts.specs.declared.matching.Matched.{Matched}
use Rattle.sk_opts.specs.Settings.{of_pragmas, setting_among, value_in, is_of, number_given, numbers_given}
use Rattle.sk_opts.specs.Matching.{more_by}

-- Pragmas

abbrev pub given_here : Setting → Option ℕ → List Given → List Given → List Given
given_here s None otherwise more = otherwise
given_here s (Some n) otherwise more = record { setting = s; value = Number n } ∷ more

-- What words set (`words_settings`), read one after the other: the word before these may be one of the four.
abbrev pub settings_from : Option Setting → List (List ℕ) → List Given
settings_from before [] = []
settings_from None (w ∷ ws) = settings_from (setting_among of_pragmas w) ws
settings_from (Some s) (w ∷ ws) = given_here s (value_in s w) (settings_from (setting_among of_pragmas w) ws) (settings_from None ws)

-- the set with the number of one more setting
abbrev pub set_by : Set → Setting → Option ℕ → Set
set_by set HoleBits n = record set { cbits = n }
set_by set InputBits n = record set { inbits = n }
set_by set Turns n = record set { unroll = n }
set_by set Calls n = record set { inline_amnt = n }
set_by set IntBits n = record set { int_bits = n }
set_by set Rounds n = set
set_by set Conflicts n = set
set_by set Certificate n = set
set_by set Holes n = set

unfoldable pub set_after : Set → List Given → Set
set_after set [] = set
set_after set (g ∷ gs) = set_after (set_by set g.setting (number_given g.value)) gs

-- The number of the last value of a setting, or what was found before.
abbrev pub number_from : Option ℕ → Setting → List Given → Option ℕ
number_from found s [] = found
number_from found s (g ∷ gs) = number_from (if is_of s g then number_given g.value else found) s gs

-- The same of its list.
abbrev pub list_from : Option (List ℕ) → Setting → List Given → Option (List ℕ)
list_from found s [] = found
list_from found s (g ∷ gs) = list_from (if is_of s g then numbers_given g.value else found) s gs

abbrev pub is_unblank : ℕ → Bool
is_unblank b = not (is_blank b)

-- Matches

-- options that were matched, in front of what the others give
abbrev pub in_front : List Given → Option (List Given) → Option (List Given)
in_front gs None = None
in_front gs (Some more) = Some (gs ++ more)

abbrev pub in_front_if : Option (List Given) → Option (List Given) → Option (List Given)
in_front_if None more = None
in_front_if (Some gs) more = in_front gs more

-- the options that were matched go on by this match
abbrev pub GoesOnBy : List Given → Setting → Matched → Option (List Given) → Type 0
GoesOnBy gs s matched new = (more : Option (List Given)) → in_front gs (more_by s matched more) ≡ in_front_if new more
