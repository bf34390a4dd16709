-- The values that words give options: a number in the option's range, or for `--holes` numbers of 1 to 10 digits with commas
-- between them.
use Rattle.std.specs.Prelude.{ℕ, List, [], ◌∷◌, Option, Some, option_map, if◌then◌else◌}
use Rattle.sk_opts.specs.declared.setting.Setting.{Setting}
use Rattle.sk_opts.specs.declared.setting.GivenValue.{GivenValue}
use Rattle.sk_opts.specs.declared.setting.GivenValue.TheVariants.{Number, Numbers}
use Rattle.sk_opts.specs.Settings.{is_list, number_in, value_in}
use Rattle.sk_opts.specs.SpeltValues.{between_commas, both}

-- the number that a word of 1 to 10 digits spells
abbrev pub long_number : List ℕ → Option ℕ
long_number word = number_in 0 9999999999 word

-- each of these words spells such a number
abbrev pub long_numbers : List (List ℕ) → Option (List ℕ)
long_numbers [] = Some []
long_numbers (w ∷ ws) = both (long_number w) (long_numbers ws)

-- the value that a word gives an option
abbrev pub given_value : Setting → List ℕ → Option GivenValue
given_value s word = if is_list s then option_map Numbers (long_numbers (between_commas word)) else option_map Number (value_in s word)
