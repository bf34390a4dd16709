-- The number or the list of the last value of a setting, found one value after the other.
use Rattle.std.proofs.Common.{◌≡◌, ℕ, Bool, true, false, cond, List, [], ◌∷◌, Option, Some, None, refl, sym, ap, ◌∙◌}
use Rattle.std.specs.Option.{option_and_then}
use Rattle.sk_opts.specs.declared.setting.Setting.{Setting}
use Rattle.sk_opts.specs.declared.setting.Given.{Given}
use Rattle.sk_opts.specs.declared.setting.GivenValue.{GivenValue}
use Rattle.sk_opts.specs.Settings.{is_of, last_from, number_given, numbers_given, last_of, last_list}
use Rattle.sk_opts.specs.Steps.{number_from, list_from}

-- one value more
one_more : {A : Type 0} (part : GivenValue → Option A) (b : Bool) (v : GivenValue) (found : Option GivenValue) → option_and_then part (cond b (Some v) found) ≡ cond b (part v) (option_and_then part found)
one_more part true v found = refl
one_more part false v found = refl

numbers_after : (found : Option GivenValue) (s : Setting) (gs : List Given) → option_and_then number_given (last_from found s gs) ≡ number_from (option_and_then number_given found) s gs
numbers_after found s [] = refl
numbers_after found s (g ∷ gs) =
    numbers_after (cond (is_of s g) (Some g.value) found) s gs ∙ ap (λ n. number_from n s gs) (one_more number_given (is_of s g) g.value found)

lists_after : (found : Option GivenValue) (s : Setting) (gs : List Given) → option_and_then numbers_given (last_from found s gs) ≡ list_from (option_and_then numbers_given found) s gs
lists_after found s [] = refl
lists_after found s (g ∷ gs) =
    lists_after (cond (is_of s g) (Some g.value) found) s gs ∙ ap (λ n. list_from n s gs) (one_more numbers_given (is_of s g) g.value found)

pub last_number : (s : Setting) (gs : List Given) → last_of s gs ≡ number_from None s gs
last_number s gs = numbers_after None s gs

pub last_numbers : (s : Setting) (gs : List Given) → last_list s gs ≡ list_from None s gs
last_numbers s gs = lists_after None s gs
