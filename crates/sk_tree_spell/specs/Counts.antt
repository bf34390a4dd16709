-- How many strings a pattern has, counted as far as it matters, and when that is too many.
use Rattle.std.specs.Prelude.{◌≡◌, ⊤, ℕ, ◌+◌, ◌*◌, ◌<◌, min, List, [], ◌∷◌, ◌++◌, map, length, ◌⊎◌}
use Rattle.sk_tree.specs.declared.token.Token.{Token}
use Rattle.sk_tree.specs.declared.pattern.Pattern.{Pattern}
use Rattle.sk_tree.specs.declared.pattern.Pattern.TheOpen as P
use Rattle.sk_tree.specs.declared.pattern.Pattern.TheFolds.{fold-Pattern}
use Rattle.sk_tree.specs.Strings.{Strings, strings_of, most_strings}
use Rattle.sk_tree_spell.specs.declared.fault.PatternFault.{PatternFault}
use Rattle.sk_tree_spell.specs.declared.fault.PatternFault.TheVariants.{TooManyStrings, Memory}

-- each string behind the same front
abbrev pub prefixed : List Token → Strings → Strings
prefixed front ss = map (λ s. front ++ s) ss

-- a fault is of want of memory, or there are more strings than there may be
abbrev pub IsTooMany : Strings → PatternFault → Type 0
IsTooMany ss TooManyStrings = most_strings < length ss
IsTooMany ss Memory = ⊤

abbrev pub IsTooManyOrMemory : PatternFault → Type 0
IsTooManyOrMemory fault = (fault ≡ TooManyStrings) ⊎ (fault ≡ Memory)

-- Counts of which all above 128 are the same.

abbrev pub plus : ℕ → ℕ → ℕ
plus a b = min (a + b) 129

abbrev pub times : ℕ → ℕ → ℕ
times a b = min (a * b) 129

abbrev pub sum_from : ℕ → List ℕ → ℕ
sum_from n [] = n
sum_from n (m ∷ ms) = sum_from (plus n m) ms

abbrev pub product_from : ℕ → List ℕ → ℕ
product_from n [] = n
product_from n (m ∷ ms) = product_from (times n m) ms

abbrev pub count_layer : P.Pattern-F ℕ → ℕ
count_layer (P.Choice ns) = sum_from 0 ns
count_layer (P.Seq ns) = product_from 1 ns
count_layer (P.Maybe n) = plus 1 n
count_layer (P.Group n) = n
count_layer (P.One t) = 1

-- the number of strings of a pattern, or 129 where there are more
abbrev pub count_of : Pattern → ℕ
count_of = fold-Pattern ℕ count_layer

-- that this is what it says
abbrev pub CountsStrings : Type 0
CountsStrings = (p : Pattern) → count_of p ≡ min (length (strings_of p)) (most_strings + 1)
