-- How many strings a pattern has, where all above a greatest number count as that number.
use Rattle.std.specs.Prelude.{ℕ, ◌+◌, ◌*◌, min, List, [], ◌∷◌}
use Rattle.sk_tree.specs.declared.pattern.Pattern.{Pattern}
use Rattle.sk_tree.specs.declared.pattern.Pattern.TheOpen as P
use Rattle.sk_tree.specs.declared.pattern.Pattern.TheFolds.{fold-Pattern}

-- the greatest number of 64 bits
abbrev pub most_counted : ℕ
most_counted = 18446744073709551615

abbrev pub plus : ℕ → ℕ → ℕ
plus a b = min (a + b) most_counted

abbrev pub times : ℕ → ℕ → ℕ
times a b = min (a * b) most_counted

abbrev pub sum_from : ℕ → List ℕ → ℕ
sum_from n [] = n
sum_from n (m ∷ ms) = sum_from (plus n m) ms

abbrev pub product_from : ℕ → List ℕ → ℕ
product_from n [] = n
product_from n (m ∷ ms) = product_from (times n m) ms

-- a choice has the sum of the counts of its parts, a sequence the product, an optional part one more
abbrev pub count_layer : P.Pattern-F ℕ → ℕ
count_layer (P.Choice ns) = sum_from 0 ns
count_layer (P.Seq ns) = product_from 1 ns
count_layer (P.Maybe n) = plus 1 n
count_layer (P.Group n) = n
count_layer (P.One t) = 1

abbrev pub count_of : Pattern → ℕ
count_of = fold-Pattern ℕ count_layer
