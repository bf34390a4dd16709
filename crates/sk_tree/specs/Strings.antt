-- The strings of a pattern: the alternatives that it stands for, in their order.
use Rattle.std.specs.Prelude.{ℕ, List, [], ◌∷◌, ◌++◌, map, flat_map}
use Rattle.sk_tree.specs.declared.token.Token.{Token}
use Rattle.sk_tree.specs.declared.pattern.Pattern.{Pattern}
use Rattle.sk_tree.specs.declared.pattern.Pattern.TheOpen as P
use Rattle.sk_tree.specs.declared.pattern.Pattern.TheFolds.{fold-Pattern}

-- the greatest number of strings that a pattern may have
abbrev pub most_strings : ℕ
most_strings = 128

-- A string is a list of tokens.
abbrev pub Strings : Type 0
Strings = List (List Token)

-- each of the first with each of the second behind it; the first changes slowest
abbrev pub pairs : Strings → Strings → Strings
pairs fronts backs = flat_map (λ front. map (λ back. front ++ back) backs) fronts

-- one string of each, one after another
abbrev pub rows : List Strings → Strings
rows [] = [] ∷ []
rows (s ∷ ss) = pairs s (rows ss)

-- A choice joins the lists of its sequences, and a sequence pairs those of its parts. `?` puts the empty
-- string first. Parentheses vanish.
abbrev pub pattern_strings : P.Pattern-F Strings → Strings
pattern_strings (P.Choice ss) = flat_map (λ s. s) ss
pattern_strings (P.Seq ss) = rows ss
pattern_strings (P.Maybe s) = [] ∷ s
pattern_strings (P.Group s) = s
pattern_strings (P.One t) = (t ∷ []) ∷ []

abbrev pub strings_of : Pattern → Strings
strings_of = fold-Pattern Strings pattern_strings
