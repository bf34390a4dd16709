-- What is wrong with the patterns of a tree, as a walk over them finds it.
use Rattle.std.specs.Prelude.{nat_le, Bool, true, false, not, ◌||◌, List, [], ◌∷◌, length, if◌then◌else◌}
use Rattle.sk_tree.specs.declared.token.Token.{Token}
use Rattle.sk_tree.specs.declared.pattern.Pattern.{Pattern}
use Rattle.sk_tree.specs.declared.item.Tree.{Tree}
use Rattle.sk_tree.specs.declared.expr.NewField.{NewField}
use Rattle.sk_tree.specs.declared.expr.EForm.TheFolds.{fold-NewField}
use Rattle.sk_tree.specs.Strings.{strings_of, most_strings}
use Rattle.sk_tree.specs.Spelt.{is_there}
use Rattle.sk_tree.specs.Patterns.{Patterns, eform_patterns, patterns_of}
use Rattle.sk_parser_laws.specs.StringReader.{strings_at}

-- whether some pattern has too many strings, and whether some pattern that has not has a string that does not read
pub record Tally : Type 0 where
  pub too_many : Bool
  pub bad : Bool

abbrev pub no_faults : Tally
no_faults = record { too_many = false; bad = false }

-- with the strings of a pattern, of which there are not too many
unfoldable pub strings_seen : Tally → List (List Token) → Tally
strings_seen t ss = record { too_many = t.too_many; bad = t.bad || not (is_there (strings_at [] ss)) }

-- with a pattern
unfoldable pub seen : Tally → Pattern → Tally
seen t p = if nat_le (length (strings_of p)) most_strings then strings_seen t (strings_of p) else record { too_many = true; bad = t.bad }

-- with patterns, one after another
unfoldable pub all_seen : Tally → Patterns → Tally
all_seen t [] = t
all_seen t (p ∷ ps) = all_seen (seen t p) ps

-- the patterns of a field that `new` sets
abbrev pub set_patterns : NewField → Patterns
set_patterns = fold-NewField Patterns Patterns Patterns eform_patterns (λ x. x.form) (λ x. x.value)

-- what is wrong with the patterns of a tree
unfoldable pub tally_of : Tree → Tally
tally_of tree = all_seen no_faults (patterns_of tree)
