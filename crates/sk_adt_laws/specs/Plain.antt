-- Tokens without the words of algebraic types.
use Rattle.std.specs.Prelude.{Bool, true, false, List}
use Rattle.std.specs.List.{list_all}
use Rattle.sk_tree.specs.declared.token.Token.{Token}
use Rattle.sk_tree.specs.declared.token.Kind.{Kind}
use Rattle.sk_tree.specs.declared.token.Kind.TheVariants as kind
use Rattle.sk_tree.specs.declared.token.Key.TheVariants as key

-- any kind but the words `adt`, `switch` and `case`
abbrev pub is_plain : Kind → Bool
is_plain (kind.Key key.Adt) = false
is_plain (kind.Key key.Switch) = false
is_plain (kind.Key key.Case) = false
is_plain _ = true

-- whether none of the tokens is such a word
abbrev pub are_plain : List Token → Bool
are_plain ts = list_all (λ (t : Token). is_plain t.kind) ts
