-- The trees of the strings of a pattern.
use Rattle.std.specs.Prelude.{nat_le, Bool, true, false, List, [], ◌∷◌, ◌++◌, length, Option, Some, None, if◌then◌else◌}
use Rattle.sk_tree.specs.declared.token.Token.{Token}
use Rattle.sk_tree.specs.declared.pattern.Pattern.{Pattern}
use Rattle.sk_tree.specs.declared.expr.Expr.{Expr}
use Rattle.sk_tree.specs.Strings.{strings_of, most_strings}
use Rattle.sk_tree.specs.Depth.{most_levels}
use Rattle.sk_parser_laws.specs.Readers.{◌>>=◌}
use Rattle.sk_parser_laws.specs.ExprReader.{Trees, any_level, expr_at}

abbrev pub all_read : {A : Type 0} → A → List Token → Option A
all_read a [] = Some a
all_read a (t ∷ ts) = None

-- in a string no pattern may stand
abbrev pub no_trees : Trees
no_trees p = None

-- the tree of a string
unfoldable pub string_at : List Token → Option Expr
string_at string = expr_at no_trees most_levels any_level string >>= λ e. all_read e.0.expr e.1

-- the trees of all strings, behind those of the strings before them
unfoldable pub strings_at : List Expr → List (List Token) → Option (List Expr)
strings_at trees [] = Some trees
strings_at trees (s ∷ ss) = string_at s >>= λ e. strings_at (trees ++ e ∷ []) ss

abbrev pub or_nothing : Option (List Expr) → List Expr
or_nothing None = []
or_nothing (Some es) = es

-- the trees of the strings of a pattern, or none where there are too many or one does not read
unfoldable pub trees_of : Pattern → List Expr
trees_of p = if nat_le (length (strings_of p)) most_strings then or_nothing (strings_at [] (strings_of p)) else []

-- the trees that a pattern node holds: in a text, and in a string of a pattern
unfoldable pub offers : Bool → Trees
offers true p = Some (trees_of p)
offers false p = None
