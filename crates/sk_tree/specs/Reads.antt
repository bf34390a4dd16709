-- Which tree tokens read as, and what can be wrong with the patterns of a tree that reads.
use Rattle.std.specs.Prelude.{IsTrue, List, Contains}
use Rattle.sk_tree.specs.declared.token.Token.{Token}
use Rattle.sk_tree.specs.declared.pattern.Pattern.{Pattern}
use Rattle.sk_tree.specs.declared.item.Tree.{Tree}
use Rattle.sk_tree.specs.Spelt.{SpeltTree, HasTooMany, HasBad}
use Rattle.sk_tree.specs.Placed.{tree_placed}
use Rattle.sk_tree.specs.Patterns.{patterns_of}

-- The tokens are those of the tree, its spans are those of its tokens, and its operands stand where they may.
-- How deep a tree may be is asked beside this, of a text that is read, and not of one that is printed.
pub record Reads (tokens : List Token) (tree : Tree) : Type 0 where
  pub spelt : SpeltTree tree tokens
  pub placed : IsTrue (tree_placed tree)

-- A pattern of the tree has more than 128 strings.
abbrev pub HasTooManyStrings : Tree → Type 0
HasTooManyStrings tree = (pattern : Pattern) × Contains (patterns_of tree) pattern × HasTooMany pattern

-- A pattern of the tree has a string that reads as no expression.
abbrev pub HasBadAlternative : Tree → Type 0
HasBadAlternative tree = (pattern : Pattern) × Contains (patterns_of tree) pattern × HasBad pattern
