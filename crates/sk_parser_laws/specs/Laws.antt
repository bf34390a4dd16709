-- The laws of reading.
use Rattle.std.specs.Prelude.{◌≡◌, ◌↔◌, ◌≤◌, true, false, List, Some}
use Rattle.sk_tree.specs.declared.token.Token.{Token}
use Rattle.sk_tree.specs.declared.item.Tree.{Tree}
use Rattle.sk_tree.specs.Depth.{tree_depth, most_levels}
use Rattle.sk_tree.specs.Reads.{Reads, HasTooManyStrings, HasBadAlternative}
use Rattle.sk_parser_laws.specs.Faults.{Tally, tally_of}
use Rattle.sk_parser_laws.specs.ItemReader.{tree_at}

-- The tokens read as the tree, which is at most 256 deep.
pub record ReadsWithin (tokens : List Token) (tree : Tree) : Type 0 where
  pub reads : Reads tokens tree
  pub within : tree_depth tree ≤ most_levels

-- the reader answers a tree exactly where the tokens read as it
abbrev pub ReadsExactly : Type 0
ReadsExactly = (tokens : List Token) (tree : Tree) → (tree_at tokens ≡ Some tree) ↔ ReadsWithin tokens tree

-- no tokens read as two trees
abbrev pub ReadsAsOne : Type 0
ReadsAsOne = (tokens : List Token) (a b : Tree) → ReadsWithin tokens a → ReadsWithin tokens b → a ≡ b

-- what a tally says of the patterns of a tree
pub record Told (tree : Tree) (tally : Tally) : Type 0 where
  pub many : (tally.too_many ≡ true) ↔ HasTooManyStrings tree
  pub bad : tally.too_many ≡ false → (tally.bad ≡ true) ↔ HasBadAlternative tree

abbrev pub TellsFaults : Type 0
TellsFaults = (tree : Tree) → Told tree (tally_of tree)
