-- The texts within the limits of the program, and what they expand to.
use Rattle.std.specs.Prelude.{ℕ, ◌≤◌, ◌≡◌, List, length}
use Rattle.sk_base.specs.declared.bounds.Bounds.{Bounds}
use Rattle.sk_tree.specs.declared.token.Token.{Token}
use Rattle.sk_tree.specs.declared.item.Tree.{Tree}
use Rattle.sk_tree.specs.Tokens.{AreTokens}
use Rattle.sk_tree.specs.Depth.{tree_depth, most_levels}
use Rattle.sk_tree.specs.Reads.{Reads, HasTooManyStrings, HasBadAlternative}
use Rattle.sk_prog.specs.declared.prog.Prog.{Prog}
use Rattle.sk_types_rules.specs.Types.{Types}
use Rattle.sk_model.specs.declared.expanded.Expanded.{Expanded}
use Rattle.sk_model.specs.Expand.{expand}
use Rattle.sk_model.specs.Limits.{IsWithinLimits}
use Rattle.sk_front.specs.Texts.{most_bytes}

-- The text is short enough; it reads as a tree that is not too deep, whose patterns have at most 128 strings, each
-- of which reads as an expression; the tree means a program; and e is the expansion of that program, with nodes,
-- sites, steps and allocations within the limits.
pub record IsWithin (text : List ℕ) (bounds : Bounds) (e : Expanded) : Type 0 where
  pub short : length text ≤ most_bytes
  pub tokens : List Token
  pub lexed : AreTokens text tokens
  pub tree : Tree
  pub reads : Reads tokens tree
  pub shallow : tree_depth tree ≤ most_levels
  pub few : HasTooManyStrings tree → ⊥
  pub good : HasBadAlternative tree → ⊥
  pub prog : Prog
  pub types : Types tree bounds prog
  pub expanded : e ≡ expand prog bounds
  pub sized : IsWithinLimits e bounds
