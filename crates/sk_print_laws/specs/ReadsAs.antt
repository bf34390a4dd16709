-- What the text of a program reads as: a tree that differs from the printed one in spans alone.
use Rattle.std.specs.Prelude.{◌≡◌, IsTrue, ℕ, List}
use Rattle.sk_tree.specs.declared.token.Token.{Token}
use Rattle.sk_tree.specs.declared.item.Tree.{Tree}
use Rattle.sk_tree.specs.Tokens.{AreTokens}
use Rattle.sk_tree.specs.Placed.{tree_placed}
use Rattle.sk_tree.specs.Reads.{Reads}
use Rattle.sk_prog.specs.declared.prog.Prog.{Prog}
use Rattle.sk_prog.specs.Fits.{prog_fits}
use Rattle.sk_print.specs.Layout.{layout}
use Rattle.sk_print_laws.specs.Printed.{printed}
use Rattle.sk_print_laws.specs.Numbers.{numbers_small}
use Rattle.sk_print_laws.specs.SpanlessTree.{spanless_tree}
use Rattle.sk_print_laws.specs.Readable.{prog_readable}

-- the tokens of a text, and the tree that they read as, which differs from this one in spans alone
pub record ReadsAs (text : List ℕ) (like : Tree) : Type 0 where
  pub tokens : List Token
  pub lexed : AreTokens text tokens
  pub tree : Tree
  pub reads : Reads tokens tree
  pub same : spanless_tree tree ≡ spanless_tree like

-- The layout of a well-formed program that can be spelt reads as its printed tree, if the operands of that tree
-- stand where they may.
abbrev pub TextReads : Type 0
TextReads = (prog : Prog) → IsTrue (prog_fits prog) → IsTrue (numbers_small prog) → IsTrue (prog_readable prog) → IsTrue (tree_placed (printed prog)) → ReadsAs (layout prog) (printed prog)
