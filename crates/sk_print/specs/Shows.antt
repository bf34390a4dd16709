-- When a text shows a program: its tokens read as a tree that means the program, spans aside.
use Rattle.std.specs.Prelude.{◌≡◌, ℕ, List}
use Rattle.sk_base.specs.declared.bounds.Bounds.{Bounds}
use Rattle.sk_tree.specs.declared.token.Token.{Token}
use Rattle.sk_tree.specs.declared.item.Tree.{Tree}
use Rattle.sk_tree.specs.Tokens.{AreTokens}
use Rattle.sk_tree.specs.Reads.{Reads}
use Rattle.sk_prog.specs.declared.prog.Prog.{Prog}
use Rattle.sk_prog.specs.Spanless.{spanless}
use Rattle.sk_types_rules.specs.Types.{Types}

pub record Shows (text : List ℕ) (bounds : Bounds) (prog : Prog) : Type 0 where
  pub tokens : List Token
  pub lexed : AreTokens text tokens
  pub tree : Tree
  pub reads : Reads tokens tree
  pub typed : Prog
  pub types : Types tree bounds typed
  pub same : spanless typed ≡ spanless prog
