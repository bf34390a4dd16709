-- The laws of spelling.
use Rattle.std.specs.Prelude.{◌≡◌, List, map}
use Rattle.sk_tree.specs.declared.token.Token.{Token}
use Rattle.sk_tree.specs.declared.item.Tree.{Tree}
use Rattle.sk_tree.specs.Spelt.{SpeltTree}
use Rattle.sk_tree.specs.Spell.{spell}

-- tokens that spell a tree have the kinds that it spells
abbrev pub SpeltAsSpelled : Type 0
SpeltAsSpelled = (tree : Tree) (tokens : List Token) → SpeltTree tree tokens → map (λ t. t.kind) tokens ≡ spell tree
