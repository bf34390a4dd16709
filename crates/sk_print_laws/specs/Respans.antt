-- What tokens of the kinds of the printed tree spell: a tree that differs from it in spans alone.
use Rattle.std.specs.Prelude.{◌≡◌, List, map, IsTrue}
use Rattle.sk_tree.specs.declared.token.Token.{Token}
use Rattle.sk_tree.specs.declared.item.Tree.{Tree}
use Rattle.sk_tree.specs.Spelt.{SpeltTree}
use Rattle.sk_tree.specs.Spell.{spell}
use Rattle.sk_prog.specs.declared.prog.Prog.{Prog}
use Rattle.sk_print_laws.specs.Printed.{printed}
use Rattle.sk_print_laws.specs.SpanlessTree.{spanless_tree}
use Rattle.sk_print_laws.specs.Readable.{prog_readable}

abbrev pub Respans : Type 0
Respans = (prog : Prog) → IsTrue (prog_readable prog) → (tokens : List Token) → map (λ (t : Token). t.kind) tokens ≡ spell (printed prog) → (tree : Tree) × SpeltTree tree tokens × (spanless_tree tree ≡ spanless_tree (printed prog))
