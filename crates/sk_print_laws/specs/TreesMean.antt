-- What a printed tree means: the program that was printed.
use Rattle.std.specs.Prelude.{◌≡◌}
use Rattle.sk_base.specs.declared.bounds.Bounds.{Bounds}
use Rattle.sk_tree.specs.declared.item.Tree.{Tree}
use Rattle.sk_prog.specs.declared.prog.Prog.{Prog}
use Rattle.sk_prog.specs.Spanless.{spanless}
use Rattle.sk_types_rules.specs.Types.{Types}
use Rattle.sk_print_laws.specs.Printed.{printed}
use Rattle.sk_print_laws.specs.SpanlessTree.{spanless_tree}

-- Where a tree means a program, each tree that differs in spans alone from the printed program means that program,
-- spans aside.
abbrev pub TreesMean : Type 0
TreesMean = (bounds : Bounds) (tree : Tree) (prog : Prog) → Types tree bounds prog → (again : Tree) → spanless_tree again ≡ spanless_tree (printed prog) → (typed : Prog) × Types again bounds typed × (spanless typed ≡ spanless prog)
