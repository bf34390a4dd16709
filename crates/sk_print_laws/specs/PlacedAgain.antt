-- Where the operands of a printed expression stand: where those of the tree stand that it means.
use Rattle.std.specs.Prelude.{◌≡◌, IsTrue, List}
use Rattle.sk_tree.specs.declared.expr.Expr.{Expr}
use Rattle.sk_base.specs.declared.bounds.Bounds.{Bounds}
use Rattle.sk_tree.specs.declared.item.Tree.{Tree}
use Rattle.sk_tree.specs.Placed.{place_of, expr_placed, tree_placed}
use Rattle.sk_prog.specs.declared.expr.PExpr.{PExpr}
use Rattle.sk_prog.specs.declared.prog.Prog.{Prog}
use Rattle.sk_types_rules.specs.declared.scope.Variable.{Variable}
use Rattle.sk_types_rules.specs.Scope.{Context}
use Rattle.sk_types_rules.specs.Types.{Means, Types}
use Rattle.sk_print_laws.specs.Printed.{printed_expr, printed}

-- What means a placed expression is printed placed, and with the same level.
abbrev pub ExpressionsPlaced : Type 0
ExpressionsPlaced = (prog : Prog) (context : Context) (scope : List Variable) (p : PExpr) (e : Expr) → Means context scope p e → IsTrue (expr_placed e) → IsTrue (expr_placed (printed_expr prog p)) × ((place_of (printed_expr prog p)).level ≡ (place_of e).level)

-- What a placed tree means is printed as a placed tree.
abbrev pub TreesPlaced : Type 0
TreesPlaced = (bounds : Bounds) (tree : Tree) (prog : Prog) → IsTrue (tree_placed tree) → Types tree bounds prog → IsTrue (tree_placed (printed prog))
