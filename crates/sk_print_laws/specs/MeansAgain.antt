-- What a printed expression means: the expression that was printed.
use Rattle.std.specs.Prelude.{◌≡◌, ℕ, List, Some, IsTrue, map, slice_get}
use Rattle.sk_base.specs.declared.bounds.Bounds.{Bounds}
use Rattle.sk_tree.specs.declared.expr.Expr.{Expr}
use Rattle.sk_prog.specs.declared.expr.PExpr.{PExpr}
use Rattle.sk_prog.specs.declared.prog.FieldDef.{FieldDef}
use Rattle.sk_prog.specs.declared.prog.StructDef.{StructDef}
use Rattle.sk_prog.specs.declared.prog.Prog.{Prog}
use Rattle.sk_prog.specs.Spanless as P
use Rattle.sk_types_rules.specs.declared.scope.Variable.{Variable}
use Rattle.sk_types_rules.specs.Scope.{Known, Context, all_distinct, top_of}
use Rattle.sk_types_rules.specs.Types.{Means}
use Rattle.sk_print_laws.specs.Printed.{printed_expr}
use Rattle.sk_print_laws.specs.SpanlessTree.{spanless_expr}

-- no struct of the program names a field twice
abbrev pub FieldsDiffer : Prog → Type 0
FieldsDiffer prog = (i : ℕ) (d : StructDef) → slice_get prog.structs i ≡ Some d → IsTrue (all_distinct (map (λ (y : FieldDef). y.name) d.fields))

abbrev pub context_of : Bounds → Prog → List Known → Context
context_of bounds prog known = record { bounds = bounds; top = top_of prog; known = known }

-- Each expression that differs in spans alone from the printed one means what was printed, spans aside, among the
-- names of the same program, whichever constants are known there.
abbrev pub ExpressionsMean : Type 0
ExpressionsMean = (prog : Prog) (bounds : Bounds) (known again : List Known) (scope : List Variable) → FieldsDiffer prog → (p : PExpr) (e : Expr) → Means (context_of bounds prog known) scope p e → (d : Expr) → spanless_expr d ≡ spanless_expr (printed_expr prog p) → (q : PExpr) × Means (context_of bounds prog again) scope q d × (P.spanless_expr q ≡ P.spanless_expr p)
