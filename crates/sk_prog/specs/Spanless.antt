-- A program without its spans: two programs are the same where they differ in spans alone.
use Rattle.std.specs.Prelude.{List, map, Option, Some, None}
use Rattle.sk_base.specs.declared.span.Span.{Span}
use Rattle.sk_prog.specs.declared.expr.PExpr.{PExpr}
use Rattle.sk_prog.specs.declared.expr.PEForm.{PEForm}
use Rattle.sk_prog.specs.declared.expr.PField.{PField}
use Rattle.sk_prog.specs.declared.expr.PEForm.TheOpen as P
use Rattle.sk_prog.specs.declared.expr.PEForm.TheViews.{roll-PEForm}
use Rattle.sk_prog.specs.declared.expr.PEForm.TheFolds.{fold-PExpr}
use Rattle.sk_prog.specs.declared.stmt.PStmt.{PStmt}
use Rattle.sk_prog.specs.declared.stmt.PForm.{PForm}
use Rattle.sk_prog.specs.declared.stmt.PForm.TheOpen as S
use Rattle.sk_prog.specs.declared.stmt.PForm.TheViews.{roll-PForm}
use Rattle.sk_prog.specs.declared.stmt.PForm.TheFolds.{fold-PStmt, map-PForm}
use Rattle.sk_prog.specs.declared.prog.ConstDef.{ConstDef}
use Rattle.sk_prog.specs.declared.prog.Fun.{Fun}
use Rattle.sk_prog.specs.declared.prog.Prog.{Prog}

-- the span that stands for none
abbrev pub no_span : Span
no_span = record { from = 0; to = 0 }

abbrev pub without_span : P.PExpr-F PEForm PExpr PField → PExpr
without_span x = record { span = no_span; ty = x.ty; form = x.form }

abbrev pub field_again : P.PField-F PEForm PExpr PField → PField
field_again x = record { field = x.field; value = x.value }

-- an expression with no span in place of each of its spans
abbrev pub spanless_expr : PExpr → PExpr
spanless_expr = fold-PExpr PEForm PExpr PField roll-PEForm without_span field_again

abbrev pub any_spanless : Option PExpr → Option PExpr
any_spanless None = None
any_spanless (Some e) = Some (spanless_expr e)

abbrev pub spanless_form : S.PForm-F PForm PStmt → PForm
spanless_form (S.Declare slot x t value) = roll-PForm (S.Declare slot x t (any_spanless value))
spanless_form (S.Assign target value) = roll-PForm (S.Assign (spanless_expr target) (spanless_expr value))
spanless_form (S.Call e) = roll-PForm (S.Call (spanless_expr e))
spanless_form (S.If c a b) = roll-PForm (S.If (spanless_expr c) a b)
spanless_form (S.While c a) = roll-PForm (S.While (spanless_expr c) a)
spanless_form (S.Return value) = roll-PForm (S.Return (any_spanless value))
spanless_form (S.Assert e) = roll-PForm (S.Assert (spanless_expr e))
spanless_form (S.Assume e) = roll-PForm (S.Assume (spanless_expr e))
spanless_form (S.Minimize e) = roll-PForm (S.Minimize (spanless_expr e))
spanless_form (S.Repeat c copies) = roll-PForm (S.Repeat (spanless_expr c) copies)
spanless_form (S.Block ss) = roll-PForm (S.Block ss)
spanless_form (S.MinRepeat ss) = roll-PForm (S.MinRepeat ss)
spanless_form (S.Reorder ss) = roll-PForm (S.Reorder ss)

abbrev pub stmt_without_span : S.PStmt-F PForm PStmt → PStmt
stmt_without_span x = record { span = no_span; form = x.form }

abbrev pub spanless_stmt : PStmt → PStmt
spanless_stmt = fold-PStmt PForm PStmt spanless_form stmt_without_span

abbrev pub spanless_const : ConstDef → ConstDef
spanless_const c = record { name = c.name; value = spanless_expr c.value; number = c.number }

abbrev pub spanless_fun : Fun → Fun
spanless_fun f = record { name = f.name; kind = f.kind; result = f.result; params = f.params; slots = f.slots; implements = f.implements; body = map spanless_stmt f.body }

-- a program with no span in place of each of its spans
abbrev pub spanless : Prog → Prog
spanless prog = record { structs = prog.structs; consts = map spanless_const prog.consts; funs = map spanless_fun prog.funs }
