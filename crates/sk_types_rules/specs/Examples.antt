-- Examples of the rules, each computed.
use Rattle.std.specs.Prelude.{ℕ, List, [], ◌∷◌, Some, None, codes}
use Rattle.sk_base.specs.declared.span.Span.{Span}
use Rattle.sk_base.specs.declared.bounds.Bounds.{Bounds}
use Rattle.sk_tree.specs.declared.token.Mark.{Mark}
use Rattle.sk_tree.specs.declared.token.Mark.TheVariants as mark
use Rattle.sk_tree.specs.declared.expr.Expr.{Expr}
use Rattle.sk_tree.specs.declared.expr.EForm.{EForm}
use Rattle.sk_tree.specs.declared.expr.EForm.TheVariants as eform
use Rattle.sk_tree.specs.declared.stmt.Stmt.{Stmt}
use Rattle.sk_tree.specs.declared.stmt.Form.{Form}
use Rattle.sk_tree.specs.declared.stmt.Form.TheVariants as form
use Rattle.sk_tree.specs.declared.stmt.StepKind.TheVariants as step
use Rattle.sk_tree.specs.declared.item.Base.TheVariants as base
use Rattle.sk_prog.specs.declared.ty.Ty.{Ty}
use Rattle.sk_prog.specs.declared.ty.Ty.TheVariants as ty
use Rattle.sk_prog.specs.declared.ty.Elem.TheVariants as elem
use Rattle.sk_prog.specs.declared.expr.PExpr.{PExpr}
use Rattle.sk_prog.specs.declared.expr.PEForm.{PEForm}
use Rattle.sk_prog.specs.declared.expr.PEForm.TheVariants as pform
use Rattle.sk_types_rules.specs.declared.scope.Variable.{Variable}
use Rattle.sk_types_rules.specs.Rules.{int, bit}
use Rattle.sk_types_rules.specs.Scope.{Context}

-- A constant N of 4, and variables: integers `a` and `i`, and a bit `b`.

abbrev pub bounds : Bounds
bounds = record { int_bits = 32; cbits = 5; inbits = 5; unroll = 8; inline_amnt = 5 }

abbrev pub context : Context
context = record { bounds = bounds; top = record { structs = []; consts = codes "N" ∷ []; funs = [] }; known = record { name = codes "N"; number = 4 } ∷ [] }

abbrev pub scope : List Variable
scope = record { name = codes "a"; ty = int } ∷ record { name = codes "b"; ty = bit } ∷ record { name = codes "i"; ty = int } ∷ []

abbrev pub bits : ℕ → Ty
bits n = ty.Array elem.Bit n

abbrev pub ints : ℕ → Ty
ints n = ty.Array elem.Int n

-- `int[n][m]`
abbrev pub rows : ℕ → ℕ → Ty
rows n m = ty.Grid elem.Int n m

-- all expressions and statements of these examples stand on one byte

abbrev pub here : Span
here = record { from = 0; to = 1 }

abbrev pub expr : EForm → Expr
expr e = record { span = here; form = e }

abbrev pub stmt : Form → Stmt
stmt f = record { span = here; form = f }

abbrev pub a : Expr
a = expr (eform.Word (codes "a"))

abbrev pub b : Expr
b = expr (eform.Word (codes "b"))

abbrev pub i : Expr
i = expr (eform.Word (codes "i"))

abbrev pub N : Expr
N = expr (eform.Word (codes "N"))

abbrev pub hole : Expr
hole = expr (eform.Hole None)

abbrev pub number : ℕ → Expr
number n = expr (eform.Number n)

abbrev pub of_two : Mark → Expr → Expr → Expr
of_two m x y = expr (eform.Binary m x y)

-- `int a = 1, b;`
abbrev pub two_names : Stmt
two_names = stmt (form.Declare (record { base = base.Int; lengths = [] }) (record { name = codes "a"; value = Some (number 1) } ∷ record { name = codes "b"; value = None } ∷ []))

-- `int a = 1;` and `int b;`
abbrev pub one_name_each : List Stmt
one_name_each = stmt (form.Declare (record { base = base.Int; lengths = [] }) (record { name = codes "a"; value = Some (number 1) } ∷ [])) ∷ stmt (form.Declare (record { base = base.Int; lengths = [] }) (record { name = codes "b"; value = None } ∷ [])) ∷ []

-- `i++`
abbrev pub one_more : Stmt
one_more = stmt (form.Step step.PostInc i None)

-- `i = i + 1;`
abbrev pub one_added : Stmt
one_added = stmt (form.Assign i (of_two mark.Plus i (number 1)))

-- `for (i = 0; i < N; i++) assert b;`
abbrev pub counted : Stmt
counted = stmt (form.For (stmt (form.Assign i (number 0))) (of_two mark.Less i N) one_more (stmt (form.Assert b)))

-- `{ i = 0; while (i < N) { { assert b; } i = i + 1; } }`
abbrev pub turned : Stmt
turned = stmt (form.Block (stmt (form.Assign i (number 0)) ∷ stmt (form.While (of_two mark.Less i N) (stmt (form.Block (stmt (form.Block (stmt (form.Assert b) ∷ [])) ∷ one_added ∷ [])))) ∷ []))

-- `2147483647 * 2147483647`, which is less than 2^62, and the same times N, which is not
abbrev pub large : Expr
large = of_two mark.Star (number 2147483647) (number 2147483647)

abbrev pub too_large : Expr
too_large = of_two mark.Star large N

-- the same variables, with one of the constant's name
abbrev pub hiding : List Variable
hiding = record { name = codes "N"; ty = int } ∷ scope

abbrev pub typed : Ty → PEForm → PExpr
typed t f = record { span = here; ty = Some t; form = f }

-- the variable `b`, and `b` where an integer is wanted
abbrev pub bit_b : PExpr
bit_b = typed bit (pform.Var 1 (codes "b"))

abbrev pub integer_b : PExpr
integer_b = typed int (pform.ToInt bit_b)

-- 1 where `bit[8]` is wanted
abbrev pub bits_one : PExpr
bits_one = typed (bits 8) (pform.Number 1)
