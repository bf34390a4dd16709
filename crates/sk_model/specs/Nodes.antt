-- How many nodes a program has: its statements and expressions. Coercions are not counted. The target
-- of an assignment is an expression too, and so are the value of a constant and the count of a repeat.
-- All copies of a repeat, all strings of a pattern and all statements of a reorder count once.
use Rattle.std.specs.Prelude.{ℕ, suc, ◌+◌, List, [], ◌∷◌, map, Option, Some, None}
use Rattle.sk_prog.specs.declared.expr.PExpr.{PExpr}
use Rattle.sk_prog.specs.declared.expr.PEForm.TheOpen as P
use Rattle.sk_prog.specs.declared.expr.PEForm.TheFolds.{fold-PExpr}
use Rattle.sk_prog.specs.declared.stmt.PStmt.{PStmt}
use Rattle.sk_prog.specs.declared.stmt.PForm.TheOpen as S
use Rattle.sk_prog.specs.declared.stmt.PForm.TheFolds.{fold-PStmt}
use Rattle.sk_prog.specs.declared.prog.ConstDef.{ConstDef}
use Rattle.sk_prog.specs.declared.prog.Fun.{Fun}
use Rattle.sk_prog.specs.declared.prog.Prog.{Prog}
use Rattle.sk_model.specs.Parts.{total}

-- the nodes of an expression with this form
abbrev pub eform_nodes : P.PEForm-F ℕ ℕ ℕ → ℕ
eform_nodes (P.ToInt e) = e
eform_nodes (P.Pad e) = e
eform_nodes (P.Number n) = 1
eform_nodes P.True = 1
eform_nodes P.False = 1
eform_nodes P.Null = 1
eform_nodes (P.Var slot name) = 1
eform_nodes (P.Const c) = 1
eform_nodes (P.Hole width) = 1
eform_nodes (P.Pattern strings) = suc (total strings)
eform_nodes (P.Paren e) = suc e
eform_nodes (P.Call f args) = suc (total args)
eform_nodes (P.New s fields) = suc (total fields)
eform_nodes (P.Braces es) = suc (total es)
eform_nodes (P.Member e s field) = suc e
eform_nodes (P.Index e i) = suc (e + i)
eform_nodes (P.Slice e i n) = suc (e + i)
eform_nodes (P.Unary op e) = suc e
eform_nodes (P.Binary op a b) = suc (a + b)
eform_nodes (P.Cond c a b) = suc (c + (a + b))

abbrev pub expr_nodes : PExpr → ℕ
expr_nodes = fold-PExpr ℕ ℕ ℕ eform_nodes (λ e. e.form) (λ x. x.value)

abbrev pub value_nodes : Option PExpr → ℕ
value_nodes (Some e) = expr_nodes e
value_nodes None = 0

abbrev pub any_nodes : Option ℕ → ℕ
any_nodes (Some n) = n
any_nodes None = 0

-- the nodes of the parts of a statement with this form
abbrev pub form_nodes : S.PForm-F ℕ ℕ → ℕ
form_nodes (S.Block ss) = total ss
form_nodes (S.Declare slot name t value) = value_nodes value
form_nodes (S.Assign target value) = expr_nodes target + expr_nodes value
form_nodes (S.Call e) = expr_nodes e
form_nodes (S.If c a b) = expr_nodes c + (a + any_nodes b)
form_nodes (S.While c a) = expr_nodes c + a
form_nodes (S.Return value) = value_nodes value
form_nodes (S.Assert e) = expr_nodes e
form_nodes (S.Assume e) = expr_nodes e
form_nodes (S.Minimize e) = expr_nodes e
form_nodes (S.Repeat count copies) = expr_nodes count + total copies
form_nodes (S.MinRepeat copies) = total copies
form_nodes (S.Reorder ss) = total ss

abbrev pub stmt_nodes : PStmt → ℕ
stmt_nodes = fold-PStmt ℕ ℕ form_nodes (λ s. suc s.form)

abbrev pub stmts_nodes : List PStmt → ℕ
stmts_nodes ss = total (map stmt_nodes ss)

abbrev pub consts_nodes : List ConstDef → ℕ
consts_nodes [] = 0
consts_nodes (c ∷ cs) = expr_nodes c.value + consts_nodes cs

abbrev pub funs_nodes : List Fun → ℕ
funs_nodes [] = 0
funs_nodes (f ∷ fs) = stmts_nodes f.body + funs_nodes fs

abbrev pub nodes : Prog → ℕ
nodes p = consts_nodes p.consts + funs_nodes p.funs
