-- How many nodes the parts of expressions and statements have.
use Rattle.std.specs.Prelude.{ℕ, suc, List, map, Option, option_map}
use Rattle.sk_prog.specs.declared.expr.PExpr.{PExpr}
use Rattle.sk_prog.specs.declared.expr.PField.{PField}
use Rattle.sk_prog.specs.declared.expr.PEForm.{PEForm}
use Rattle.sk_prog.specs.declared.expr.PEForm.TheFolds.{fold-PField, fold-PEForm}
use Rattle.sk_prog.specs.declared.stmt.PStmt.{PStmt}
use Rattle.sk_prog.specs.declared.stmt.PForm.{PForm}
use Rattle.sk_prog.specs.declared.stmt.PForm.TheFolds.{fold-PForm}
use Rattle.sk_prog.specs.declared.prog.Fun.{Fun}
use Rattle.sk_model.specs.Parts.{total}
use Rattle.sk_model.specs.Nodes.{eform_nodes, expr_nodes, form_nodes, stmt_nodes, stmts_nodes, any_nodes}

abbrev pub exprs_nodes : List PExpr → ℕ
exprs_nodes es = total (map expr_nodes es)

abbrev pub field_nodes : PField → ℕ
field_nodes = fold-PField ℕ ℕ ℕ eform_nodes (λ e. e.form) (λ x. x.value)

abbrev pub fields_nodes : List PField → ℕ
fields_nodes xs = total (map field_nodes xs)

-- the nodes of an expression that has this form
abbrev pub nodes_of_eform : PEForm → ℕ
nodes_of_eform = fold-PEForm ℕ ℕ ℕ eform_nodes (λ e. e.form) (λ x. x.value)

-- the nodes of a statement that has this form, but for its own
abbrev pub nodes_of_form : PForm → ℕ
nodes_of_form = fold-PForm ℕ ℕ form_nodes (λ s. suc s.form)

abbrev pub branch_nodes : Option PStmt → ℕ
branch_nodes s = any_nodes (option_map stmt_nodes s)

abbrev pub none : {A : Type 0} → A → ℕ
none a = 0

-- the nodes of the body of a function
abbrev pub fun_nodes : Fun → ℕ
fun_nodes f = stmts_nodes f.body
