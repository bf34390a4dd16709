-- What of the parts of a program calls and pays, part by part, and the places of their sites.
use Rattle.std.specs.Prelude.{ℕ, ◌+◌, ◌-◌, ◌≤◌, List, map, Option, option_map, length}
use Rattle.sk_prog.specs.declared.ty.Ty.{Ty}
use Rattle.sk_prog.specs.declared.expr.PExpr.{PExpr}
use Rattle.sk_prog.specs.declared.expr.PField.{PField}
use Rattle.sk_prog.specs.declared.expr.PEForm.TheFolds.{fold-PField}
use Rattle.sk_prog.specs.declared.stmt.PStmt.{PStmt}
use Rattle.sk_sym_choices.specs.declared.walker.Walker.{Walker}
use Rattle.sk_sym_choices.specs.Guards.{Guards, sites_alone, both, in_line, each_under, by_site, takes, exceeds, optional, eform_guards, expr_guards, repeat_guards, stmt_guards}

-- there are so many sites from a place on
abbrev pub Has : Walker → ℕ → ℕ → Type 0
Has w i count = i + count ≤ length w.sites.now

abbrev pub field : PField → Guards
field = fold-PField (Option Ty → Guards) Guards Guards eform_guards (λ e. e.form e.ty) (λ x. x.value)

abbrev pub exprs : List PExpr → Guards
exprs es = in_line (map expr_guards es)

abbrev pub fields : List PField → Guards
fields xs = in_line (map field xs)

-- strings, of which the first has number k, by the value of a site
abbrev pub strings : ℕ → ℕ → List PExpr → Guards
strings site k es = each_under (takes site) k (map expr_guards es)

abbrev pub pattern : List PExpr → Guards
pattern es = by_site takes (map expr_guards es)

abbrev pub stmts : List PStmt → Guards
stmts ss = in_line (map stmt_guards ss)

abbrev pub branch : Option PStmt → Guards
branch s = optional (option_map stmt_guards s)

-- copies, of which the first has number k, by the value of a site
abbrev pub copies : ℕ → ℕ → List PStmt → Guards
copies site k ss = each_under (exceeds site) k (map stmt_guards ss)

abbrev pub kept : List PStmt → Guards
kept ss = by_site exceeds (map stmt_guards ss)

abbrev pub repeated : PExpr → List PStmt → Guards
repeated count ss = repeat_guards count (map stmt_guards ss)

-- the statements of a reorder, behind its own sites
abbrev pub reordered : List PStmt → Guards
reordered ss = both (sites_alone (length ss - 1)) (in_line (map stmt_guards ss))
