-- Programs whose layout is spelt as a tree may be: patterns and braces hold something, the strings of patterns are
-- spelt without the marks of patterns, and a target or a call stands where one is wanted. A program that keeps the
-- rules is of these, but well-formedness does not say so.
use Rattle.std.specs.Prelude.{nat_le, Bool, true, ◌&&◌, List, length, Option, Some, None}
use Rattle.std.specs.List.{list_all}
use Rattle.sk_tree.specs.declared.expr.Expr.{Expr}
use Rattle.sk_tree.specs.declared.token.Kind.{Kind}
use Rattle.sk_tree.specs.Strings.{most_strings}
use Rattle.sk_tree.specs.Depth.{expr_depth, most_levels}
use Rattle.sk_tree.specs.Placed.{expr_placed}
use Rattle.sk_tree.specs.Spelt.{are_some, may_stand, is_target}
use Rattle.sk_tree.specs.Spelt as Spelt
use Rattle.sk_tree.specs.Spell.{spell_expr}
use Rattle.sk_prog.specs.declared.expr.PExpr.{PExpr}
use Rattle.sk_prog.specs.declared.expr.PField.{PField}
use Rattle.sk_prog.specs.declared.expr.PEForm.{PEForm}
use Rattle.sk_prog.specs.declared.expr.PEForm.TheOpen as P
use Rattle.sk_prog.specs.declared.expr.PEForm.TheFolds.{fold-PExpr, para-PExpr}
use Rattle.sk_prog.specs.declared.stmt.PStmt.{PStmt}
use Rattle.sk_prog.specs.declared.stmt.PForm.TheOpen as S
use Rattle.sk_prog.specs.declared.stmt.PForm.TheFolds.{fold-PStmt}
use Rattle.sk_prog.specs.declared.prog.ConstDef.{ConstDef}
use Rattle.sk_prog.specs.declared.prog.Fun.{Fun}
use Rattle.sk_prog.specs.declared.prog.Prog.{Prog}
use Rattle.sk_prog.specs.Names.{is_yes, any_yes}
use Rattle.sk_types_rules.specs.WellTyped.{eform_bald}
use Rattle.sk_print_laws.specs.Printed.{printed_expr}

-- a string, which holds no pattern, no parentheses and no empty braces
abbrev pub eform_string : P.PEForm-F Bool Bool Bool → Bool
eform_string (P.Braces es) = are_some es && list_all is_yes es
eform_string l = eform_bald l

abbrev pub is_string : PExpr → Bool
is_string = fold-PExpr Bool Bool Bool eform_string (λ p. p.form) (λ f. f.value)

-- the tokens of a string are those that may stand in one
abbrev pub kinds_stand : List Kind → Bool
kinds_stand ks = are_some ks && list_all may_stand ks

abbrev pub tree_stands : Expr → Bool
tree_stands e = kinds_stand (spell_expr e) && (expr_placed e && nat_le (expr_depth e) most_levels)

module _ (prog : Prog) where
  abbrev pub string_stands : PExpr → Bool
  string_stands p = is_string p && tree_stands (printed_expr prog p)

  abbrev pub strings_stand : List (PExpr × Bool) → Bool
  strings_stand es = are_some es && (nat_le (length es) most_strings && list_all (λ (e : PExpr × Bool). string_stands e.0) es)

  abbrev pub all_readable : List (PExpr × Bool) → Bool
  all_readable es = list_all (λ (e : PExpr × Bool). e.1) es

  abbrev pub eform_readable : P.PEForm-F (PEForm × Bool) (PExpr × Bool) (PField × Bool) → Bool
  eform_readable (P.Pattern es) = strings_stand es
  eform_readable (P.Paren e) = e.1
  eform_readable (P.Call f args) = all_readable args
  eform_readable (P.New s fields) = list_all (λ (f : PField × Bool). f.1) fields
  eform_readable (P.Braces es) = are_some es && all_readable es
  eform_readable (P.Member e s i) = e.1
  eform_readable (P.Index e i) = e.1 && i.1
  eform_readable (P.Slice e i n) = e.1 && i.1
  eform_readable (P.Unary o e) = e.1
  eform_readable (P.Binary o a b) = a.1 && b.1
  eform_readable (P.Cond c a b) = c.1 && (a.1 && b.1)
  eform_readable (P.ToInt e) = e.1
  eform_readable (P.Pad e) = e.1
  eform_readable (P.Number n) = true
  eform_readable P.True = true
  eform_readable P.False = true
  eform_readable P.Null = true
  eform_readable (P.Var slot x) = true
  eform_readable (P.Const c) = true
  eform_readable (P.Hole n) = true

  abbrev pub expr_readable : PExpr → Bool
  expr_readable = para-PExpr Bool Bool Bool eform_readable (λ p. p.form.1) (λ f. f.value.1)

  abbrev pub any_readable : Option PExpr → Bool
  any_readable None = true
  any_readable (Some e) = expr_readable e

  abbrev pub target_readable : PExpr → Bool
  target_readable p = is_target (printed_expr prog p) && expr_readable p

  abbrev pub form_readable : S.PForm-F Bool Bool → Bool
  form_readable (S.Block ss) = list_all is_yes ss
  form_readable (S.Declare slot x t value) = any_readable value
  form_readable (S.Assign target value) = target_readable target && expr_readable value
  form_readable (S.Call e) = Spelt.is_call (printed_expr prog e) && expr_readable e
  form_readable (S.If c a b) = expr_readable c && (a && any_yes b)
  form_readable (S.While c a) = expr_readable c && a
  form_readable (S.Return value) = any_readable value
  form_readable (S.Assert e) = expr_readable e
  form_readable (S.Assume e) = expr_readable e
  form_readable (S.Minimize e) = expr_readable e
  form_readable (S.Repeat c copies) = expr_readable c && list_all is_yes copies
  form_readable (S.MinRepeat copies) = list_all is_yes copies
  form_readable (S.Reorder ss) = list_all is_yes ss

  abbrev pub stmt_readable : PStmt → Bool
  stmt_readable = fold-PStmt Bool Bool form_readable (λ s. s.form)

  abbrev pub fun_readable : Fun → Bool
  fun_readable f = list_all stmt_readable f.body

  -- whether the layout of a program is spelt as a tree may be
  abbrev pub prog_readable : Bool
  prog_readable = list_all (λ (c : ConstDef). expr_readable c.value) prog.consts && list_all fun_readable prog.funs
