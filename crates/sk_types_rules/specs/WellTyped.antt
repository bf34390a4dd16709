-- Programs that keep all rules.
use Rattle.std.specs.Prelude.{ℕ, nat_le, Bool, true, false, ◌&&◌, IsTrue, List, length, Option, Some, None}
use Rattle.std.specs.List.{list_all}
use Rattle.sk_base.specs.declared.bounds.Bounds.{Bounds}
use Rattle.sk_tree.specs.declared.item.Tree.{Tree}
use Rattle.sk_tree.specs.Placed.{tree_placed}
use Rattle.sk_tree.specs.Strings.{most_strings}
use Rattle.sk_tree.specs.Depth.{expr_depth, most_levels}
use Rattle.sk_prog.specs.declared.expr.BinOp.{BinOp}
use Rattle.sk_prog.specs.declared.expr.BinOp.TheVariants as op
use Rattle.sk_prog.specs.declared.expr.PExpr.{PExpr}
use Rattle.sk_prog.specs.declared.expr.PEForm.{PEForm}
use Rattle.sk_prog.specs.declared.expr.PField.{PField}
use Rattle.sk_prog.specs.declared.expr.PEForm.TheOpen as P
use Rattle.sk_prog.specs.declared.expr.PEForm.TheFolds.{fold-PExpr, para-PExpr}
use Rattle.sk_prog.specs.declared.stmt.PStmt.{PStmt}
use Rattle.sk_prog.specs.declared.stmt.PForm.TheOpen as S
use Rattle.sk_prog.specs.declared.stmt.PForm.TheFolds.{fold-PStmt}
use Rattle.sk_prog.specs.declared.prog.ConstDef.{ConstDef}
use Rattle.sk_prog.specs.declared.prog.Fun.{Fun}
use Rattle.sk_prog.specs.declared.prog.Prog.{Prog}
use Rattle.sk_types_rules.specs.Types.{Types}
use Rattle.sk_types_rules.specs.Erase.{erase_expr}

abbrev pub is_yes : Bool → Bool
is_yes b = b

abbrev pub any_yes : Option Bool → Bool
any_yes None = true
any_yes (Some b) = b

-- Strings of a pattern

abbrev pub no_bar : BinOp → Bool
no_bar op.Or = false
no_bar _ = true

-- A string is spelt without the tokens `| ? ( ) {| |}`: it holds no `|` of two operands, no `c ? a : b`, no
-- pattern, and nothing with parentheses, which are those of calls, of `new`, of a hole's width and plain ones.
abbrev pub eform_bald : P.PEForm-F Bool Bool Bool → Bool
eform_bald (P.Pattern es) = false
eform_bald (P.Paren e) = false
eform_bald (P.Call f args) = false
eform_bald (P.New s fields) = false
eform_bald (P.Hole (Some n)) = false
eform_bald (P.Cond c a b) = false
eform_bald (P.Binary o a b) = no_bar o && (a && b)
eform_bald (P.Hole None) = true
eform_bald (P.Number n) = true
eform_bald P.True = true
eform_bald P.False = true
eform_bald P.Null = true
eform_bald (P.Var slot x) = true
eform_bald (P.Const c) = true
eform_bald (P.Braces es) = list_all is_yes es
eform_bald (P.Member e s i) = e
eform_bald (P.Index e i) = e && i
eform_bald (P.Slice e i n) = e && i
eform_bald (P.Unary o e) = e
eform_bald (P.ToInt e) = e
eform_bald (P.Pad e) = e

abbrev pub is_bald : PExpr → Bool
is_bald = fold-PExpr Bool Bool Bool eform_bald (λ p. p.form) (λ f. f.value)

module _ (prog : Prog) where
  abbrev pub is_string : PExpr → Bool
  is_string p = is_bald p && nat_le (expr_depth (erase_expr prog p)) most_levels

  abbrev pub are_strings : List (PExpr × Bool) → Bool
  are_strings es = nat_le 1 (length es) && (nat_le (length es) most_strings && list_all (λ (e : PExpr × Bool). is_string e.0) es)

  abbrev pub all_good : List (PExpr × Bool) → Bool
  all_good es = list_all (λ (e : PExpr × Bool). e.1) es

  -- A pattern holds 1 to 128 strings.
  abbrev pub eform_patterns : P.PEForm-F (PEForm × Bool) (PExpr × Bool) (PField × Bool) → Bool
  eform_patterns (P.Pattern es) = are_strings es && all_good es
  eform_patterns (P.Paren e) = e.1
  eform_patterns (P.Call f args) = all_good args
  eform_patterns (P.New s fields) = list_all (λ (f : PField × Bool). f.1) fields
  eform_patterns (P.Braces es) = all_good es
  eform_patterns (P.Member e s i) = e.1
  eform_patterns (P.Index e i) = e.1 && i.1
  eform_patterns (P.Slice e i n) = e.1 && i.1
  eform_patterns (P.Unary o e) = e.1
  eform_patterns (P.Binary o a b) = a.1 && b.1
  eform_patterns (P.Cond c a b) = c.1 && (a.1 && b.1)
  eform_patterns (P.ToInt e) = e.1
  eform_patterns (P.Pad e) = e.1
  eform_patterns (P.Number n) = true
  eform_patterns P.True = true
  eform_patterns P.False = true
  eform_patterns P.Null = true
  eform_patterns (P.Var slot x) = true
  eform_patterns (P.Const c) = true
  eform_patterns (P.Hole n) = true

  abbrev pub expr_patterns : PExpr → Bool
  expr_patterns = para-PExpr Bool Bool Bool eform_patterns (λ p. p.form.1) (λ f. f.value.1)

  abbrev pub any_patterns : Option PExpr → Bool
  any_patterns None = true
  any_patterns (Some e) = expr_patterns e

  abbrev pub form_patterns : S.PForm-F Bool Bool → Bool
  form_patterns (S.Block ss) = list_all is_yes ss
  form_patterns (S.Declare slot x t value) = any_patterns value
  form_patterns (S.Assign target value) = expr_patterns target && expr_patterns value
  form_patterns (S.Call e) = expr_patterns e
  form_patterns (S.If c a b) = expr_patterns c && (a && any_yes b)
  form_patterns (S.While c a) = expr_patterns c && a
  form_patterns (S.Return value) = any_patterns value
  form_patterns (S.Assert e) = expr_patterns e
  form_patterns (S.Assume e) = expr_patterns e
  form_patterns (S.Minimize e) = expr_patterns e
  form_patterns (S.Repeat c copies) = expr_patterns c && list_all is_yes copies
  form_patterns (S.MinRepeat copies) = list_all is_yes copies
  form_patterns (S.Reorder ss) = list_all is_yes ss

  abbrev pub stmt_patterns : PStmt → Bool
  stmt_patterns = fold-PStmt Bool Bool form_patterns (λ s. s.form)

  abbrev pub fun_patterns : Fun → Bool
  fun_patterns f = list_all stmt_patterns f.body

  -- whether each pattern of the program holds strings as patterns may
  abbrev pub patterns_hold : Bool
  patterns_hold = list_all (λ (c : ConstDef). expr_patterns c.value) prog.consts && list_all fun_patterns prog.funs

-- A program keeps the rules where some tree means it, in which each operand stands where it may, and where its
-- patterns hold strings as patterns may.
pub record WellTyped (prog : Prog) (bounds : Bounds) : Type 0 where
  pub tree : Tree
  pub placed : IsTrue (tree_placed tree)
  pub types : Types tree bounds prog
  pub patterns : IsTrue (patterns_hold prog)
