-- The tree that the layout of a program shows: the program as a tree, where a pattern is a choice of its strings,
-- and each body stands in braces.
use Rattle.std.specs.Prelude.{ℕ, Bool, true, false, if◌then◌else◌, List, [], ◌∷◌, ◌++◌, map, Option, Some, None}
use Rattle.std.specs.List.{flat_map}
use Rattle.sk_base.specs.declared.span.Span.{Span}
use Rattle.sk_tree.specs.declared.token.Kind.{Kind}
use Rattle.sk_tree.specs.declared.pattern.Pattern.{Pattern}
use Rattle.sk_tree.specs.declared.pattern.Pattern.TheVariants as pattern
use Rattle.sk_tree.specs.declared.expr.Expr.{Expr}
use Rattle.sk_tree.specs.declared.expr.EForm.TheVariants as eform
use Rattle.sk_tree.specs.declared.stmt.Stmt.{Stmt}
use Rattle.sk_tree.specs.declared.stmt.Form.{Form}
use Rattle.sk_tree.specs.declared.stmt.Form.TheVariants as form
use Rattle.sk_tree.specs.declared.item.Item.{Item}
use Rattle.sk_tree.specs.declared.item.Item.TheVariants as item
use Rattle.sk_tree.specs.declared.item.Tree.{Tree}
use Rattle.sk_tree.specs.Spell.{spell_expr}
use Rattle.sk_prog.specs.declared.expr.PExpr.{PExpr}
use Rattle.sk_prog.specs.declared.expr.PEForm.TheOpen as P
use Rattle.sk_prog.specs.declared.expr.PEForm.TheFolds.{fold-PExpr}
use Rattle.sk_prog.specs.declared.stmt.PStmt.{PStmt}
use Rattle.sk_prog.specs.declared.stmt.PForm.TheOpen as S
use Rattle.sk_prog.specs.declared.stmt.PForm.TheFolds.{fold-PStmt}
use Rattle.sk_prog.specs.declared.prog.ConstDef.{ConstDef}
use Rattle.sk_prog.specs.declared.prog.Fun.{Fun}
use Rattle.sk_prog.specs.declared.prog.Prog.{Prog}
use Rattle.sk_types_rules.specs.Erase.{nowhere, at, eform_erased, erase_ty, erase_any_ty, erase_kind, erase_implements, erase_struct, erase_param}

-- Expressions

-- a token of a pattern, of which only its kind is known
abbrev pub part_of_kind : Kind → Pattern
part_of_kind k = pattern.One (record { kind = k; span = nowhere })

-- a string, as the sequence of the tokens that spell it
abbrev pub sequence_of : Expr → Pattern
sequence_of e = pattern.Seq (map part_of_kind (spell_expr e))

-- the pattern that is the choice of these strings
abbrev pub choice_of : List Expr → Pattern
choice_of es = pattern.Choice (map sequence_of es)

-- The statements that stand for a statement in its place, from whether it is the body of another form, whose braces
-- stand round it.
abbrev pub Shown : Type 0
Shown = Bool → List Stmt

abbrev pub all_shown : Bool → List Shown → List Stmt
all_shown is_body ss = flat_map (λ s. s is_body) ss

abbrev pub of_form : Span → Form → Stmt
of_form s f = record { span = s; form = f }

abbrev pub block_of : Span → List Stmt → Stmt
block_of s es = of_form s (form.Block es)

abbrev pub any_block : Span → Option Shown → Option Stmt
any_block s None = None
any_block s (Some b) = Some (block_of s (b true))

module _ (prog : Prog) where
  abbrev pub eform_printed : P.PEForm-F (Span → Expr) Expr (ℕ × Expr) → Span → Expr
  eform_printed (P.Pattern es) = at (eform.Pattern (choice_of es) es)
  eform_printed l = eform_erased prog l

  abbrev pub printed_expr : PExpr → Expr
  printed_expr = fold-PExpr (Span → Expr) Expr (ℕ × Expr) eform_printed (λ e. e.form e.span) (λ f. (f.field, f.value))

  abbrev pub printed_any : Option PExpr → Option Expr
  printed_any None = None
  printed_any (Some e) = Some (printed_expr e)

  -- Statements

  abbrev pub block_printed : List Shown → Span → Shown
  block_printed ss s is_body = if is_body then all_shown false ss else block_of s (all_shown false ss) ∷ []

  -- the form alone, whatever stands round it
  abbrev pub alone : Form → Span → Shown
  alone f s is_body = of_form s f ∷ []

  abbrev pub form_printed : S.PForm-F (Span → Shown) Shown → Span → Shown
  form_printed (S.Block ss) s = block_printed ss s
  form_printed (S.Declare slot x t value) s = alone (form.Declare (erase_ty prog t) (record { name = x; value = printed_any value } ∷ [])) s
  form_printed (S.Assign target value) s = alone (form.Assign (printed_expr target) (printed_expr value)) s
  form_printed (S.Call e) s = alone (form.Call (printed_expr e)) s
  form_printed (S.If c a b) s = alone (form.If (printed_expr c) (block_of s (a true)) (any_block s b)) s
  form_printed (S.While c a) s = alone (form.While (printed_expr c) (block_of s (a true))) s
  form_printed (S.Return value) s = alone (form.Return (printed_any value)) s
  form_printed (S.Assert e) s = alone (form.Assert (printed_expr e)) s
  form_printed (S.Assume e) s = alone (form.Assume (printed_expr e)) s
  form_printed (S.Minimize e) s = alone (form.Minimize (printed_expr e)) s
  form_printed (S.Repeat c copies) s = alone (form.Repeat (printed_expr c) (block_of s (all_shown true copies))) s
  form_printed (S.MinRepeat copies) s = alone (form.MinRepeat (block_of s (all_shown true copies))) s
  form_printed (S.Reorder ss) s = alone (form.Reorder (all_shown false ss)) s

  abbrev pub stmt_shown : PStmt → Shown
  stmt_shown = fold-PStmt (Span → Shown) Shown form_printed (λ p. p.form p.span)

  -- Items

  abbrev pub printed_const : ConstDef → Item
  printed_const c = item.Const c.name (printed_expr c.value)

  abbrev pub printed_fun : Fun → Item
  printed_fun f = item.Fun (record { kind = erase_kind prog f.kind; result = erase_any_ty prog f.result; name = f.name; params = map (erase_param prog) f.params; implements = erase_implements prog f.implements; body = flat_map (λ s. stmt_shown s false) f.body })

  -- the tree that the layout of the program shows
  abbrev pub printed : Tree
  printed = record { items = map (erase_struct prog) prog.structs ++ (map printed_const prog.consts ++ map printed_fun prog.funs) }
