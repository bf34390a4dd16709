-- The plain form of a tree, on which typing works: fewer forms say the same.
use Rattle.std.specs.Prelude.{Bool, true, false, ◌&&◌, List, [], ◌∷◌, ◌++◌, map, Option, Some, None}
use Rattle.std.specs.List.{list_all}
use Rattle.sk_base.specs.declared.span.Span.{Span}
use Rattle.sk_tree.specs.declared.token.Mark.{Mark}
use Rattle.sk_tree.specs.declared.token.Mark.TheVariants as mark
use Rattle.sk_tree.specs.declared.expr.Expr.{Expr}
use Rattle.sk_tree.specs.declared.expr.EForm.{EForm}
use Rattle.sk_tree.specs.declared.expr.EForm.TheVariants as eform
use Rattle.sk_tree.specs.declared.expr.EForm.TheOpen as E
use Rattle.sk_tree.specs.declared.expr.EForm.TheFolds.{fold-Expr}
use Rattle.sk_tree.specs.declared.stmt.Stmt.{Stmt}
use Rattle.sk_tree.specs.declared.stmt.Form.{Form}
use Rattle.sk_tree.specs.declared.stmt.Form.TheVariants as form
use Rattle.sk_tree.specs.declared.stmt.Form.TheOpen as F
use Rattle.sk_tree.specs.declared.stmt.Form.TheFolds.{fold-Stmt}
use Rattle.sk_tree.specs.declared.stmt.Declared.{Declared}
use Rattle.sk_tree.specs.declared.stmt.StepKind.{StepKind}
use Rattle.sk_tree.specs.declared.stmt.StepKind.TheVariants as step
use Rattle.sk_tree.specs.declared.item.FunItem.{FunItem}
use Rattle.sk_tree.specs.declared.item.Item.{Item}
use Rattle.sk_tree.specs.declared.item.Item.TheVariants as item
use Rattle.sk_tree.specs.declared.item.Tree.{Tree}

-- Steps: `t++` becomes `t = t + 1`, and `t -= e` becomes `t = t - (e)`. What is made has the span of the step.

abbrev pub step_mark : StepKind → Mark
step_mark step.PostInc = mark.Plus
step_mark step.PreInc = mark.Plus
step_mark step.Add = mark.Plus
step_mark step.PostDec = mark.Minus
step_mark step.PreDec = mark.Minus
step_mark step.Sub = mark.Minus

abbrev pub expr_at : Span → EForm → Expr
expr_at s e = record { span = s; form = e }

abbrev pub step_by : Span → Option Expr → Expr
step_by s None = expr_at s (eform.Number 1)
step_by s (Some e) = expr_at s (eform.Paren e)

abbrev pub stepped : StepKind → Span → Expr → Option Expr → Expr
stepped kind s target by = expr_at s (eform.Binary (step_mark kind) target (step_by s by))

-- Statements: one becomes none, one or several.

abbrev pub stmt_at : Span → Form → Stmt
stmt_at s f = record { span = s; form = f }

-- what a statement becomes among others, and what it becomes as a body
pub record Plainly : Type 0 where
  pub made : List Stmt
  pub body : Stmt

abbrev pub all_made : List Plainly → List Stmt
all_made [] = []
all_made (p ∷ ps) = p.made ++ all_made ps

-- a block, which as a body stays itself
abbrev pub a_block : Span → List Stmt → Plainly
a_block s es = record { made = stmt_at s (form.Block es) ∷ []; body = stmt_at s (form.Block es) }

-- A body that is no block is put in a block of its span; so an empty body is an empty block.
abbrev pub in_block : Span → List Stmt → Plainly
in_block s es = record { made = es; body = stmt_at s (form.Block es) }

abbrev pub one : Span → Form → Plainly
one s f = in_block s (stmt_at s f ∷ [])

abbrev pub any_body : Option Plainly → Option Stmt
any_body None = None
any_body (Some p) = Some p.body

-- a declaration of one name has the span of the whole declaration
abbrev pub declared_alone : Span → (Declared → Form) → List Declared → List Stmt
declared_alone s alone ds = map (λ d. stmt_at s (alone d)) ds

-- `for (a; c; n) s` becomes `{ a; while (c) { s n; } }` with s as a block. The outer block, the `while` and
-- the block of s and n have the span of the `for`. As a body it is that outer block, with none round it.
abbrev pub looped : Span → Plainly → Expr → Plainly → Plainly → Plainly
looped s a c n body = a_block s (a.made ++ stmt_at s (form.While c (stmt_at s (form.Block (body.body ∷ n.made)))) ∷ [])

abbrev pub form_plain : F.Form-F (Span → Plainly) Plainly → Span → Plainly
form_plain (F.Block ss) s = a_block s (all_made ss)
form_plain F.Empty s = in_block s []
form_plain (F.Declare y ds) s = in_block s (declared_alone s (λ d. form.Declare y (d ∷ [])) ds)
form_plain (F.Assign target e) s = one s (form.Assign target e)
form_plain (F.Call e) s = one s (form.Call e)
form_plain (F.Step kind target by) s = one s (form.Assign target (stepped kind s target by))
form_plain (F.If c a b) s = one s (form.If c a.body (any_body b))
form_plain (F.While c a) s = one s (form.While c a.body)
form_plain (F.For a c n body) s = looped s a c n body
form_plain (F.Return e) s = one s (form.Return e)
form_plain (F.Assert e) s = one s (form.Assert e)
form_plain (F.Assume e) s = one s (form.Assume e)
form_plain (F.Minimize e) s = one s (form.Minimize e)
form_plain (F.Repeat c a) s = one s (form.Repeat c a.body)
form_plain (F.MinRepeat a) s = one s (form.MinRepeat a.body)
form_plain (F.Reorder ss) s = one s (form.Reorder (all_made ss))

abbrev pub plainly : Stmt → Plainly
plainly = fold-Stmt (Span → Plainly) Plainly form_plain (λ s. s.form s.span)

-- the statements that a statement becomes
abbrev pub plain_stmt : Stmt → List Stmt
plain_stmt e = (plainly e).made

abbrev pub plain_stmts : List Stmt → List Stmt
plain_stmts [] = []
plain_stmts (e ∷ es) = plain_stmt e ++ plain_stmts es

abbrev pub plain_fun : FunItem → FunItem
plain_fun g = record { kind = g.kind; result = g.result; name = g.name; params = g.params; implements = g.implements; body = plain_stmts g.body }

-- Pragmas vanish.
abbrev pub plain_items : List Item → List Item
plain_items [] = []
plain_items (item.Pragma word text ∷ is) = plain_items is
plain_items (item.Struct x fields ∷ is) = item.Struct x fields ∷ plain_items is
plain_items (item.Const x e ∷ is) = item.Const x e ∷ plain_items is
plain_items (item.Fun g ∷ is) = item.Fun (plain_fun g) ∷ plain_items is

-- the plain form of a tree
abbrev pub plain : Tree → Tree
plain tree = record { items = plain_items tree.items }

-- The target of a step is evaluated twice, so it holds no call, hole or pattern.

abbrev pub is_yes : Bool → Bool
is_yes b = b

abbrev pub any_yes : Option Bool → Bool
any_yes None = true
any_yes (Some b) = b

abbrev pub eform_steady : E.EForm-F Bool Bool Bool → Bool
eform_steady (E.Call x args) = false
eform_steady (E.Hole n) = false
eform_steady (E.Pattern pattern strings) = false
eform_steady (E.Number n) = true
eform_steady E.True = true
eform_steady E.False = true
eform_steady E.Null = true
eform_steady (E.Word x) = true
eform_steady (E.Paren e) = e
eform_steady (E.New x fields) = list_all is_yes fields
eform_steady (E.Braces es) = list_all is_yes es
eform_steady (E.Member e x) = e
eform_steady (E.Index e i) = e && i
eform_steady (E.Slice e i n) = e && (i && n)
eform_steady (E.Unary m e) = e
eform_steady (E.Binary m a b) = a && b
eform_steady (E.Cond c a b) = c && (a && b)

-- whether an expression holds no call, hole or pattern
abbrev pub is_steady : Expr → Bool
is_steady = fold-Expr Bool Bool Bool eform_steady (λ x. x.form) (λ x. x.value)

abbrev pub form_steps : F.Form-F Bool Bool → Bool
form_steps (F.Step kind target by) = is_steady target
form_steps (F.Block ss) = list_all is_yes ss
form_steps (F.If c a b) = a && any_yes b
form_steps (F.While c a) = a
form_steps (F.For a c n body) = a && (n && body)
form_steps (F.Repeat c a) = a
form_steps (F.MinRepeat a) = a
form_steps (F.Reorder ss) = list_all is_yes ss
form_steps F.Empty = true
form_steps (F.Declare y ds) = true
form_steps (F.Assign target e) = true
form_steps (F.Call e) = true
form_steps (F.Return e) = true
form_steps (F.Assert e) = true
form_steps (F.Assume e) = true
form_steps (F.Minimize e) = true

abbrev pub stmt_steps : Stmt → Bool
stmt_steps = fold-Stmt Bool Bool form_steps (λ s. s.form)

abbrev pub item_steps : Item → Bool
item_steps (item.Fun g) = list_all stmt_steps g.body
item_steps (item.Pragma word text) = true
item_steps (item.Struct x fields) = true
item_steps (item.Const x e) = true

-- whether the target of each step of a tree holds no call, hole or pattern
abbrev pub steps_are_targets : Tree → Bool
steps_are_targets tree = list_all item_steps tree.items
