-- What a program says as a tree: names back in place of numbers, without slots, types and coercions. Spans
-- stay. The lengths of types and slices had spans that a program does not keep, and of a pattern only its
-- strings are left.
use Rattle.std.specs.Prelude.{ℕ, List, [], ◌∷◌, ◌++◌, map, Option, Some, None, slice_get}
use Rattle.sk_base.specs.declared.span.Span.{Span}
use Rattle.sk_tree.specs.declared.token.Mark.{Mark}
use Rattle.sk_tree.specs.declared.token.Mark.TheVariants as mark
use Rattle.sk_tree.specs.declared.pattern.Pattern.TheVariants as pattern
use Rattle.sk_tree.specs.declared.expr.Expr.{Expr}
use Rattle.sk_tree.specs.declared.expr.EForm.{EForm}
use Rattle.sk_tree.specs.declared.expr.EForm.TheVariants as eform
use Rattle.sk_tree.specs.declared.expr.NewField.{NewField}
use Rattle.sk_tree.specs.declared.stmt.Stmt.{Stmt}
use Rattle.sk_tree.specs.declared.stmt.Form.{Form}
use Rattle.sk_tree.specs.declared.stmt.Form.TheVariants as form
use Rattle.sk_tree.specs.declared.item.Base.{Base}
use Rattle.sk_tree.specs.declared.item.Base.TheVariants as base
use Rattle.sk_tree.specs.declared.item.TyTree.{TyTree}
use Rattle.sk_tree.specs.declared.item.Param.{Param}
use Rattle.sk_tree.specs.declared.item.FunKind.{FunKind}
use Rattle.sk_tree.specs.declared.item.FunKind.TheVariants as kind
use Rattle.sk_tree.specs.declared.item.Item.{Item}
use Rattle.sk_tree.specs.declared.item.Item.TheVariants as item
use Rattle.sk_tree.specs.declared.item.Tree.{Tree}
use Rattle.sk_prog.specs.declared.ty.Ty.{Ty}
use Rattle.sk_prog.specs.declared.ty.Ty.TheVariants as ty
use Rattle.sk_prog.specs.declared.ty.Elem.{Elem}
use Rattle.sk_prog.specs.declared.ty.Elem.TheVariants as elem
use Rattle.sk_prog.specs.declared.ids.StructId.{StructId}
use Rattle.sk_prog.specs.declared.ids.ConstId.{ConstId}
use Rattle.sk_prog.specs.declared.ids.FunId.{FunId}
use Rattle.sk_prog.specs.declared.expr.BinOp.{BinOp}
use Rattle.sk_prog.specs.declared.expr.BinOp.TheVariants as op
use Rattle.sk_prog.specs.declared.expr.UnOp.{UnOp}
use Rattle.sk_prog.specs.declared.expr.UnOp.TheVariants as unary
use Rattle.sk_prog.specs.declared.expr.PExpr.{PExpr}
use Rattle.sk_prog.specs.declared.expr.PEForm.TheOpen as P
use Rattle.sk_prog.specs.declared.expr.PEForm.TheFolds.{fold-PExpr}
use Rattle.sk_prog.specs.declared.stmt.PStmt.{PStmt}
use Rattle.sk_prog.specs.declared.stmt.PForm.TheOpen as S
use Rattle.sk_prog.specs.declared.stmt.PForm.TheFolds.{fold-PStmt}
use Rattle.sk_prog.specs.declared.prog.FunKind.{FunKind as PFunKind}
use Rattle.sk_prog.specs.declared.prog.FunKind.TheVariants as pkind
use Rattle.sk_prog.specs.declared.prog.FieldDef.{FieldDef}
use Rattle.sk_prog.specs.declared.prog.StructDef.{StructDef}
use Rattle.sk_prog.specs.declared.prog.ConstDef.{ConstDef}
use Rattle.sk_prog.specs.declared.prog.ParamDef.{ParamDef}
use Rattle.sk_prog.specs.declared.prog.Fun.{Fun}
use Rattle.sk_prog.specs.declared.prog.Prog.{Prog}

-- Operators

abbrev pub mark_of : BinOp → Mark
mark_of op.Mul = mark.Star
mark_of op.Div = mark.Slash
mark_of op.Rem = mark.Percent
mark_of op.Add = mark.Plus
mark_of op.Sub = mark.Minus
mark_of op.Shl = mark.ShiftLeft
mark_of op.Shr = mark.ShiftRight
mark_of op.Lt = mark.Less
mark_of op.Le = mark.AtMost
mark_of op.Gt = mark.Greater
mark_of op.Ge = mark.AtLeast
mark_of op.Eq = mark.Equal
mark_of op.Ne = mark.NotEqual
mark_of op.And = mark.Ampersand
mark_of op.Xor = mark.Caret
mark_of op.Or = mark.Bar
mark_of op.AndThen = mark.AndThen
mark_of op.OrElse = mark.OrElse

abbrev pub unary_mark : UnOp → Mark
unary_mark unary.Not = mark.Bang
unary_mark unary.Flip = mark.Tilde
unary_mark unary.Neg = mark.Minus

-- Names

abbrev pub struct_name_of : Option StructDef → List ℕ
struct_name_of None = []
struct_name_of (Some d) = d.name

abbrev pub const_name_of : Option ConstDef → List ℕ
const_name_of None = []
const_name_of (Some c) = c.name

abbrev pub fun_name_of : Option Fun → List ℕ
fun_name_of None = []
fun_name_of (Some f) = f.name

abbrev pub any_field_name : Option FieldDef → List ℕ
any_field_name None = []
any_field_name (Some d) = d.name

abbrev pub field_name_of : Option StructDef → ℕ → List ℕ
field_name_of None i = []
field_name_of (Some d) i = any_field_name (slice_get d.fields i)

abbrev pub nowhere : Span
nowhere = record { from = 0; to = 0 }

abbrev pub at : EForm → Span → Expr
at e s = record { span = s; form = e }

abbrev pub number : ℕ → Expr
number n = at (eform.Number n) nowhere

module _ (prog : Prog) where
  abbrev pub struct_name : StructId → List ℕ
  struct_name s = struct_name_of (slice_get prog.structs s.index)

  abbrev pub const_name : ConstId → List ℕ
  const_name c = const_name_of (slice_get prog.consts c.index)

  abbrev pub fun_name : FunId → List ℕ
  fun_name f = fun_name_of (slice_get prog.funs f.index)

  abbrev pub field_name : StructId → ℕ → List ℕ
  field_name s i = field_name_of (slice_get prog.structs s.index) i

  -- Types

  abbrev pub elem_base : Elem → Base
  elem_base elem.Int = base.Int
  elem_base elem.Bit = base.Bit
  elem_base (elem.Reference s) = base.Named (struct_name s)

  abbrev pub erase_ty : Ty → TyTree
  erase_ty (ty.One a) = record { base = elem_base a; lengths = [] }
  erase_ty (ty.Array a n) = record { base = elem_base a; lengths = number n ∷ [] }
  erase_ty (ty.Grid a n m) = record { base = elem_base a; lengths = number n ∷ number m ∷ [] }

  abbrev pub erase_any_ty : Option Ty → Option TyTree
  erase_any_ty None = None
  erase_any_ty (Some t) = Some (erase_ty t)

  -- Expressions

  -- a field of `new`, by its place, and its value
  abbrev pub field_erased : StructId → ℕ × Expr → NewField
  field_erased s f = record { name = field_name s f.0; value = f.1 }

  abbrev pub eform_erased : P.PEForm-F (Span → Expr) Expr (ℕ × Expr) → Span → Expr
  eform_erased (P.Number n) = at (eform.Number n)
  eform_erased P.True = at eform.True
  eform_erased P.False = at eform.False
  eform_erased P.Null = at eform.Null
  eform_erased (P.Var slot x) = at (eform.Word x)
  eform_erased (P.Const c) = at (eform.Word (const_name c))
  eform_erased (P.Hole n) = at (eform.Hole n)
  eform_erased (P.Pattern es) = at (eform.Pattern (pattern.Choice []) es)
  eform_erased (P.Paren e) = at (eform.Paren e)
  eform_erased (P.Call f args) = at (eform.Call (fun_name f) args)
  eform_erased (P.New s fields) = at (eform.New (struct_name s) (map (field_erased s) fields))
  eform_erased (P.Braces es) = at (eform.Braces es)
  eform_erased (P.Member e s i) = at (eform.Member e (field_name s i))
  eform_erased (P.Index e i) = at (eform.Index e i)
  eform_erased (P.Slice e i n) = at (eform.Slice e i (number n))
  eform_erased (P.Unary o e) = at (eform.Unary (unary_mark o) e)
  eform_erased (P.Binary o a b) = at (eform.Binary (mark_of o) a b)
  eform_erased (P.Cond c a b) = at (eform.Cond c a b)
  eform_erased (P.ToInt e) = λ s. e
  eform_erased (P.Pad e) = λ s. e

  abbrev pub erase_expr : PExpr → Expr
  erase_expr = fold-PExpr (Span → Expr) Expr (ℕ × Expr) eform_erased (λ e. e.form e.span) (λ f. (f.field, f.value))

  abbrev pub erase_any : Option PExpr → Option Expr
  erase_any None = None
  erase_any (Some e) = Some (erase_expr e)

  -- Statements

  abbrev pub first_of : List Stmt → Span → Stmt
  first_of [] s = record { span = s; form = form.Block [] }
  first_of (e ∷ es) s = e

  abbrev pub form_erased : S.PForm-F (Span → Form) Stmt → Span → Form
  form_erased (S.Block ss) s = form.Block ss
  form_erased (S.Declare slot x t value) s = form.Declare (erase_ty t) (record { name = x; value = erase_any value } ∷ [])
  form_erased (S.Assign target value) s = form.Assign (erase_expr target) (erase_expr value)
  form_erased (S.Call e) s = form.Call (erase_expr e)
  form_erased (S.If c a b) s = form.If (erase_expr c) a b
  form_erased (S.While c a) s = form.While (erase_expr c) a
  form_erased (S.Return value) s = form.Return (erase_any value)
  form_erased (S.Assert e) s = form.Assert (erase_expr e)
  form_erased (S.Assume e) s = form.Assume (erase_expr e)
  form_erased (S.Minimize e) s = form.Minimize (erase_expr e)
  form_erased (S.Repeat c copies) s = form.Repeat (erase_expr c) (first_of copies s)
  form_erased (S.MinRepeat copies) s = form.MinRepeat (first_of copies s)
  form_erased (S.Reorder ss) s = form.Reorder ss

  abbrev pub erase_stmt : PStmt → Stmt
  erase_stmt = fold-PStmt (Span → Form) Stmt form_erased (λ p. record { span = p.span; form = p.form p.span })

  -- Items

  abbrev pub erase_kind : PFunKind → FunKind
  erase_kind pkind.Plain = kind.Plain
  erase_kind pkind.Harness = kind.Harness
  erase_kind pkind.Generator = kind.Generator

  abbrev pub erase_implements : Option FunId → Option (List ℕ)
  erase_implements None = None
  erase_implements (Some f) = Some (fun_name f)

  abbrev pub erase_struct : StructDef → Item
  erase_struct d = item.Struct d.name (map (λ (f : FieldDef). record { ty = erase_ty f.ty; name = f.name }) d.fields)

  abbrev pub erase_const : ConstDef → Item
  erase_const c = item.Const c.name (erase_expr c.value)

  abbrev pub erase_param : ParamDef → Param
  erase_param d = record { by_ref = d.by_ref; ty = erase_ty d.ty; name = d.name }

  abbrev pub erase_fun : Fun → Item
  erase_fun f = item.Fun (record { kind = erase_kind f.kind; result = erase_any_ty f.result; name = f.name; params = map erase_param f.params; implements = erase_implements f.implements; body = map erase_stmt f.body })

  -- the program as a tree: structs, then constants, then functions
  abbrev pub erase : Tree
  erase = record { items = map erase_struct prog.structs ++ (map erase_const prog.consts ++ map erase_fun prog.funs) }
