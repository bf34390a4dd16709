-- Well-formed programs: every number in a program names something that is there, and every name is a word
-- and no keyword.
use Rattle.std.specs.Prelude.{ℕ, nat_lt, nat_le, Bool, true, false, ◌&&◌, List, [], ◌∷◌, length, Option, Some, None, is_none, slice_get}
use Rattle.std.specs.List.{list_all}
use Rattle.sk_tree.specs.Shapes.{is_letter, is_word_byte}
use Rattle.sk_tree.specs.Spelling.{key_of}
use Rattle.sk_prog.specs.declared.ids.StructId.{StructId}
use Rattle.sk_prog.specs.declared.ids.ConstId.{ConstId}
use Rattle.sk_prog.specs.declared.ids.FunId.{FunId}
use Rattle.sk_prog.specs.declared.ty.Elem.{Elem}
use Rattle.sk_prog.specs.declared.ty.Elem.TheVariants as elem
use Rattle.sk_prog.specs.declared.ty.Ty.{Ty}
use Rattle.sk_prog.specs.declared.ty.Ty.TheVariants as ty
use Rattle.sk_prog.specs.declared.expr.PExpr.{PExpr}
use Rattle.sk_prog.specs.declared.expr.PEForm.TheOpen as P
use Rattle.sk_prog.specs.declared.expr.PEForm.TheFolds.{fold-PExpr}
use Rattle.sk_prog.specs.declared.stmt.PStmt.{PStmt}
use Rattle.sk_prog.specs.declared.stmt.PForm.TheOpen as S
use Rattle.sk_prog.specs.declared.stmt.PForm.TheFolds.{fold-PStmt}
use Rattle.sk_prog.specs.declared.prog.FieldDef.{FieldDef}
use Rattle.sk_prog.specs.declared.prog.StructDef.{StructDef}
use Rattle.sk_prog.specs.declared.prog.ConstDef.{ConstDef}
use Rattle.sk_prog.specs.declared.prog.ParamDef.{ParamDef}
use Rattle.sk_prog.specs.declared.prog.Fun.{Fun}
use Rattle.sk_prog.specs.declared.prog.Prog.{Prog}
use Rattle.sk_prog.specs.Names.{is_yes, any_yes}

-- Names

-- a letter or _, then letters, digits and _
abbrev pub is_word : List ℕ → Bool
is_word [] = false
is_word (b ∷ bs) = is_letter b && list_all is_word_byte bs

-- a word that is no keyword
abbrev pub is_name : List ℕ → Bool
is_name name = is_word name && is_none (key_of name)

-- Numbers

abbrev pub has_struct : Prog → StructId → Bool
has_struct prog s = nat_lt s.index (length prog.structs)

abbrev pub has_const : Prog → ConstId → Bool
has_const prog c = nat_lt c.index (length prog.consts)

abbrev pub has_fun : Prog → FunId → Bool
has_fun prog f = nat_lt f.index (length prog.funs)

abbrev pub field_in : ℕ → Option StructDef → Bool
field_in field None = false
field_in field (Some d) = nat_lt field (length d.fields)

-- whether the struct is there and has the field
abbrev pub has_field : Prog → StructId → ℕ → Bool
has_field prog s field = field_in field (slice_get prog.structs s.index)

abbrev pub elem_fits : Prog → Elem → Bool
elem_fits prog elem.Bit = true
elem_fits prog elem.Int = true
elem_fits prog (elem.Reference s) = has_struct prog s

abbrev pub ty_fits : Prog → Ty → Bool
ty_fits prog (ty.One t) = elem_fits prog t
ty_fits prog (ty.Array t n) = elem_fits prog t
ty_fits prog (ty.Grid t n m) = elem_fits prog t

abbrev pub any_ty_fits : Prog → Option Ty → Bool
any_ty_fits prog None = true
any_ty_fits prog (Some t) = ty_fits prog t

-- In a function with so many slots. A field of `new` is asked with the struct that it is a field of.
module _ (prog : Prog) (slots : ℕ) where
  abbrev pub eform_fits : P.PEForm-F Bool Bool (StructId → Bool) → Bool
  eform_fits (P.Number n) = true
  eform_fits P.True = true
  eform_fits P.False = true
  eform_fits P.Null = true
  eform_fits (P.Var slot x) = nat_lt slot slots && is_name x
  eform_fits (P.Const c) = has_const prog c
  eform_fits (P.Hole n) = true
  eform_fits (P.Pattern es) = list_all is_yes es
  eform_fits (P.Paren e) = e
  eform_fits (P.Call f args) = has_fun prog f && list_all is_yes args
  eform_fits (P.New s fields) = has_struct prog s && list_all (λ f. f s) fields
  eform_fits (P.Braces es) = list_all is_yes es
  eform_fits (P.Member e s field) = e && has_field prog s field
  eform_fits (P.Index e i) = e && i
  eform_fits (P.Slice e i n) = e && i
  eform_fits (P.Unary op e) = e
  eform_fits (P.Binary op a b) = a && b
  eform_fits (P.Cond c a b) = c && (a && b)
  eform_fits (P.ToInt e) = e
  eform_fits (P.Pad e) = e

  abbrev pub layer_fits : P.PExpr-F Bool Bool (StructId → Bool) → Bool
  layer_fits x = any_ty_fits prog x.ty && x.form

  abbrev pub pfield_fits : P.PField-F Bool Bool (StructId → Bool) → StructId → Bool
  pfield_fits f s = has_field prog s f.field && f.value

  abbrev pub expr_fits : PExpr → Bool
  expr_fits = fold-PExpr Bool Bool (StructId → Bool) eform_fits layer_fits pfield_fits

  abbrev pub any_expr_fits : Option PExpr → Bool
  any_expr_fits None = true
  any_expr_fits (Some e) = expr_fits e

  abbrev pub form_fits : S.PForm-F Bool Bool → Bool
  form_fits (S.Block ss) = list_all is_yes ss
  form_fits (S.Declare slot x t value) = nat_lt slot slots && (is_name x && (ty_fits prog t && any_expr_fits value))
  form_fits (S.Assign target value) = expr_fits target && expr_fits value
  form_fits (S.Call e) = expr_fits e
  form_fits (S.If c a b) = expr_fits c && (a && any_yes b)
  form_fits (S.While c a) = expr_fits c && a
  form_fits (S.Return value) = any_expr_fits value
  form_fits (S.Assert e) = expr_fits e
  form_fits (S.Assume e) = expr_fits e
  form_fits (S.Minimize e) = expr_fits e
  form_fits (S.Repeat c copies) = expr_fits c && list_all is_yes copies
  form_fits (S.MinRepeat copies) = list_all is_yes copies
  form_fits (S.Reorder ss) = list_all is_yes ss

  abbrev pub stmt_fits : PStmt → Bool
  stmt_fits = fold-PStmt Bool Bool form_fits (λ s. s.form)

abbrev pub field_fits : Prog → FieldDef → Bool
field_fits prog d = is_name d.name && ty_fits prog d.ty

abbrev pub struct_fits : Prog → StructDef → Bool
struct_fits prog d = is_name d.name && list_all (field_fits prog) d.fields

-- A constant has no variables.
abbrev pub const_fits : Prog → ConstDef → Bool
const_fits prog c = is_name c.name && expr_fits prog 0 c.value

abbrev pub param_fits : Prog → ParamDef → Bool
param_fits prog d = is_name d.name && ty_fits prog d.ty

abbrev pub implements_fits : Prog → Option FunId → Bool
implements_fits prog None = true
implements_fits prog (Some g) = has_fun prog g

-- The parameters have the first slots.
abbrev pub fun_fits : Prog → Fun → Bool
fun_fits prog f =
    is_name f.name
    && (any_ty_fits prog f.result
    && (list_all (param_fits prog) f.params
    && (nat_le (length f.params) f.slots
    && (implements_fits prog f.implements
    && list_all (stmt_fits prog f.slots) f.body))))

-- whether a program is well-formed
unfoldable pub prog_fits : Prog → Bool
prog_fits prog = list_all (struct_fits prog) prog.structs && (list_all (const_fits prog) prog.consts && list_all (fun_fits prog) prog.funs)
