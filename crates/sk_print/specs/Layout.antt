-- The text of a typed program: structs, then constants, then functions, each in order; four spaces of
-- indentation a block; every line ends with a line feed; one space round binary operators and behind
-- commas. A coercion has no text of its own; parentheses are in the program and so in the text.
use Rattle.std.specs.Prelude.{ℕ, suc, List, [], ◌∷◌, ◌++◌, Bool, true, false, ◌==◌, if◌then◌else◌, Option, Some, None, codes, slice_get}
use Rattle.std.specs.Fmt.{decimal}
use Rattle.std.specs.List.{repeat, flat_map, join_by}
use Rattle.sk_prog.specs.declared.ids.StructId.{StructId}
use Rattle.sk_prog.specs.declared.ids.ConstId.{ConstId}
use Rattle.sk_prog.specs.declared.ids.FunId.{FunId}
use Rattle.sk_prog.specs.declared.ty.Elem.{Elem}
use Rattle.sk_prog.specs.declared.ty.Elem.TheVariants as elem
use Rattle.sk_prog.specs.declared.ty.Ty.{Ty}
use Rattle.sk_prog.specs.declared.ty.Ty.TheVariants as ty
use Rattle.sk_prog.specs.declared.expr.UnOp.{UnOp}
use Rattle.sk_prog.specs.declared.expr.UnOp.TheVariants as unop
use Rattle.sk_prog.specs.declared.expr.BinOp.{BinOp}
use Rattle.sk_prog.specs.declared.expr.BinOp.TheVariants as op
use Rattle.sk_prog.specs.declared.expr.PExpr.{PExpr}
use Rattle.sk_prog.specs.declared.expr.PField.{PField}
use Rattle.sk_prog.specs.declared.expr.PEForm.TheOpen as P
use Rattle.sk_prog.specs.declared.expr.PEForm.TheFolds.{fold-PExpr, fold-PField}
use Rattle.sk_prog.specs.declared.stmt.PStmt.{PStmt}
use Rattle.sk_prog.specs.declared.stmt.PForm.TheOpen as S
use Rattle.sk_prog.specs.declared.stmt.PForm.TheFolds.{fold-PStmt}
use Rattle.sk_prog.specs.declared.prog.FunKind.{FunKind}
use Rattle.sk_prog.specs.declared.prog.FunKind.TheVariants as funkind
use Rattle.sk_prog.specs.declared.prog.FieldDef.{FieldDef}
use Rattle.sk_prog.specs.declared.prog.StructDef.{StructDef}
use Rattle.sk_prog.specs.declared.prog.ConstDef.{ConstDef}
use Rattle.sk_prog.specs.declared.prog.ParamDef.{ParamDef}
use Rattle.sk_prog.specs.declared.prog.Fun.{Fun}
use Rattle.sk_prog.specs.declared.prog.Prog.{Prog}

-- Names that are numbers in the program are looked up there. A number that names nothing has no text;
-- no such number stands in a program that fits.

abbrev pub looked_up : {A : Type 0} → (A → List ℕ) → Option A → List ℕ
looked_up name None = []
looked_up name (Some a) = name a

abbrev pub struct_name : Prog → StructId → List ℕ
struct_name prog s = looked_up (λ d. d.name) (slice_get prog.structs s.index)

abbrev pub const_name : Prog → ConstId → List ℕ
const_name prog c = looked_up (λ d. d.name) (slice_get prog.consts c.index)

abbrev pub fun_name : Prog → FunId → List ℕ
fun_name prog f = looked_up (λ d. d.name) (slice_get prog.funs f.index)

abbrev pub field_among : ℕ → StructDef → List ℕ
field_among field d = looked_up (λ a. a.name) (slice_get d.fields field)

abbrev pub field_name : Prog → StructId → ℕ → List ℕ
field_name prog s field = looked_up (field_among field) (slice_get prog.structs s.index)

-- Types

abbrev pub elem_layout : Prog → Elem → List ℕ
elem_layout prog elem.Int = codes "int"
elem_layout prog elem.Bit = codes "bit"
elem_layout prog (elem.Reference s) = struct_name prog s

abbrev pub length_layout : ℕ → List ℕ
length_layout n = codes "[" ++ decimal n ++ codes "]"

-- the text of a type
abbrev pub ty_layout : Prog → Ty → List ℕ
ty_layout prog (ty.One t) = elem_layout prog t
ty_layout prog (ty.Array t n) = elem_layout prog t ++ length_layout n
ty_layout prog (ty.Grid t n m) = elem_layout prog t ++ length_layout n ++ length_layout m

-- Expressions

unfoldable pub op_layout : BinOp → List ℕ
op_layout op.Mul = codes "*"
op_layout op.Div = codes "/"
op_layout op.Rem = codes "%"
op_layout op.Add = codes "+"
op_layout op.Sub = codes "-"
op_layout op.Shl = codes "<<"
op_layout op.Shr = codes ">>"
op_layout op.Lt = codes "<"
op_layout op.Le = codes "<="
op_layout op.Gt = codes ">"
op_layout op.Ge = codes ">="
op_layout op.Eq = codes "=="
op_layout op.Ne = codes "!="
op_layout op.And = codes "&"
op_layout op.Xor = codes "^"
op_layout op.Or = codes "|"
op_layout op.AndThen = codes "&&"
op_layout op.OrElse = codes "||"

-- a space, where the text begins with a minus sign: two of them would be one mark
abbrev pub minus_gap : List ℕ → List ℕ
minus_gap [] = []
minus_gap (b ∷ bs) = if b == 45 then codes " " else []

-- an operator with nothing between it and its operand, but for that space
abbrev pub unary_layout : UnOp → List ℕ → List ℕ
unary_layout unop.Not a = codes "!" ++ a
unary_layout unop.Flip a = codes "~" ++ a
unary_layout unop.Neg a = codes "-" ++ minus_gap a ++ a

-- texts with a comma and a space between two
abbrev pub commas : List (List ℕ) → List ℕ
commas texts = join_by (λ t. t) (codes ", ") texts

abbrev pub eform_layout : Prog → P.PEForm-F (List ℕ) (List ℕ) (StructId → List ℕ) → List ℕ
eform_layout prog (P.Number n) = decimal n
eform_layout prog P.True = codes "true"
eform_layout prog P.False = codes "false"
eform_layout prog P.Null = codes "null"
eform_layout prog (P.Var slot x) = x
eform_layout prog (P.Const c) = const_name prog c
eform_layout prog (P.Hole None) = codes "??"
eform_layout prog (P.Hole (Some n)) = codes "??(" ++ decimal n ++ codes ")"
eform_layout prog (P.Pattern es) = codes "{| " ++ join_by (λ e. e) (codes " | ") es ++ codes " |}"
eform_layout prog (P.Paren e) = codes "(" ++ e ++ codes ")"
eform_layout prog (P.Call f args) = fun_name prog f ++ codes "(" ++ commas args ++ codes ")"
eform_layout prog (P.New s fields) = codes "new " ++ struct_name prog s ++ codes "(" ++ join_by (λ f. f s) (codes ", ") fields ++ codes ")"
eform_layout prog (P.Braces es) = codes "{" ++ commas es ++ codes "}"
eform_layout prog (P.Member e s field) = e ++ codes "." ++ field_name prog s field
eform_layout prog (P.Index e i) = e ++ codes "[" ++ i ++ codes "]"
eform_layout prog (P.Slice e i n) = e ++ codes "[" ++ i ++ codes "::" ++ decimal n ++ codes "]"
eform_layout prog (P.Unary op e) = unary_layout op e
eform_layout prog (P.Binary op a b) = a ++ codes " " ++ op_layout op ++ codes " " ++ b
eform_layout prog (P.Cond c a b) = c ++ codes " ? " ++ a ++ codes " : " ++ b
eform_layout prog (P.ToInt e) = e
eform_layout prog (P.Pad e) = e

-- a field that `new` sets, with its name in that struct
abbrev pub pfield_layout : Prog → P.PField-F (List ℕ) (List ℕ) (StructId → List ℕ) → StructId → List ℕ
pfield_layout prog f s = field_name prog s f.field ++ codes " = " ++ f.value

-- the text of an expression
abbrev pub expr_layout : Prog → PExpr → List ℕ
expr_layout prog = fold-PExpr (List ℕ) (List ℕ) (StructId → List ℕ) (eform_layout prog) (λ x. x.form) (pfield_layout prog)

-- the text of a field that `new` sets, in that struct
abbrev pub set_layout : Prog → PField → StructId → List ℕ
set_layout prog = fold-PField (List ℕ) (List ℕ) (StructId → List ℕ) (eform_layout prog) (λ x. x.form) (pfield_layout prog)

-- Statements

-- a line of its own, so many blocks deep
abbrev pub line : ℕ → List ℕ → List ℕ
line depth text = repeat depth (codes "    ") ++ text ++ codes "\n"

abbrev pub initial_layout : Prog → Option PExpr → List ℕ
initial_layout prog None = []
initial_layout prog (Some e) = codes " = " ++ expr_layout prog e

abbrev pub returned_layout : Prog → Option PExpr → List ℕ
returned_layout prog None = []
returned_layout prog (Some e) = codes " " ++ expr_layout prog e

-- The lines of a statement, from whether it is the body of another form, whose braces stand round it, and
-- how many blocks deep it stands. A block that is a body has no braces of its own.
abbrev pub Lines : Type 0
Lines = Bool → ℕ → List ℕ

abbrev pub each_line : Bool → ℕ → List Lines → List ℕ
each_line is_body depth ss = flat_map (λ s. s is_body depth) ss

-- the same lines in both places
abbrev pub plain : (ℕ → List ℕ) → Lines
plain lines is_body depth = lines depth

-- a first line, lines one block deeper, and a closing brace
abbrev pub braced : List ℕ → (ℕ → List ℕ) → Lines
braced head body = plain (λ depth. line depth head ++ body (suc depth) ++ line depth (codes "}"))

abbrev pub block_layout : List Lines → Lines
block_layout ss is_body depth = if is_body then each_line false depth ss else braced (codes "{") (λ d. each_line false d ss) false depth

-- what stands behind the body of an `if`
abbrev pub else_layout : ℕ → Option Lines → List ℕ
else_layout depth None = []
else_layout depth (Some b) = line depth (codes "} else {") ++ b true (suc depth)

abbrev pub if_layout : List ℕ → Lines → Option Lines → Lines
if_layout c a b = plain (λ depth. line depth (codes "if (" ++ c ++ codes ") {") ++ a true (suc depth) ++ else_layout depth b ++ line depth (codes "}"))

-- A repeat holds one statement before expansion. Where it holds more copies, what is in them stands in
-- order between its braces.
abbrev pub pform_layout : Prog → S.PForm-F Lines Lines → Lines
pform_layout prog (S.Block ss) = block_layout ss
pform_layout prog (S.Declare slot x t value) = plain (λ depth. line depth (ty_layout prog t ++ codes " " ++ x ++ initial_layout prog value ++ codes ";"))
pform_layout prog (S.Assign target value) = plain (λ depth. line depth (expr_layout prog target ++ codes " = " ++ expr_layout prog value ++ codes ";"))
pform_layout prog (S.Call e) = plain (λ depth. line depth (expr_layout prog e ++ codes ";"))
pform_layout prog (S.If c a b) = if_layout (expr_layout prog c) a b
pform_layout prog (S.While c a) = braced (codes "while (" ++ expr_layout prog c ++ codes ") {") (a true)
pform_layout prog (S.Return value) = plain (λ depth. line depth (codes "return" ++ returned_layout prog value ++ codes ";"))
pform_layout prog (S.Assert e) = plain (λ depth. line depth (codes "assert " ++ expr_layout prog e ++ codes ";"))
pform_layout prog (S.Assume e) = plain (λ depth. line depth (codes "assume " ++ expr_layout prog e ++ codes ";"))
pform_layout prog (S.Minimize e) = plain (λ depth. line depth (codes "minimize(" ++ expr_layout prog e ++ codes ");"))
pform_layout prog (S.Repeat c copies) = braced (codes "repeat (" ++ expr_layout prog c ++ codes ") {") (λ depth. each_line true depth copies)
pform_layout prog (S.MinRepeat copies) = braced (codes "minrepeat {") (λ depth. each_line true depth copies)
pform_layout prog (S.Reorder ss) = braced (codes "reorder {") (λ depth. each_line false depth ss)

-- the lines of a statement
abbrev pub stmt_lines : Prog → PStmt → Lines
stmt_lines prog = fold-PStmt Lines Lines (pform_layout prog) (λ s. s.form)

-- the text of a statement that stands so many blocks deep
abbrev pub stmt_layout : Prog → PStmt → ℕ → List ℕ
stmt_layout prog s = stmt_lines prog s false

-- Structs, constants and functions

abbrev pub struct_field_layout : Prog → FieldDef → List ℕ
struct_field_layout prog d = line 1 (ty_layout prog d.ty ++ codes " " ++ d.name ++ codes ";")

abbrev pub struct_layout : Prog → StructDef → List ℕ
struct_layout prog d = line 0 (codes "struct " ++ d.name ++ codes " {") ++ flat_map (struct_field_layout prog) d.fields ++ line 0 (codes "}")

abbrev pub const_layout : Prog → ConstDef → List ℕ
const_layout prog c = line 0 (codes "int " ++ c.name ++ codes " = " ++ expr_layout prog c.value ++ codes ";")

abbrev pub ref_layout : Bool → List ℕ
ref_layout false = []
ref_layout true = codes "ref "

abbrev pub param_layout : Prog → ParamDef → List ℕ
param_layout prog p = ref_layout p.by_ref ++ ty_layout prog p.ty ++ codes " " ++ p.name

abbrev pub kind_layout : FunKind → List ℕ
kind_layout funkind.Plain = []
kind_layout funkind.Harness = codes "harness "
kind_layout funkind.Generator = codes "generator "

abbrev pub result_layout : Prog → Option Ty → List ℕ
result_layout prog None = codes "void"
result_layout prog (Some t) = ty_layout prog t

abbrev pub implements_layout : Prog → Option FunId → List ℕ
implements_layout prog None = []
implements_layout prog (Some g) = codes " implements " ++ fun_name prog g

-- the line that a function begins with
abbrev pub head_layout : Prog → Fun → List ℕ
head_layout prog f = kind_layout f.kind ++ result_layout prog f.result ++ codes " " ++ f.name ++ codes "(" ++ join_by (param_layout prog) (codes ", ") f.params ++ codes ")" ++ implements_layout prog f.implements ++ codes " {"

-- the text of a function
abbrev pub fun_layout : Prog → Fun → List ℕ
fun_layout prog f = line 0 (head_layout prog f) ++ flat_map (λ s. stmt_layout prog s 1) f.body ++ line 0 (codes "}")

-- the text of a program
abbrev pub layout : Prog → List ℕ
layout prog = flat_map (struct_layout prog) prog.structs ++ flat_map (const_layout prog) prog.consts ++ flat_map (fun_layout prog) prog.funs
