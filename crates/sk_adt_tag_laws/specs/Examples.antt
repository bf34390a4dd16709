-- Small programs with an algebraic type, and the spans in them that break a rule of tags.
use Rattle.std.specs.Prelude.{ℕ, ◌≡◌, Bool, true, false, List, [], ◌∷◌, Some, None}
use Rattle.sk_base.specs.declared.span.Span.{Span}
use Rattle.sk_prog.specs.declared.ids.StructId.{StructId}
use Rattle.sk_prog.specs.declared.ty.Elem.TheVariants as elem
use Rattle.sk_prog.specs.declared.ty.Ty.{Ty}
use Rattle.sk_prog.specs.declared.ty.Ty.TheVariants as ty
use Rattle.sk_prog.specs.declared.expr.BinOp.TheVariants as op
use Rattle.sk_prog.specs.declared.expr.PExpr.{PExpr}
use Rattle.sk_prog.specs.declared.expr.PEForm.TheVariants as eform
use Rattle.sk_prog.specs.declared.expr.PField.{PField}
use Rattle.sk_prog.specs.declared.stmt.PStmt.{PStmt}
use Rattle.sk_prog.specs.declared.stmt.PForm.TheVariants as form
use Rattle.sk_prog.specs.declared.prog.ParamDef.{ParamDef}
use Rattle.sk_prog.specs.declared.prog.StructDef.{StructDef}
use Rattle.sk_prog.specs.declared.prog.Prog.{Prog}
use Rattle.sk_model.specs.RunningExamples.{at, of_type, int_type, number, stmt, block, fun}
use Rattle.sk_adt.specs.declared.algebraic.Algebraic.{Algebraic}
use Rattle.sk_adt_tags.specs.Tags.{breaks}

-- `adt L { A { int v; } B { int w; } }`, and its struct `struct L { int tag; int v0f0; int v1f0; }`; L is the byte 76

abbrev pub types : List Algebraic
types = record { name = 76 ∷ []; variants = record { name = []; fields = [] ∷ [] } ∷ record { name = []; fields = [] ∷ [] } ∷ [] } ∷ []

abbrev pub struct : StructDef
struct = record { name = 76 ∷ []; fields = record { name = []; ty = int_type } ∷ record { name = []; ty = int_type } ∷ record { name = []; ty = int_type } ∷ [] }

abbrev pub l : StructId
l = record { index = 0 }

abbrev pub l_type : Ty
l_type = ty.One (elem.Reference l)

-- `int f(L x) { .. }` with these statements, and `void g(ref L x) { }`

abbrev pub parameter : Bool → ParamDef
parameter by_ref = record { by_ref = by_ref; ty = l_type; name = [] }

abbrev pub program : List PStmt → Prog
program ss = record { structs = struct ∷ []; consts = []; funs = fun (Some int_type) (parameter false ∷ []) 1 ss ∷ fun None (parameter true ∷ []) 1 [] ∷ [] }

abbrev pub breaks_in : List PStmt → List Span
breaks_in ss = breaks types (program ss)

-- Expressions, where the bytes of a field and of a `new` say where a rule is broken

abbrev pub x : PExpr
x = of_type l_type (eform.Var 0 [])

-- the fields of x: 0 is the tag, 1 that of A, and 2 that of B
abbrev pub field_at : ℕ → ℕ → PExpr
field_at n k = record { span = at n; ty = Some int_type; form = eform.Member x l k }

abbrev pub set : ℕ → ℕ → PField
set k n = record { field = k; value = number n }

abbrev pub new_at : ℕ → List PField → PExpr
new_at n fields = record { span = at n; ty = Some l_type; form = eform.New l fields }

abbrev pub null : PExpr
null = of_type l_type eform.Null

-- `return e;`, `x = e;`, `x.f = 7;`, `g(x);`, and `if (x.tag == i) { .. }`, whose tag has the bytes n

abbrev pub returning : PExpr → PStmt
returning e = stmt 0 (form.Return (Some e))

abbrev pub assigning : PExpr → PStmt
assigning e = stmt 0 (form.Assign x e)

abbrev pub setting : ℕ → ℕ → PStmt
setting n k = stmt 0 (form.Assign (field_at n k) (number 7))

abbrev pub passing : PStmt
passing = stmt 0 (form.Call (record { span = at 0; ty = None; form = eform.Call (record { index = 1 }) (x ∷ []) }))

abbrev pub test : ℕ → ℕ → PExpr
test n i = of_type (ty.One elem.Bit) (eform.Binary op.Eq (field_at n 0) (number i))

abbrev pub if_is : ℕ → List PStmt → PStmt
if_is i ss = stmt 0 (form.If (test 9 i) (block ss) None)

pub record TagExamples : Type 0 where
  -- a field of B stands where x is tested to be B, and there alone: neither where it is tested to be A, nor untested, nor where it is not B
  pub own : breaks_in (if_is 1 (returning (field_at 1 2) ∷ []) ∷ []) ≡ []
  pub other : breaks_in (if_is 0 (returning (field_at 1 2) ∷ []) ∷ []) ≡ at 1 ∷ []
  pub untested : breaks_in (returning (field_at 1 2) ∷ []) ≡ at 1 ∷ []
  pub otherwise : breaks_in (stmt 0 (form.If (test 9 1) (block []) (Some (block (returning (field_at 1 2) ∷ [])))) ∷ []) ≡ at 1 ∷ []
  pub behind : breaks_in (if_is 1 [] ∷ returning (field_at 1 2) ∷ []) ≡ at 1 ∷ []
  -- so is it with what is written
  pub own_set : breaks_in (if_is 1 (setting 1 2 ∷ []) ∷ []) ≡ []
  pub other_set : breaks_in (if_is 1 (setting 1 1 ∷ []) ∷ []) ≡ at 1 ∷ []
  -- a test does not count where x is assigned or passed to a `ref` parameter, before or behind
  pub assigned : breaks_in (if_is 1 (returning (field_at 1 2) ∷ assigning null ∷ []) ∷ []) ≡ at 1 ∷ []
  pub passed : breaks_in (if_is 1 (returning (field_at 1 2) ∷ passing ∷ []) ∷ []) ≡ at 1 ∷ []
  -- the tag is read in a test alone, and a test inside another one counts as well
  pub tag : breaks_in (returning (field_at 1 0) ∷ []) ≡ at 1 ∷ []
  pub tag_set : breaks_in (setting 1 0 ∷ []) ≡ at 1 ∷ []
  pub turned : breaks_in (stmt 0 (form.If (of_type (ty.One elem.Bit) (eform.Binary op.Eq (number 1) (field_at 1 0))) (block []) None) ∷ []) ≡ at 1 ∷ []
  pub inside : breaks_in (if_is 0 (if_is 1 (returning (field_at 1 2) ∷ returning (field_at 2 1) ∷ []) ∷ []) ∷ []) ≡ []
  -- `new L(tag = 1, v1f0 = 5)` keeps the rules; `new L(v1f0 = 5)`, `new L(tag = 2)` and `new L(tag = 1, v0f0 = 5)` do not, and break them before what they hold
  pub made : breaks_in (assigning (new_at 1 (set 0 1 ∷ set 2 5 ∷ [])) ∷ []) ≡ []
  pub no_tag : breaks_in (assigning (new_at 1 (set 2 5 ∷ [])) ∷ []) ≡ at 1 ∷ []
  pub no_variant : breaks_in (assigning (new_at 1 (set 0 2 ∷ [])) ∷ []) ≡ at 1 ∷ []
  pub not_of_it : breaks_in (assigning (new_at 1 (set 0 1 ∷ set 1 5 ∷ [])) ∷ []) ≡ at 1 ∷ []
  pub ordered : breaks_in (assigning (new_at 1 (record { field = 2; value = field_at 2 2 } ∷ [])) ∷ returning (field_at 3 0) ∷ []) ≡ at 1 ∷ at 2 ∷ at 3 ∷ []
