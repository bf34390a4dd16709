-- Small programs with an algebraic type, and how their runs with records by their variants end.
use Rattle.std.specs.Prelude.{ℕ, ◌≡◌, pos, List, [], ◌∷◌, Some, None}
use Rattle.sk_prog.specs.declared.ids.StructId.{StructId}
use Rattle.sk_prog.specs.declared.ty.Elem.TheVariants as elem
use Rattle.sk_prog.specs.declared.ty.Ty.{Ty}
use Rattle.sk_prog.specs.declared.ty.Ty.TheVariants as ty
use Rattle.sk_prog.specs.declared.value.Value.TheVariants as value
use Rattle.sk_prog.specs.declared.expr.BinOp.TheVariants as op
use Rattle.sk_prog.specs.declared.expr.PExpr.{PExpr}
use Rattle.sk_prog.specs.declared.expr.PEForm.TheVariants as eform
use Rattle.sk_prog.specs.declared.expr.PField.{PField}
use Rattle.sk_prog.specs.declared.stmt.PStmt.{PStmt}
use Rattle.sk_prog.specs.declared.stmt.PForm.TheVariants as form
use Rattle.sk_prog.specs.declared.prog.StructDef.{StructDef}
use Rattle.sk_prog.specs.declared.prog.Prog.{Prog}
use Rattle.sk_model.specs.declared.outcome.Outcome.TheVariants as outcome
use Rattle.sk_model.specs.Run.{nowhere}
use Rattle.sk_model.specs.RunningExamples.{small, at, of_type, int_type, int, number, stmt, block, fun}
use Rattle.sk_adt.specs.declared.algebraic.Algebraic.{Algebraic}
use Rattle.sk_adt_records.specs.Run.{Ending, Ends, Stray, calls, ending_of, start}

-- `adt L { A { int v; } B { int w; } }`, and its struct `struct L { int tag; int v0f0; int v1f0; }`; L is the byte 76

abbrev pub types : List Algebraic
types = record { name = 76 ∷ []; variants = record { name = []; fields = [] ∷ [] } ∷ record { name = []; fields = [] ∷ [] } ∷ [] } ∷ []

abbrev pub struct : StructDef
struct = record { name = 76 ∷ []; fields = record { name = []; ty = int_type } ∷ record { name = []; ty = int_type } ∷ record { name = []; ty = int_type } ∷ [] }

abbrev pub l : StructId
l = record { index = 0 }

abbrev pub l_type : Ty
l_type = ty.One (elem.Reference l)

-- the variable x, and its fields: 0 is the tag, 1 that of A, and 2 that of B

abbrev pub x : PExpr
x = of_type l_type (eform.Var 0 [])

abbrev pub field : ℕ → PExpr
field k = int (eform.Member x l k)

abbrev pub set : ℕ → ℕ → PField
set k n = record { field = k; value = number n }

-- `L x = e; s`
abbrev pub program : PExpr → PStmt → Prog
program e s = record { structs = struct ∷ []; consts = []; funs = fun (Some int_type) [] 1 (stmt 1 (form.Declare 0 [] l_type (Some e)) ∷ s ∷ []) ∷ [] }

-- how its run ends
abbrev pub ending_in : PExpr → PStmt → Ending
ending_in e s = ending_of (calls types (program e s) small 1 [] nowhere 0 [] start)

-- `new L(tag = 1, v1f0 = 5)`
abbrev pub a_b : PExpr
a_b = of_type l_type (eform.New l (set 0 1 ∷ set 2 5 ∷ []))

abbrev pub null : PExpr
null = of_type l_type eform.Null

-- `return e;`, `x.f = 7;`, `if (x.tag == i) { return 1; }`

abbrev pub returning : PExpr → PStmt
returning e = stmt 2 (form.Return (Some e))

abbrev pub setting : ℕ → PStmt
setting k = stmt 2 (form.Assign (field k) (number 7))

abbrev pub testing : ℕ → PStmt
testing i = stmt 2 (form.If (of_type (ty.One elem.Bit) (eform.Binary op.Eq (field 0) (number i))) (block (stmt 3 (form.Return (Some (number 1))) ∷ [])) None)

abbrev pub gives : ℕ → Ending
gives n = Ends (outcome.Done (Some (value.Int (pos n))) [] 0)

pub record RecordExamples : Type 0 where
  -- a record of B has the field of B, and neither that of A nor a tag that could be read
  pub own : ending_in a_b (returning (field 2)) ≡ gives 5
  pub other : ending_in a_b (returning (field 1)) ≡ Stray
  pub tag : ending_in a_b (returning (field 0)) ≡ Stray
  -- so is it with what is written
  pub own_set : ending_in a_b (setting 2) ≡ gives 0
  pub other_set : ending_in a_b (setting 1) ≡ Stray
  -- it is asked for its variant, and null fails
  pub is_b : ending_in a_b (testing 1) ≡ gives 1
  pub is_not_a : ending_in a_b (testing 0) ≡ gives 0
  pub of_null : ending_in null (testing 0) ≡ Ends (outcome.Failed (at 2))
  -- `new L(v0f0 = 5)` is of the first variant; `new L(v1f0 = 5)` and `new L(tag = 2)` are of none
  pub first : ending_in (of_type l_type (eform.New l (set 1 5 ∷ []))) (returning (field 1)) ≡ gives 5
  pub not_first : ending_in (of_type l_type (eform.New l (set 2 5 ∷ []))) (returning (field 2)) ≡ Stray
  pub no_variant : ending_in (of_type l_type (eform.New l (set 0 2 ∷ []))) (returning (number 0)) ≡ Stray
