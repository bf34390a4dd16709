-- Programs that are well-formed, and programs that are not.
use Rattle.std.specs.Prelude.{◌≡◌, ℕ, Bool, true, false, List, [], ◌∷◌, Option, Some, None, codes}
use Rattle.sk_prog.specs.declared.ty.Ty.{Ty}
use Rattle.sk_prog.specs.declared.ty.Ty.TheVariants as ty
use Rattle.sk_prog.specs.declared.ty.Elem.TheVariants as elem
use Rattle.sk_prog.specs.declared.expr.PEForm.TheVariants as peform
use Rattle.sk_prog.specs.declared.stmt.PStmt.{PStmt}
use Rattle.sk_prog.specs.declared.stmt.PForm.TheVariants as pform
use Rattle.sk_prog.specs.declared.prog.FunKind.TheVariants as funkind
use Rattle.sk_prog.specs.declared.prog.StructDef.{StructDef}
use Rattle.sk_prog.specs.declared.prog.Prog.{Prog}
use Rattle.sk_prog.specs.Spanless.{no_span}
use Rattle.sk_prog.specs.Fits.{prog_fits}

abbrev pub reference : Ty
reference = ty.One (elem.Reference (record { index = 0 }))

-- a struct with a field of its own kind
abbrev pub node : StructDef
node = record { name = codes "Node"; fields = record { name = codes "next"; ty = reference } ∷ [] }

-- a function of this name, without a result and with one slot
abbrev pub with_function : List StructDef → List ℕ → List PStmt → Prog
with_function structs name body = record {
  structs = structs;
  consts = [];
  funs = record { name = name; kind = funkind.Plain; result = None; params = []; slots = 1; implements = None; body = body } ∷ [];
}

-- a variable of the struct, in this slot
abbrev pub declared : ℕ → PStmt
declared slot = record { span = no_span; form = pform.Declare slot (codes "p") reference None }

abbrev pub StructIsThere : Type 0
StructIsThere = prog_fits (with_function (node ∷ []) (codes "f") (declared 0 ∷ [])) ≡ true

abbrev pub StructIsMissing : Type 0
StructIsMissing = prog_fits (with_function [] (codes "f") (declared 0 ∷ [])) ≡ false

abbrev pub SlotIsMissing : Type 0
SlotIsMissing = prog_fits (with_function (node ∷ []) (codes "f") (declared 1 ∷ [])) ≡ false

abbrev pub NameIsKeyword : Type 0
NameIsKeyword = prog_fits (with_function (node ∷ []) (codes "while") []) ≡ false
