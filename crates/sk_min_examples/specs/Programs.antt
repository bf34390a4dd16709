-- Small programs with open parts, their choices, inputs and pairs.
use Rattle.std.specs.Prelude.{ℕ, pos, Bool, false, List, [], ◌∷◌, Option, Some, None}
use Rattle.sk_base.specs.declared.bounds.Bounds.{Bounds}
use Rattle.sk_prog.specs.declared.ids.FunId.{FunId}
use Rattle.sk_prog.specs.declared.ty.Elem.TheVariants as elem
use Rattle.sk_prog.specs.declared.ty.Ty.{Ty}
use Rattle.sk_prog.specs.declared.ty.Ty.TheVariants as ty
use Rattle.sk_prog.specs.declared.value.Value.{Value}
use Rattle.sk_prog.specs.declared.value.Value.TheVariants as value
use Rattle.sk_prog.specs.declared.expr.BinOp.TheVariants as op
use Rattle.sk_prog.specs.declared.expr.PExpr.{PExpr}
use Rattle.sk_prog.specs.declared.expr.PEForm.{PEForm}
use Rattle.sk_prog.specs.declared.expr.PEForm.TheVariants as eform
use Rattle.sk_prog.specs.declared.stmt.PStmt.{PStmt}
use Rattle.sk_prog.specs.declared.stmt.PForm.TheVariants as form
use Rattle.sk_prog.specs.declared.prog.FunKind.{FunKind}
use Rattle.sk_prog.specs.declared.prog.FunKind.TheVariants as kind
use Rattle.sk_prog.specs.declared.prog.ParamDef.{ParamDef}
use Rattle.sk_prog.specs.declared.prog.Fun.{Fun}
use Rattle.sk_prog.specs.declared.prog.Prog.{Prog}
use Rattle.sk_model.specs.declared.expanded.Site.{Site}
use Rattle.sk_model.specs.declared.expanded.Choice.{Choice}
use Rattle.sk_model.specs.declared.expanded.Expanded.{Expanded}
use Rattle.sk_model.specs.declared.expanded.Input.{Input}
use Rattle.sk_model.specs.declared.expanded.Pair.{Pair}
use Rattle.sk_model.specs.RunningExamples.{at, of_type, int_type, bits_type, int, number, variable, sum, stmt, program}

-- Programs are written as their trees, without names and without most spans. A text beside each says what it is.

-- an integer input has so many bits
abbrev pub of_inbits : ℕ → Bounds
of_inbits n = record { int_bits = 6; cbits = 2; inbits = n; unroll = 1; inline_amnt = 1 }

-- an integer input is 0 or 1
abbrev pub bounds : Bounds
bounds = of_inbits 1

abbrev pub id : ℕ → FunId
id n = record { index = n }

abbrev pub choice : List ℕ → Choice
choice values = record { values = values }

-- the choice of one value
abbrev pub only : ℕ → Choice
only n = choice (n ∷ [])

abbrev pub input : ℕ → List Value → Input
input o args = record { obligation = o; args = args }

-- the input of the first obligation with one integer
abbrev pub on : ℕ → Input
on n = input 0 (value.Int (pos n) ∷ [])

abbrev pub site : ℕ → Site
site n = record { size = n; span = at 0 }

abbrev pub param : Ty → ParamDef
param t = record { name = []; ty = t; by_ref = false }

abbrev pub harness : List ParamDef → ℕ → List PStmt → Fun
harness params slots body = record { name = []; kind = kind.Harness; result = None; params = params; slots = slots; implements = None; body = body }

abbrev pub bit : PEForm → PExpr
bit form = of_type (ty.One elem.Bit) form

-- Costs

-- `harness void h(int x) { int y = E; assert y != x; minimize(y + x); }`
abbrev pub costing : PExpr → Prog
costing e = program
    (harness (param int_type ∷ []) 2
    (stmt 1 (form.Declare 1 [] int_type (Some e))
    ∷ stmt 2 (form.Assert (bit (eform.Binary op.Ne (variable 1) (variable 0))))
    ∷ stmt 3 (form.Minimize (sum (variable 1) (variable 0)))
    ∷ [])
    ∷ [])

-- It has a hole of two bits. By the value y of the hole and the input x it
--   fails where y is x
--   costs y + x elsewhere
-- so 0 and 1 fail on an input, 2 costs 3 at the most, and 3 costs 4.
abbrev pub costly : Expanded
costly = record { prog = costing (int (eform.Hole None)); ordinary = 1; sites = site 4 ∷ [] }

-- its choice of the first number, and its input of the second
abbrev pub pair : ℕ → ℕ → Pair
pair y x = record { choice = only y; input = on x }

-- No costs

-- `harness void h() { assert E; }`
abbrev pub asserting : PEForm → Prog
asserting e = program (harness [] 0 (stmt 1 (form.Assert (bit e)) ∷ []) ∷ [])

abbrev pub free : Expanded
free = record { prog = asserting (eform.Hole None); ordinary = 1; sites = site 2 ∷ [] }

-- its input
abbrev pub none : Input
none = input 0 []

-- Obligations

abbrev pub fun : Option FunId → List PStmt → Fun
fun reference body = record { name = []; kind = kind.Plain; result = Some int_type; params = param int_type ∷ []; slots = 1; implements = reference; body = body }

abbrev pub gives : PExpr → List PStmt
gives e = stmt 4 (form.Return (Some e)) ∷ []

-- `harness void h(int x, bit[2] b) { }`
-- `int f(int x) implements g { return x; }`
-- `int g(int x) { return x; }`
-- with three sites, as it were
abbrev pub two_obligations : Expanded
two_obligations = record {
  prog = program (harness (param int_type ∷ param (bits_type 2) ∷ []) 2 [] ∷ fun (Some (id 2)) (gives (variable 0)) ∷ fun None (gives (variable 0)) ∷ []);
  ordinary = 3;
  sites = site 4 ∷ site 5 ∷ site 1 ∷ [];
}
