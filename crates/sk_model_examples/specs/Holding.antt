-- Small programs, and what must hold of them.
use Rattle.std.specs.Prelude.{ℕ, ◌≡◌, pos, true, false, List, [], ◌∷◌, Option, Some, None}
use Rattle.sk_prog.specs.declared.ids.FunId.{FunId}
use Rattle.sk_prog.specs.declared.ty.Elem.TheVariants as elem
use Rattle.sk_prog.specs.declared.ty.Ty.TheVariants as ty
use Rattle.sk_prog.specs.declared.value.Value.{Value}
use Rattle.sk_prog.specs.declared.value.Value.TheVariants as value
use Rattle.sk_prog.specs.declared.expr.BinOp.TheVariants as op
use Rattle.sk_prog.specs.declared.expr.PExpr.{PExpr}
use Rattle.sk_prog.specs.declared.expr.PEForm.TheVariants as eform
use Rattle.sk_prog.specs.declared.stmt.PStmt.{PStmt}
use Rattle.sk_prog.specs.declared.stmt.PForm.TheVariants as form
use Rattle.sk_prog.specs.declared.prog.FunKind.TheVariants as kind
use Rattle.sk_prog.specs.declared.prog.ParamDef.{ParamDef}
use Rattle.sk_prog.specs.declared.prog.Fun.{Fun}
use Rattle.sk_prog.specs.declared.prog.Prog.{Prog}
use Rattle.sk_model.specs.declared.expanded.Site.{Site}
use Rattle.sk_model.specs.declared.expanded.Choice.{Choice}
use Rattle.sk_model.specs.declared.expanded.Expanded.{Expanded}
use Rattle.sk_model.specs.declared.expanded.Obligation.TheVariants as obligation
use Rattle.sk_model.specs.declared.expanded.Input.{Input}
use Rattle.sk_model.specs.Fill.{InRange}
use Rattle.sk_model.specs.Obligations.{obligations}
use Rattle.sk_model.specs.Inputs.{IsInput}
use Rattle.sk_model.specs.Meets.{Breaks, Meets, cost_on, IsGreatestCost, Passes}
use Rattle.sk_model.specs.RunningExamples.{small, at, of_type, int_type, number, variable, on, off, stmt, param, program}

-- Programs are written as their trees, without names and without most spans. A text beside each says what it is. The bounds
-- are small: an integer input has two bits, and so is from 0 to 3.

-- the function with this number
abbrev pub id : ℕ → FunId
id n = record { index = n }

-- the input of this obligation with these arguments
abbrev pub input : ℕ → List Value → Input
input n args = record { obligation = n; args = args }

-- the arguments that one integer makes
abbrev pub one : ℕ → List Value
one n = value.Int (pos n) ∷ []

-- `x == 0`
abbrev pub is_zero : PExpr
is_zero = of_type (ty.One elem.Bit) (eform.Binary op.Eq (variable 0) (number 0))

abbrev pub harness : List ParamDef → ℕ → List PStmt → Fun
harness params slots body = record { name = []; kind = kind.Harness; result = None; params = params; slots = slots; implements = None; body = body }

-- a function of an integer that gives one, with this reference or none
abbrev pub of_int : Option FunId → List PStmt → Fun
of_int reference body = record { name = []; kind = kind.Plain; result = Some int_type; params = param false ∷ []; slots = 1; implements = reference; body = body }

abbrev pub gives : ℕ → PExpr → PStmt
gives n e = stmt n (form.Return (Some e))

-- Choices

-- the expansion has two sites, with two values and with three
abbrev pub two_sites : Expanded
two_sites = record { prog = program []; ordinary = 0; sites = record { size = 2; span = at 1 } ∷ record { size = 3; span = at 2 } ∷ [] }

abbrev pub choice : List ℕ → Choice
choice values = record { values = values }

pub record ChoiceExamples : Type 0 where
  pub greatest : InRange two_sites (choice (1 ∷ 2 ∷ []))
  pub too_great : InRange two_sites (choice (1 ∷ 3 ∷ [])) → ⊥
  pub too_few : InRange two_sites (choice (1 ∷ [])) → ⊥
  pub too_many : InRange two_sites (choice (1 ∷ 2 ∷ 0 ∷ [])) → ⊥

-- Obligations and inputs

-- `harness void h(int x) { assert x == 0; minimize(x); }`
-- `int f(int x) implements g { return x; }`
-- `int g(int x) { assume x == 0; return 0; }`
abbrev pub with_reference : Prog
with_reference = program
    (harness (param false ∷ []) 1 (stmt 1 (form.Assert is_zero) ∷ stmt 2 (form.Minimize (variable 0)) ∷ [])
    ∷ of_int (Some (id 2)) (gives 3 (variable 0) ∷ [])
    ∷ of_int None (stmt 4 (form.Assume is_zero) ∷ gives 5 (number 0) ∷ [])
    ∷ [])

pub record ObligationExamples : Type 0 where
  -- the harness, and then the function with a reference; of the reference itself nothing is asked
  pub in_order : obligations with_reference ≡ obligation.Harness (id 0) ∷ obligation.Implements (id 1) (id 2) ∷ []
  pub none : obligations (program (of_int None (gives 1 (variable 0) ∷ []) ∷ [])) ≡ []

pub record InputExamples : Type 0 where
  pub of_harness : IsInput with_reference small (input 0 (one 3))
  pub of_reference : IsInput with_reference small (input 1 (one 0))
  pub too_great : IsInput with_reference small (input 0 (one 4)) → ⊥
  pub no_obligation : IsInput with_reference small (input 2 (one 0)) → ⊥
  pub no_argument : IsInput with_reference small (input 0 []) → ⊥
  pub two_arguments : IsInput with_reference small (input 0 (value.Int (pos 0) ∷ value.Int (pos 0) ∷ [])) → ⊥

-- Breaking

-- `int f(int x) implements g { return x; }`
-- `int g(int x) { return 0; }`
abbrev pub wrong : Prog
wrong = program (of_int (Some (id 1)) (gives 1 (variable 0) ∷ []) ∷ of_int None (gives 2 (number 0) ∷ []) ∷ [])

-- `harness void h() { minimize(2); }`
abbrev pub two : Prog
two = program (harness [] 0 (stmt 1 (form.Minimize (number 2)) ∷ []) ∷ [])

-- `harness void h() { assert false; }`
abbrev pub never : Prog
never = program (harness [] 0 (stmt 1 (form.Assert (of_type (ty.One elem.Bit) off)) ∷ []) ∷ [])

pub record BreakExamples : Type 0 where
  pub holds : Breaks with_reference small (input 0 (one 0)) → ⊥
  pub fails : Breaks with_reference small (input 0 (one 1))
  pub agrees : Breaks wrong small (input 0 (one 0)) → ⊥
  pub differs : Breaks wrong small (input 0 (one 1))
  -- on 1 the reference is skipped, and whatever the function gives breaks nothing
  pub skipped : Breaks with_reference small (input 1 (one 1)) → ⊥
  pub no_obligation : Breaks with_reference small (input 2 (one 1)) → ⊥
  pub meets : Meets two small
  pub breaks : Meets never small → ⊥

-- Costs

pub record CostExamples : Type 0 where
  pub of_harness : cost_on two small (input 0 []) ≡ 2
  -- a run that fails costs nothing, and neither does a function with a reference
  pub of_failure : cost_on with_reference small (input 0 (one 1)) ≡ 0
  pub of_reference : cost_on with_reference small (input 1 (one 0)) ≡ 0
  pub greatest : IsGreatestCost two small 2
  pub not_less : IsGreatestCost two small 1 → ⊥
  pub not_more : IsGreatestCost two small 3 → ⊥

pub record TableExamples : Type 0 where
  pub passes : Passes two small (input 0 [] ∷ []) (Some 2)
  pub unlimited : Passes two small (input 0 [] ∷ []) None
  pub costs_more : Passes two small (input 0 [] ∷ []) (Some 1) → ⊥
  pub broken : Passes never small (input 0 [] ∷ []) None → ⊥
  pub empty : Passes never small [] (Some 0)
