-- Small programs, and the steps of their runs. Programs are written as trees, as the examples of runs are; a text beside each says what it is.
use Rattle.std.specs.Prelude.{ℕ, ◌≡◌, pos, negsuc, true, false, List, [], ◌∷◌, Some, None}
use Rattle.sk_prog.specs.declared.ty.Elem.TheVariants as elem
use Rattle.sk_prog.specs.declared.ty.Ty.TheVariants as ty
use Rattle.sk_prog.specs.declared.value.Value.{Value}
use Rattle.sk_prog.specs.declared.value.Value.TheVariants as value
use Rattle.sk_prog.specs.declared.expr.BinOp.TheVariants as op
use Rattle.sk_prog.specs.declared.expr.PExpr.{PExpr}
use Rattle.sk_prog.specs.declared.expr.PEForm.TheVariants as eform
use Rattle.sk_prog.specs.declared.stmt.PForm.TheVariants as form
use Rattle.sk_prog.specs.declared.prog.Prog.{Prog}
use Rattle.sk_model.specs.Run.{most_calls, nowhere, start}
use Rattle.sk_model.specs.RunningExamples.{small, at, of_type, int, int_type, number, minus, sum, variable, call, stmt, block, param, fun, program}
use Rattle.sk_interp_laws.specs.declared.step.Step.{Step}
use Rattle.sk_interp_laws.specs.declared.step.What.{What}
use Rattle.sk_interp_laws.specs.declared.step.What.TheVariants as what
use Rattle.sk_interp_laws.specs.Run.{calls, log_of}
use Rattle.sk_interp_laws.specs.Path.{behind}

-- the steps of a run of the first function
abbrev pub steps_in : Prog → List Value → List Step
steps_in prog args = log_of (calls behind prog small most_calls [] nowhere 0 args (record { memory = start; log = [] }))

-- the step of the statement with these bytes, where so many calls are active
abbrev pub step : ℕ → ℕ → What → Step
step n active it = record { span = at n; active = active; what = it }

abbrev pub stores : ℕ → What
stores n = what.Store (value.Int (pos n))

abbrev pub more_than : PExpr → ℕ → PExpr
more_than a n = of_type (ty.One elem.Bit) (eform.Binary op.Gt a (number n))

abbrev pub adds : Prog
adds = program (
    fun (Some int_type) (param false ∷ []) 2 (
    stmt 1 (form.Declare 1 [] int_type (Some (sum (variable 0) (number 1))))
    ∷ stmt 2 (form.Assert (more_than (variable 1) 3))
    ∷ stmt 3 (form.Return (Some (variable 1)))
    ∷ []
    )
    ∷ []
    )

abbrev pub calls_other : Prog
calls_other = program (
    fun (Some int_type) [] 1 (stmt 1 (form.Declare 0 [] int_type (Some (call 1 (number 5 ∷ [])))) ∷ stmt 2 (form.Return None) ∷ [])
    ∷ fun (Some int_type) (param false ∷ []) 1 (stmt 3 (form.Return (Some (variable 0))) ∷ [])
    ∷ []
    )

abbrev pub divides : Prog
divides = program (
    fun None [] 1 (stmt 1 (form.Declare 0 [] int_type None) ∷ stmt 2 (form.Assign (variable 0) (number 1)) ∷ stmt 3 (form.Assign (variable 0) (int (eform.Binary op.Div (number 1) (number 0)))) ∷ [])
    ∷ []
    )

abbrev pub pays : Prog
pays = program (fun None [] 0 (stmt 1 (form.Minimize (number 2)) ∷ stmt 2 (form.Minimize (minus 1)) ∷ stmt 3 (form.Minimize (number 1)) ∷ []) ∷ [])

abbrev pub counts_down : Prog
counts_down = program (
    fun None (param false ∷ []) 1 (
    stmt 1 (form.While (more_than (variable 0) 0) (block (stmt 2 (form.Assign (variable 0) (int (eform.Binary op.Sub (variable 0) (number 1)))) ∷ [])))
    ∷ []
    )
    ∷ []
    )

pub record StepExamples : Type 0 where
  -- int f(int x) { int y = x + 1; assert y > 3; return y; }
  pub passed : steps_in adds (value.Int (pos 3) ∷ []) ≡ step 1 1 (stores 4) ∷ step 2 1 (what.Truth true) ∷ step 3 1 what.Go ∷ []
  pub failed : steps_in adds (value.Int (pos 2) ∷ []) ≡ step 1 1 (stores 3) ∷ step 2 1 (what.Truth false) ∷ []
  -- int f() { int x = g(5); return; } int g(int x) { return x; }
  pub called : steps_in calls_other [] ≡ step 3 2 what.Go ∷ step 1 1 (stores 5) ∷ step 2 1 what.Go ∷ []
  -- void f() { int x; x = 1; x = 1 / 0; }
  pub fails_before : steps_in divides [] ≡ step 2 1 (stores 1) ∷ []
  -- void f() { minimize(2); minimize(-1); minimize(1); }
  pub paid : steps_in pays [] ≡ step 1 1 (what.Cost (pos 2)) ∷ step 2 1 (what.Cost (negsuc 0)) ∷ []
  -- void f(int x) { while (x > 0) { x = x - 1; } }, with one turn at most
  pub turned : steps_in counts_down (value.Int (pos 1) ∷ []) ≡ step 1 1 (what.Truth true) ∷ step 2 1 (stores 0) ∷ step 1 1 (what.Truth false) ∷ []
  pub too_far : steps_in counts_down (value.Int (pos 2) ∷ []) ≡ step 1 1 (what.Truth true) ∷ step 2 1 (stores 1) ∷ step 1 1 (what.Truth true) ∷ []
