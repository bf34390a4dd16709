-- The runs of the programs of the examples, and their inputs.
use Rattle.std.proofs.Common.{arith, refl, sym, ap, subst, ◌∙◌, None, Some, ◌<◌, ◌^◌, ◌%◌, mod-lt}
use Rattle.std.proofs.lemmas.Bool.{false≢true}
use Rattle.std.proofs.lemmas.Grind.{common_steps}
use Rattle.std.proofs.lemmas.Option.{none-some, same_Some}
use Rattle.std.specs.Ordering.{int_eq}
use Rattle.std.specs.Prelude.{ℕ, zero, suc, ℤ, pos, List, [], ◌∷◌, ◌++◌, count_by, ◌==◌, nat_lt, if◌then◌else◌, slice_get, ◌≡◌, true, false, IsTrue}
use Rattle.sk_base.specs.Word.{wrapped}
use Rattle.sk_base.specs.declared.span.Span.{Span}
use Rattle.sk_prog.specs.declared.value.Value.{Value}
use Rattle.sk_prog.specs.declared.value.Value.TheVariants as value
use Rattle.sk_prog.specs.declared.value.Value.TheFolds.{the_lemmas as value_lemmas}
use Rattle.sk_prog.specs.declared.value.Value.TheViews.{outs-Array, outs-Bit, outs-Int, outs-Null, outs-Place}
use Rattle.sk_prog.specs.declared.expr.PExpr.{PExpr}
use Rattle.sk_prog.specs.declared.expr.PEForm.TheVariants as eform
use Rattle.sk_prog.specs.declared.prog.Fun.{Fun}
use Rattle.sk_prog.specs.declared.prog.Prog.{Prog}
use Rattle.sk_model.specs.declared.outcome.Outcome.TheVariants as outcome
use Rattle.sk_model.specs.declared.expanded.Input.{Input}
use Rattle.sk_model.specs.declared.expanded.Obligation.{Obligation}
use Rattle.sk_model.specs.declared.expanded.Obligation.TheVariants as obligation
use Rattle.sk_model.specs.Fill.{fill}
use Rattle.sk_model.specs.Values.{equal}
use Rattle.sk_model.specs.Step.{State, fail}
use Rattle.sk_model.specs.Run.{calls, Bodies, body_of, run}
use Rattle.sk_model.specs.Obligations.{obligations}
use Rattle.sk_model.specs.Inputs.{IsInput, in_range, args_in_range, fun_of}
use Rattle.sk_model.specs.RunningExamples.{at, int_type, number}
use Rattle.sk_model.proofs.Forms.{expr_steps, stmt_steps}
use Rattle.sk_model.proofs.Layers.{all_layers}
use Rattle.sk_loop_laws.proofs.Numbering.{args_number}
use Rattle.sk_min_examples.specs.Programs.{bounds, id, only, on, none, input, param, costing, costly, asserting, free}

-- Fillings

pub fills : (y : ℕ) → fill costly (only y) ≡ costing (number y)
unfolding fill
fills y = simp all_layers

pub fills_free : (b : ℕ) → fill free (only b) ≡ asserting (eform.Number b)
unfolding fill
fills_free b = simp all_layers

-- Runs

abbrev pub one : ℕ → List Value
one n = value.Int (pos n) ∷ []

call_of_run : (prog : Prog) (bodies : Bodies) (span : Span) (f : ℕ) (args : List Value) (active : List ℕ) (s : State) → calls prog bounds bodies 128 active span f args s ≡ (if nat_lt (count_by (λ g. g == f) active) 1 then body_of (bodies (calls prog bounds bodies 127 (active ++ f ∷ [])) f) span (slice_get prog.funs f) args else fail span) s
unfolding calls
call_of_run prog bodies span f args active s = refl

equal_ints : (x y : ℤ) → equal (value.Int x) (value.Int y) ≡ int_eq x y
equal_ints x y = grind (arith, common_steps, value_lemmas)

ruleset run_steps = (expr_steps, stmt_steps, call_of_run, equal_ints, outs-Array, outs-Bit, outs-Int, outs-Null, outs-Place)

pub zero_on_0 : run (costing (number 0)) (id 0) (one 0) bounds ≡ outcome.Failed (at 2)
unfolding run wrapped
zero_on_0 = simp run_steps

pub zero_on_1 : run (costing (number 0)) (id 0) (one 1) bounds ≡ outcome.Done None [] 1
unfolding run wrapped
zero_on_1 = simp run_steps

pub one_on_0 : run (costing (number 1)) (id 0) (one 0) bounds ≡ outcome.Done None [] 1
unfolding run wrapped
one_on_0 = simp run_steps

pub one_on_1 : run (costing (number 1)) (id 0) (one 1) bounds ≡ outcome.Failed (at 2)
unfolding run wrapped
one_on_1 = simp run_steps

pub two_on_0 : run (costing (number 2)) (id 0) (one 0) bounds ≡ outcome.Done None [] 2
unfolding run wrapped
two_on_0 = simp run_steps

pub two_on_1 : run (costing (number 2)) (id 0) (one 1) bounds ≡ outcome.Done None [] 3
unfolding run wrapped
two_on_1 = simp run_steps

pub three_on_0 : run (costing (number 3)) (id 0) (one 0) bounds ≡ outcome.Done None [] 3
unfolding run wrapped
three_on_0 = simp run_steps

pub three_on_1 : run (costing (number 3)) (id 0) (one 1) bounds ≡ outcome.Done None [] 4
unfolding run wrapped
three_on_1 = simp run_steps

pub unset : run (asserting (eform.Number 0)) (id 0) [] bounds ≡ outcome.Failed (at 1)
unfolding run wrapped
unset = simp run_steps

pub is_set : run (asserting (eform.Number 1)) (id 0) [] bounds ≡ outcome.Done None [] 0
unfolding run wrapped
is_set = simp run_steps

-- Inputs

int_in_range : (n : ℕ) → in_range 1 (value.Int (pos n)) int_type ≡ nat_lt n 2
int_in_range n = grind (arith, common_steps, value_lemmas)

zero_fits : args_in_range 1 (param int_type ∷ []) (one 0) ≡ true
zero_fits = simp int_in_range

one_fits : args_in_range 1 (param int_type ∷ []) (one 1) ≡ true
one_fits = simp int_in_range

pub on_0 : (e : PExpr) → IsInput (costing e) bounds (on 0)
on_0 e = record { obligation = obligation.Harness (id 0); fun = _; is_obligation = refl; is_fun = refl; args = zero_fits }

pub on_1 : (e : PExpr) → IsInput (costing e) bounds (on 1)
on_1 e = record { obligation = obligation.Harness (id 0); fun = _; is_obligation = refl; is_fun = refl; args = one_fits }

number_is : (n : ℕ) (o : Obligation) → slice_get (obligation.Harness (id 0) ∷ []) n ≡ Some o → n ≡ 0
number_is zero o e = refl
number_is (suc n) o e = absurd (none-some o e)

-- the arguments of an input are in range for the function of its obligation
args_of : (prog : Prog) (i : Input) (o : Obligation) (f : Fun) → slice_get (obligations prog) i.obligation ≡ Some o → slice_get prog.funs (fun_of o).index ≡ Some f → IsInput prog bounds i → IsTrue (args_in_range 1 f.params i.args)
args_of prog i o f is its h =
    let same : h.obligation ≡ o = same_Some h.obligation o (sym h.is_obligation ∙ is) in
    let also : h.fun ≡ f = same_Some h.fun f (sym h.is_fun ∙ ap (λ x. slice_get prog.funs (fun_of x).index) same ∙ its) in
    subst (λ x. IsTrue (args_in_range 1 x.params i.args)) also h.args

-- each input of the program with costs has one integer below 2
pub input_is : (e : PExpr) (i : Input) → IsInput (costing e) bounds i → (n : ℕ) × (n < 2) × (i ≡ on n)
input_is e i h =
    let at : i.obligation ≡ 0 = number_is i.obligation h.obligation h.is_obligation in
    let first = subst (λ k. slice_get (obligations (costing e)) k ≡ Some (obligation.Harness (id 0))) (sym at) refl in
    let its = args_number 1 (param int_type ∷ []) i.args (args_of (costing e) i (obligation.Harness (id 0)) _ first refl h) in
    let args : i.args ≡ one (its.0 % 2) = sym its.2 in
    (its.0 % 2, mod-lt its.0 (omega arith), λ k. record { obligation = at k; args = args k })

pub its_input : (e : PExpr) (n : ℕ) → n < 2 → IsInput (costing e) bounds (on n)
its_input e zero h = on_0 e
its_input e (suc zero) h = on_1 e
its_input e (suc (suc n)) h = absurd (omega (arith, h))

same_ints : (x y : ℕ) → value.Int (pos x) ≡ value.Int (pos y) → x ≡ y
same_ints x y e = cc

pub same_on : (x y : ℕ) → on x ≡ on y → x ≡ y
same_on x y e =
    let args : one x ≡ one y = ap (λ (i : Input). i.args) e in
    same_ints x y (cc args)

-- an input is below 2
pub below : (e : PExpr) (n : ℕ) → IsInput (costing e) bounds (on n) → n < 2
below e n h =
    let i = input_is e (on n) h in
    subst (λ k. k < 2) (sym (same_on n i.0 i.2)) i.1

-- there is one obligation
pub no_second : {A : Type 0} (e : PExpr) (n : ℕ) (args : List Value) → IsInput (costing e) bounds (input (suc n) args) → A
no_second e n args h = absurd (none-some h.obligation h.is_obligation)
