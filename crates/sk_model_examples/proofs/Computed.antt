-- The examples of what must hold, computed.
use Rattle.std.proofs.Common.{arith, refl, sym, ap, subst, ◌∙◌, None, Some, ◌⊎◌, inl, inr, ◌≤◌, ◌<◌}
use Rattle.std.proofs.lemmas.Bool.{false≢true}
use Rattle.std.proofs.lemmas.Grind.{common_steps}
use Rattle.std.specs.Ordering.{int_eq}
use Rattle.std.specs.Prelude.{ℕ, zero, suc, ℤ, pos, List, [], ◌∷◌, ◌++◌, count_by, ◌==◌, nat_lt, if◌then◌else◌, slice_get, ◌≡◌, true, false, IsTrue, All}
use Rattle.sk_base.specs.Word.{wrapped}
use Rattle.sk_base.specs.declared.span.Span.{Span}
use Rattle.sk_prog.specs.declared.value.Value.{Value}
use Rattle.sk_prog.specs.declared.value.Value.TheVariants as value
use Rattle.sk_prog.specs.declared.value.Value.TheFolds.{the_lemmas as value_lemmas}
use Rattle.sk_prog.specs.declared.value.Value.TheViews.{outs-Array, outs-Bit, outs-Int, outs-Null, outs-Place}
use Rattle.sk_prog.specs.declared.stmt.PStmt.{PStmt}
use Rattle.sk_prog.specs.declared.prog.Fun.{Fun}
use Rattle.sk_prog.specs.declared.prog.Prog.{Prog}
use Rattle.sk_model.specs.declared.outcome.Outcome.{Outcome}
use Rattle.sk_model.specs.declared.outcome.Outcome.TheVariants as outcome
use Rattle.sk_model.specs.declared.expanded.Input.{Input}
use Rattle.sk_model.specs.declared.expanded.Obligation.{Obligation}
use Rattle.sk_model.specs.declared.expanded.Obligation.TheVariants as obligation
use Rattle.sk_model.specs.Values.{equal}
use Rattle.sk_model.specs.Step.{State, fail}
use Rattle.sk_model.specs.Run.{calls, Bodies, body_of, run}
use Rattle.sk_model.specs.Obligations.{obligations}
use Rattle.sk_model.specs.Inputs.{IsInput, in_range, args_in_range, fun_of}
use Rattle.sk_model.specs.Meets.{HasFailed, IsDoneWith, SpeaksAgainst, Breaks, Meets, cost_of, cost_on, IsGreatestCost, Passes}
use Rattle.sk_model.specs.RunningExamples.{small, at, int_type, param, program}
use Rattle.sk_model.proofs.Forms.{expr_steps, stmt_steps}
use Rattle.sk_model_examples.specs.Holding.{id, input, one, harness, two_sites, with_reference, wrong, two, never, ChoiceExamples, ObligationExamples, InputExamples, BreakExamples, CostExamples, TableExamples}

-- Runs

call_of_run : (prog : Prog) (bodies : Bodies) (span : Span) (f : ℕ) (args : List Value) (active : List ℕ) (s : State) → calls prog small bodies 128 active span f args s ≡ (if nat_lt (count_by (λ g. g == f) active) 1 then body_of (bodies (calls prog small bodies 127 (active ++ f ∷ [])) f) span (slice_get prog.funs f) args else fail span) s
unfolding calls
call_of_run prog bodies span f args active s = refl

equal_ints : (x y : ℤ) → equal (value.Int x) (value.Int y) ≡ int_eq x y
equal_ints x y = grind (arith, common_steps, value_lemmas)

ruleset run_steps = (expr_steps, stmt_steps, call_of_run, equal_ints, outs-Array, outs-Bit, outs-Int, outs-Null, outs-Place)

zero_holds : run with_reference (id 0) (one 0) small ≡ outcome.Done None [] 0
unfolding run wrapped
zero_holds = simp run_steps

one_fails : run with_reference (id 0) (one 1) small ≡ outcome.Failed (at 1)
unfolding run wrapped
one_fails = simp run_steps

reference_skips : run with_reference (id 2) (one 1) small ≡ outcome.Skipped (at 4)
unfolding run wrapped
reference_skips = simp run_steps

gives_zero : run wrong (id 0) (one 0) small ≡ outcome.Done (Some (value.Int (pos 0))) [] 0
unfolding run wrapped
gives_zero = simp run_steps

gives_one : run wrong (id 0) (one 1) small ≡ outcome.Done (Some (value.Int (pos 1))) [] 0
unfolding run wrapped
gives_one = simp run_steps

wants_zero : (n : ℕ) → run wrong (id 1) (one n) small ≡ outcome.Done (Some (value.Int (pos 0))) [] 0
unfolding run wrapped
wants_zero n = simp run_steps

pays_two : run two (id 0) [] small ≡ outcome.Done None [] 2
unfolding run wrapped
pays_two = simp run_steps

never_holds : run never (id 0) [] small ≡ outcome.Failed (at 1)
unfolding run wrapped
never_holds = simp run_steps

-- Choices, obligations, inputs

pub choices : ChoiceExamples
choices = record { greatest = record { fits = (omega arith, (omega arith, tt)) }; too_great = λ r. omega (arith, r.fits.1.0); too_few = λ r. r.fits.1; too_many = λ r. r.fits.1.1 }

pub obligations_are : ObligationExamples
obligations_are = record { in_order = refl; none = refl }

some_is : {A : Type 0} (a b : A) → Some a ≡ Some b → a ≡ b
some_is a b e = cc

none_is_not : {A : Type 0} {B : Type 0} (a : A) → None ≡ Some a → B
none_is_not a e = cc

int_in_range : (n : ℕ) → in_range 2 (value.Int (pos n)) int_type ≡ nat_lt n 4
int_in_range n = grind (arith, common_steps, value_lemmas)

-- the arguments of an input are in range for the function of its obligation
args_of : (prog : Prog) (i : Input) (o : Obligation) (f : Fun) → slice_get (obligations prog) i.obligation ≡ Some o → slice_get prog.funs (fun_of o).index ≡ Some f → IsInput prog small i → IsTrue (args_in_range 2 f.params i.args)
args_of prog i o f is its h =
    let same : h.obligation ≡ o = some_is h.obligation o (sym h.is_obligation ∙ is) in
    let also : h.fun ≡ f = some_is h.fun f (sym h.is_fun ∙ ap (λ x. slice_get prog.funs (fun_of x).index) same ∙ its) in
    subst (λ x. IsTrue (args_in_range 2 x.params i.args)) also h.args

three_fits : args_in_range 2 (param false ∷ []) (one 3) ≡ true
three_fits = simp int_in_range

zero_fits : args_in_range 2 (param false ∷ []) (one 0) ≡ true
zero_fits = simp int_in_range

four_does_not : args_in_range 2 (param false ∷ []) (one 4) ≡ false
four_does_not = simp int_in_range

two_do_not : args_in_range 2 (param false ∷ []) (value.Int (pos 0) ∷ value.Int (pos 0) ∷ []) ≡ false
two_do_not = simp int_in_range

-- no input of the harness has these arguments
no_input : (args : List Value) → args_in_range 2 (param false ∷ []) args ≡ false → IsInput with_reference small (input 0 args) → ⊥
no_input args out i = false≢true (sym out ∙ args_of with_reference (input 0 args) (obligation.Harness (id 0)) _ refl refl i)

pub inputs : InputExamples
inputs = record {
  of_harness = record { obligation = obligation.Harness (id 0); fun = _; is_obligation = refl; is_fun = refl; args = three_fits };
  of_reference = record { obligation = obligation.Implements (id 1) (id 2); fun = _; is_obligation = refl; is_fun = refl; args = zero_fits };
  too_great = no_input (one 4) four_does_not;
  no_obligation = λ i. none_is_not i.obligation i.is_obligation;
  no_argument = no_input [] refl;
  two_arguments = no_input (value.Int (pos 0) ∷ value.Int (pos 0) ∷ []) two_do_not;
}

-- A harness without parameters has one input

number_is : (n : ℕ) (o : Obligation) → slice_get (obligation.Harness (id 0) ∷ []) n ≡ Some o → n ≡ 0
number_is zero o e = refl
number_is (suc n) o e = none_is_not o e

args_are : (args : List Value) → IsTrue (args_in_range 2 [] args) → args ≡ []
args_are [] h = refl
args_are (v ∷ vs) h = absurd (false≢true h)

abbrev alone : List PStmt → Prog
alone body = program (harness [] 0 body ∷ [])

only_input : (body : List PStmt) (i : Input) → IsInput (alone body) small i → i ≡ input 0 []
only_input body i h =
    let n = number_is i.obligation h.obligation h.is_obligation in
    let args = args_are i.args (args_of (alone body) i (obligation.Harness (id 0)) (harness [] 0 body) (subst (λ k. slice_get (obligations (alone body)) k ≡ Some (obligation.Harness (id 0))) (sym n) refl) refl h) in
    λ k. record { obligation = n k; args = args k }

its_input : (body : List PStmt) → IsInput (alone body) small (input 0 [])
its_input body = record { obligation = obligation.Harness (id 0); fun = harness [] 0 body; is_obligation = refl; is_fun = refl; args = refl }

-- Breaking

two_holds : Breaks two small (input 0 []) → ⊥
unfolding Breaks
two_holds b = subst HasFailed pays_two b

never_breaks : Breaks never small (input 0 [])
unfolding Breaks
never_breaks = subst HasFailed (sym never_holds) tt

one_is_not_zero : Some (value.Int (pos 1)) ≡ Some (value.Int (pos 0)) → ⊥
one_is_not_zero e = cc

abbrev f_on : ℕ → Outcome
f_on n = run wrong (id 0) (one n) small

pub breaking : BreakExamples
unfolding Breaks Meets
breaking = record {
  holds = λ b. subst HasFailed zero_holds b;
  fails = subst HasFailed (sym one_fails) tt;
  agrees = λ b. subst (λ x. SpeaksAgainst x (f_on 0)) (wants_zero 0) b (subst (IsDoneWith (Some (value.Int (pos 0))) []) (sym gives_zero) (refl, refl));
  differs = subst (λ x. SpeaksAgainst x (f_on 1)) (sym (wants_zero 1)) (λ d. one_is_not_zero (subst (IsDoneWith (Some (value.Int (pos 0))) []) gives_one d).0);
  skipped = λ b. subst (λ x. SpeaksAgainst x (run with_reference (id 1) (one 1) small)) reference_skips b;
  no_obligation = λ b. b;
  meets = λ i is b. two_holds (subst (Breaks two small) (only_input _ i is) b);
  breaks = λ m. m (input 0 []) (its_input _) never_breaks;
}

-- Costs

two_costs : cost_on two small (input 0 []) ≡ 2
unfolding cost_on
two_costs = ap cost_of pays_two

one_costs_nothing : cost_on with_reference small (input 0 (one 1)) ≡ 0
unfolding cost_on
one_costs_nothing = ap cost_of one_fails

a_reference_costs_nothing : cost_on with_reference small (input 1 (one 0)) ≡ 0
unfolding cost_on
a_reference_costs_nothing = refl

at_most_two : (i : Input) → IsInput two small i → cost_on two small i ≤ 2
at_most_two i is = subst (λ x. cost_on two small x ≤ 2) (sym (only_input _ i is)) (omega (arith, two_costs))

no_more : (v : ℕ) → 2 < v → (v ≡ 0) ⊎ ((i : Input) × IsInput two small i × (cost_on two small i ≡ v)) → ⊥
no_more v more (inl e) = omega (arith, more, e)
no_more v more (inr x) = omega (arith, more, x.2, at_most_two x.0 x.1)

pub costs : CostExamples
costs = record {
  of_harness = two_costs;
  of_failure = one_costs_nothing;
  of_reference = a_reference_costs_nothing;
  greatest = record { greatest = at_most_two; reached = inr (input 0 [], its_input _, two_costs) };
  not_less = λ g. omega (arith, g.greatest (input 0 []) (its_input _), two_costs);
  not_more = λ g. no_more 3 (omega arith) g.reached;
}

-- Tables

all_one : {X : Type 0} (P : X → Type 0) (x : X) → P x → All P (x ∷ [])
all_one P x h zero d below = h
all_one P x h (suc k) d below = absurd (omega (arith, below))

all_none : {X : Type 0} (P : X → Type 0) → All P []
all_none P k d below = absurd (omega (arith, below))

unbroken_two : All (λ i. Breaks two small i → ⊥) (input 0 [] ∷ [])
unbroken_two = all_one (λ i. Breaks two small i → ⊥) (input 0 []) two_holds

pub tables : TableExamples
tables = record {
  passes = record { unbroken = unbroken_two; within = all_one (λ i. cost_on two small i ≤ 2) (input 0 []) (omega (arith, two_costs)) };
  unlimited = record { unbroken = unbroken_two; within = tt };
  costs_more = λ p. omega (arith, p.within 0 (input 0 []) (omega arith), two_costs);
  broken = λ p. p.unbroken 0 (input 0 []) (omega arith) never_breaks;
  empty = record { unbroken = all_none (λ i. Breaks never small i → ⊥); within = all_none (λ i. cost_on never small i ≤ 0) };
}
