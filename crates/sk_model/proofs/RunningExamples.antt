-- The examples of runs, computed.
use Rattle.std.proofs.Common.{arith, refl, ap, ◌∙◌, None}
use Rattle.std.specs.Ordering.{int_eq}
use Rattle.sk_prog.specs.declared.value.Value.TheViews.{outs-Array, outs-Bit, outs-Int, outs-Null, outs-Place}
use Rattle.sk_model.specs.Values.{equal}
use Rattle.std.specs.Prelude.{map, ℕ, ℤ, List, ◌++◌, count_by, ◌==◌, nat_lt, if◌then◌else◌, slice_get, ◌≡◌, [], ◌∷◌}
use Rattle.std.proofs.lemmas.Grind.{common_steps}
use Rattle.sk_base.specs.Word.{wrapped}
use Rattle.sk_prog.specs.declared.value.Value.TheVariants as value
use Rattle.sk_prog.specs.declared.value.Value.TheFolds.{the_lemmas as value_lemmas}
use Rattle.sk_base.specs.declared.span.Span.{Span}
use Rattle.sk_prog.specs.declared.value.Value.{Value}
use Rattle.sk_prog.specs.declared.prog.Prog.{Prog}
use Rattle.sk_model.specs.Step.{State, Fails, fail}
use Rattle.sk_model.specs.Run.{calls, Bodies, body_of, nowhere, outcome_of, start}
use Rattle.sk_model.specs.declared.outcome.Outcome.{Outcome}
use Rattle.sk_model.specs.declared.outcome.Outcome.TheVariants as outcome
use Rattle.sk_model.specs.declared.expanded.Expanded.{Expanded}
use Rattle.sk_model.specs.Stands.{Payment, standing, all_paid}
use Rattle.sk_model.specs.Fill.{minimize_of}
use Rattle.sk_model.specs.Eval.{Calls}
use Rattle.sk_model.specs.Open.{open_body, open_bodies}
use Rattle.sk_model.specs.RunningExamples.{small, at, outcome_under, repeats_least, NumberExamples, ArrayExamples, BoundExamples, RefExamples, TargetExamples, EndExamples, UnfilledExamples, ChoiceExamples}
use Rattle.sk_model.proofs.Layers.{all_layers}
use Rattle.sk_model.proofs.Forms.{expr_steps, stmt_steps}

module _ (prog : Prog) (bodies : Bodies) where
  call_0 : (span : Span) (f : ℕ) (args : List Value) (active : List ℕ) (s : State) → calls prog small bodies 0 active span f args s ≡ Fails span
  unfolding calls
  call_0 span f args active s = refl

  call_1 : (span : Span) (f : ℕ) (args : List Value) (active : List ℕ) (s : State) → calls prog small bodies 1 active span f args s ≡ (if nat_lt (count_by (λ g. g == f) active) 1 then body_of (bodies (calls prog small bodies 0 (active ++ f ∷ [])) f) span (slice_get prog.funs f) args else fail span) s
  unfolding calls
  call_1 span f args active s = refl

  call_2 : (span : Span) (f : ℕ) (args : List Value) (active : List ℕ) (s : State) → calls prog small bodies 2 active span f args s ≡ (if nat_lt (count_by (λ g. g == f) active) 1 then body_of (bodies (calls prog small bodies 1 (active ++ f ∷ [])) f) span (slice_get prog.funs f) args else fail span) s
  unfolding calls
  call_2 span f args active s = refl

equal_ints : (x y : ℤ) → equal (value.Int x) (value.Int y) ≡ int_eq x y
equal_ints x y = grind (arith, common_steps, value_lemmas)

ruleset run_steps = (expr_steps, stmt_steps, call_2, call_1, call_0, equal_ints, outs-Array, outs-Bit, outs-Int, outs-Null, outs-Place)

pub numbers : NumberExamples
unfolding wrapped
numbers = record { wraps = simp run_steps; truncates = simp run_steps; leaves = simp run_steps; no_quotient = simp run_steps; not_needed = simp run_steps }

pub arrays : ArrayExamples
unfolding wrapped
arrays = record { sum = simp run_steps; over = simp run_steps; up = simp run_steps; down = simp run_steps; away = simp run_steps; back = simp run_steps; xor = simp run_steps; one_bit = simp run_steps; one_of_bits = simp run_steps; one_of_ints = simp run_steps; inside = simp run_steps; outside = simp run_steps; slice = simp run_steps; leaving = simp run_steps }

pub bounds : BoundExamples
unfolding wrapped
bounds = record { turns = simp run_steps; calls = simp run_steps }

pub refs : RefExamples
unfolding wrapped
refs = record { in_order = simp run_steps; given = simp run_steps }

pub targets : TargetExamples
unfolding wrapped
targets = record { index_late = simp run_steps; index_wrong = simp run_steps; heap = simp run_steps; null_late = simp run_steps; null_early = simp run_steps }

pub ends : EndExamples
unfolding wrapped
ends = record { done = simp run_steps; skipped = simp run_steps; cost = simp run_steps; negative = simp run_steps }

pub unfilled : UnfilledExamples
unfolding wrapped
unfilled = record { all_copies = simp run_steps; by_hole = simp run_steps; one_order = simp run_steps; two_orders = simp run_steps }

abbrev least_expanded : Expanded
least_expanded = record { prog = repeats_least; ordinary = 1; sites = [] }

abbrev least_calls : Calls
least_calls = calls repeats_least small (open_bodies least_expanded (record { values = 2 ∷ [] }) small) 1 (0 ∷ [])

owed : all_paid (standing least_expanded (2 ∷ [])) ≡ record { span = at 1; amount = 2 } ∷ []
owed = grind (arith, common_steps, all_layers)

abbrev paying : List Payment → Outcome
paying paid = outcome_of (body_of (λ fun. open_body repeats_least small (2 ∷ []) least_calls (map minimize_of paid) fun 0) nowhere (slice_get (repeats_least).funs 0) [] start)

pays_two : outcome_under (2 ∷ []) repeats_least ≡ outcome.Done None [] 2
unfolding wrapped
pays_two =
    ap outcome_of (call_2 repeats_least (open_bodies least_expanded (record { values = 2 ∷ [] }) small) nowhere 0 [] [] start)
    ∙ ap paying owed ∙ simp (run_steps, all_layers)

pub choices : ChoiceExamples
unfolding wrapped
choices = record { a_number = simp (run_steps, all_layers); bits = simp (run_steps, all_layers); first_string = simp (run_steps, all_layers); second_string = simp (run_steps, all_layers); written_order = simp (run_steps, all_layers); other_order = simp (run_steps, all_layers); one_copy = simp (run_steps, all_layers); two_copies = simp (run_steps, all_layers); pays = pays_two }
