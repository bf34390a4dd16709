-- The examples of steps, computed.
use Rattle.std.proofs.Common.{◌≡◌, ℕ, List, [], ◌∷◌, ◌++◌, refl}
use Rattle.std.specs.Prelude.{count_by, ◌==◌, nat_lt, if◌then◌else◌, slice_get}
use Rattle.sk_base.specs.Word.{wrapped}
use Rattle.sk_base.specs.declared.span.Span.{Span}
use Rattle.sk_prog.specs.declared.value.Value.{Value}
use Rattle.sk_prog.specs.declared.value.Value.TheViews.{outs-Array, outs-Bit, outs-Int, outs-Null, outs-Place}
use Rattle.sk_prog.specs.declared.prog.Prog.{Prog}
use Rattle.sk_model.specs.RunningExamples.{small}
use Rattle.sk_model.proofs.Layers.{all_layers}
use Rattle.sk_interp_laws.specs.declared.step.Step.{Step}
use Rattle.sk_interp_laws.specs.Recording.{Recorded, fail}
use Rattle.sk_interp_laws.specs.Exec.{exec_all}
use Rattle.sk_interp_laws.specs.Run.{calls, body_of}
use Rattle.sk_interp_laws.specs.Path.{behind}
use Rattle.sk_interp_laws.specs.Examples.{StepExamples}

module _ (prog : Prog) where
  first_call : (span : Span) (f : ℕ) (args : List Value) (active : List ℕ) (r : Recorded (List Step)) → calls behind prog small 128 active span f args r ≡ (if nat_lt (count_by (λ g. g == f) active) 1 then body_of (λ fun. exec_all behind 1 prog small (calls behind prog small 127 (active ++ f ∷ [])) fun.body) span (slice_get prog.funs f) args else fail span) r
  unfolding calls
  first_call span f args active r = refl

  second_call : (span : Span) (f : ℕ) (args : List Value) (active : List ℕ) (r : Recorded (List Step)) → calls behind prog small 127 active span f args r ≡ (if nat_lt (count_by (λ g. g == f) active) 1 then body_of (λ fun. exec_all behind 2 prog small (calls behind prog small 126 (active ++ f ∷ [])) fun.body) span (slice_get prog.funs f) args else fail span) r
  unfolding calls
  second_call span f args active r = refl

ruleset run_steps = (all_layers, first_call, second_call, outs-Array, outs-Bit, outs-Int, outs-Null, outs-Place)

pub examples : StepExamples
unfolding wrapped
examples = record { passed = simp run_steps; failed = simp run_steps; called = simp run_steps; fails_before = simp run_steps; paid = simp run_steps; turned = simp run_steps; too_far = simp run_steps }
