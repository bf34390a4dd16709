-- The parts of an expression, and then what is done with what they are worth.
use Rattle.std.proofs.Common.{◌≡◌, refl}
use Rattle.sk_dag.specs.declared.env.Env.{Env}
use Rattle.sk_dag.specs.declared.shape.Shape.{Shape}
use Rattle.sk_dag.specs.Graph.{Graph}
use Rattle.sk_prog.specs.declared.value.Value.{Value}
use Rattle.sk_model.specs.Step.{State, Step, Goes, Fails, Skips, Comp, and_then, ◌>>=◌, pure}
use Rattle.sk_sym_state.specs.declared.setting.Setting.{Setting}
use Rattle.sk_sym_state.specs.declared.state.SymState.{SymState}
use Rattle.sk_heap_laws.specs.Heaps.{HeapGrows}
use Rattle.sk_sym_state.specs.Seen.{IsWorth}
use Rattle.sk_sym_state.specs.Shows.{Sees}
use Rattle.sk_sym_state.specs.Meaning.{Does, Evaluates}
use Rattle.sk_sym_state.proofs.Worth.{IsWorth-grown}
use Rattle.sk_sym_state.proofs.Following.{does_on, does_beside}
use Rattle.sk_sym_state.proofs.Ends.{does_same}
use Rattle.sk_sym_steps.specs.Steps.{EvaluatesOn, AreTwo}

-- the same meaning in other words
pub evaluates_same : {x : Setting} {d0 d1 : Graph} {s0 s1 : SymState} {r : Shape} {m n : Env → Comp Value} → ((e : Env) (at : State) → n e at ≡ m e at) → Evaluates x d0 d1 s0 s1 r m → Evaluates x d0 d1 s0 s1 r n
evaluates_same same h = record { does = does_same same h.does; there = h.there }

-- what a run goes on with has what follows from what it had
pub sees_more : {A : Type 0} (g : Graph) (e : Env) (s : SymState) {Is More : A → Type 0} → ((a : A) → Is a → More a) → (t : Step A) → Sees g e s Is t → Sees g e s More t
sees_more g e s more (Goes v at) h = record { shows = h.shows; is = more v h.is }
sees_more g e s more (Fails span) h = h
sees_more g e s more (Skips span) h = h

pub does_more : {A : Type 0} {x : Setting} {d0 d1 : Graph} {s0 s1 : SymState} {Is More : Graph → Env → A → Type 0} {m : Env → Comp A} → ((g : Graph) (e : Env) (a : A) → Is g e a → More g e a) → Does x d0 d1 s0 s1 Is m → Does x d0 d1 s0 s1 More m
does_more {s1 = s1} {m = m} more h = record { moves = h.moves; runs = λ g e at l shows. sees_more g e s1 (more g e) (m e at) (h.runs g e at l shows) }

-- another thing is made of it
pub does_made : {A B : Type 0} {x : Setting} {d0 d1 : Graph} {s0 s1 : SymState} {Is : Graph → Env → A → Type 0} {Made : Graph → Env → B → Type 0} {m : Env → Comp A} (f : A → B) → ((g : Graph) (e : Env) (a : A) → Is g e a → Made g e (f a)) → Does x d0 d1 s0 s1 Is m → Does x d0 d1 s0 s1 Made (λ e. m e >>= (λ a. pure (f a)))
does_made {A} {B} {s1 = s1} {Is = Is} {Made = Made} {m = m} f more h = record { moves = h.moves; runs = λ g e at l shows. by g e (m e at) (h.runs g e at l shows) }
  where
    by : (g : Graph) (e : Env) (t : Step A) → Sees g e s1 (Is g e) t → Sees g e s1 (Made g e) (and_then t (λ a. pure (f a)))
    by g e (Goes a at) h = record { shows = h.shows; is = more g e a h.is }
    by g e (Fails span) h = h
    by g e (Skips span) h = h

-- an expression, and what is done with it
pub one_evaluates : {x : Setting} {d0 d1 d2 : Graph} {s0 s1 s2 : SymState} {a r : Shape} {m : Env → Comp Value} {k : Env → Value → Comp Value} → Evaluates x d0 d1 s0 s1 a m → EvaluatesOn x d1 d2 s1 s2 (λ g e. IsWorth g e s1.heap a) r k → Evaluates x d0 d2 s0 s2 r (λ e. m e >>= k e)
one_evaluates first on = record { does = does_on first.does on.does; there = on.there }

pairs : {A B C : Type 0} (t : Step A) (n : Comp B) (k : A × B → Comp C) → and_then t (λ v s. and_then (n s) (λ w. k (v, w))) ≡ and_then (and_then t (λ v s. and_then (n s) (λ w. pure (v, w)))) k
pairs {A} {B} {C} (Goes v s) n k = by (n s)
  where
    by : (u : Step B) → and_then u (λ w. k (v, w)) ≡ and_then (and_then u (λ w. pure (v, w))) k
    by (Goes w t) = refl
    by (Fails span) = refl
    by (Skips span) = refl
pairs (Fails span) n k = refl
pairs (Skips span) n k = refl

-- two expressions, and what is done with both
pub two_evaluate : {x : Setting} {d0 d1 d2 d3 : Graph} {s0 s1 s2 s3 : SymState} {a b r : Shape} {m n : Env → Comp Value} {k : Env → Value × Value → Comp Value} → Evaluates x d0 d1 s0 s1 a m → Evaluates x d1 d2 s1 s2 b n → EvaluatesOn x d2 d3 s2 s3 (AreTwo s2.heap a b) r k → Evaluates x d0 d3 s0 s3 r (λ e. m e >>= (λ v. n e >>= (λ w. k e (v, w))))
two_evaluate {m = m} {n = n} {k = k} first second on = record {
  does = does_same (λ e at. pairs (m e at) (n e) (k e)) (does_on (does_beside first.does second.does (λ g e v l grown is. IsWorth-grown grown is)) on.does);
  there = on.there;
}

-- what was two things becomes one
pub two_made : {A B C : Type 0} {x : Setting} {d0 d1 d2 : Graph} {s0 s1 s2 : SymState} {Is Stay : Graph → Env → A → Type 0} {Then : Graph → Env → B → Type 0} {Made : Graph → Env → C → Type 0} {m : Env → Comp A} {n : Env → Comp B} (f : A → B → C) → ((g : Graph) (e : Env) (a : A) → HeapGrows g e s1.heap s2.heap → Is g e a → Stay g e a) → ((g : Graph) (e : Env) (a : A) (b : B) → Stay g e a → Then g e b → Made g e (f a b)) → Does x d0 d1 s0 s1 Is m → Does x d1 d2 s1 s2 Then n → Does x d0 d2 s0 s2 Made (λ e. m e >>= (λ a. n e >>= (λ b. pure (f a b))))
two_made {A} {B} {C} {m = m} {n = n} f stays makes first second =
    does_same (λ e at. pairs (m e at) (n e) (λ (p : A × B). pure (f p.0 p.1)))
    (does_made (λ (p : A × B). f p.0 p.1) (λ g e p is. makes g e p.0 p.1 is.0 is.1) (does_beside first second (λ g e a l grown is. stays g e a grown is)))
