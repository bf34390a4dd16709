-- One part after another.
use Rattle.sk_dag.specs.declared.env.Env.{Env}
use Rattle.sk_dag.specs.Graph.{Graph}
use Rattle.sk_model.specs.Step.{Step, Goes, Fails, Skips, Comp, and_then, ◌>>=◌, pure}
use Rattle.sk_model.specs.Exec.{Flow, Onward, Returns, unless_returned}
use Rattle.sk_sym_state.specs.declared.state.SymState.{SymState}
use Rattle.sk_sym_state.specs.declared.setting.Setting.{Setting}
use Rattle.sk_heap_laws.specs.Heaps.{HeapGrows}
use Rattle.sk_sym_state.specs.Shows.{SeesFlow, Sees}
use Rattle.sk_sym_state.specs.Meaning.{IsLater, Executes, Does, ExecutesOn, DoesOn}
use Rattle.sk_sym_state.proofs.Carrying.{failed_over, skipped_over, returned_over, later_keeps, shown_grows, Moves-trans}

module _ {x : Setting} {d0 d1 d2 : Graph} {s0 s1 s2 : SymState} where
  -- a statement, and where it does not return another one
  pub executes_then : {m n : Env → Comp Flow} → Executes x d0 d1 s0 s1 m → Executes x d1 d2 s1 s2 n → Executes x d0 d2 s0 s2 (λ e. m e >>= unless_returned (n e))
  executes_then {m} {n} a b = record {
    moves = Moves-trans a.moves b.moves;
    runs = λ g e at l shows. by g e l (m e at) (a.runs g e at (later_keeps b.moves.keeps l) shows);
  }
    where
      by : (g : Graph) (e : Env) → IsLater x d2 g e → (t : Step Flow) → SeesFlow g e x.fun.now s1 t → SeesFlow g e x.fun.now s2 (and_then t (unless_returned (n e)))
      by g e l (Goes Onward at) h = b.runs g e at l h
      by g e l (Goes (Returns v) at) h = let k = b.moves.stays g e l h.path in returned_over k.rest k.path h
      by g e l (Fails span) h = let k = b.moves.stays g e l h.path in failed_over k.rest k.path h
      by g e l (Skips span) h = let k = b.moves.stays g e l h.path in skipped_over k.rest k.path h

  -- what is done with a value
  pub executes_on : {A : Type 0} {Is : Graph → Env → A → Type 0} {m : Env → Comp A} {k : Env → A → Comp Flow} → Does x d0 d1 s0 s1 Is m → ExecutesOn x d1 d2 s1 s2 Is k → Executes x d0 d2 s0 s2 (λ e. m e >>= k e)
  executes_on {A} {Is} {m} {k} a b = record {
    moves = Moves-trans a.moves b.moves;
    runs = λ g e at l shows. by g e l (m e at) (a.runs g e at (later_keeps b.moves.keeps l) shows);
  }
    where
      by : (g : Graph) (e : Env) → IsLater x d2 g e → (t : Step A) → Sees g e s1 (Is g e) t → SeesFlow g e x.fun.now s2 (and_then t (k e))
      by g e l (Goes v at) h = b.runs g e v at l h.is h.shows
      by g e l (Fails span) h = let k = b.moves.stays g e l h.path in failed_over k.rest k.path h
      by g e l (Skips span) h = let k = b.moves.stays g e l h.path in skipped_over k.rest k.path h

  pub does_on : {A B : Type 0} {Is : Graph → Env → A → Type 0} {Then : Graph → Env → B → Type 0} {m : Env → Comp A} {k : Env → A → Comp B} → Does x d0 d1 s0 s1 Is m → DoesOn x d1 d2 s1 s2 Is Then k → Does x d0 d2 s0 s2 Then (λ e. m e >>= k e)
  does_on {A} {B} {Is} {Then} {m} {k} a b = record {
    moves = Moves-trans a.moves b.moves;
    runs = λ g e at l shows. by g e l (m e at) (a.runs g e at (later_keeps b.moves.keeps l) shows);
  }
    where
      by : (g : Graph) (e : Env) → IsLater x d2 g e → (t : Step A) → Sees g e s1 (Is g e) t → Sees g e s2 (Then g e) (and_then t (k e))
      by g e l (Goes v at) h = b.runs g e v at l h.is h.shows
      by g e l (Fails span) h = let k = b.moves.stays g e l h.path in failed_over k.rest k.path h
      by g e l (Skips span) h = let k = b.moves.stays g e l h.path in skipped_over k.rest k.path h

  -- a value is kept beside another one
  pub does_beside : {A B : Type 0} {Is Is' : Graph → Env → A → Type 0} {Then : Graph → Env → B → Type 0} {m : Env → Comp A} {n : Env → Comp B} → Does x d0 d1 s0 s1 Is m → Does x d1 d2 s1 s2 Then n → ((g : Graph) (e : Env) (a : A) → IsLater x d2 g e → HeapGrows g e s1.heap s2.heap → Is g e a → Is' g e a) → Does x d0 d2 s0 s2 (λ g e (p : A × B). Is' g e p.0 × Then g e p.1) (λ e. m e >>= (λ a. n e >>= (λ b. pure (a, b))))
  does_beside {A} {B} {Is} {Is'} {Then} {m} {n} a b stays = record {
    moves = Moves-trans a.moves b.moves;
    runs = λ g e at l shows. by g e l (m e at) (a.runs g e at (later_keeps b.moves.keeps l) shows);
  }
    where
      both : (g : Graph) (e : Env) → IsLater x d2 g e → (v : A) → Is' g e v → (t : Step B) → Sees g e s2 (Then g e) t → Sees g e s2 (λ (p : A × B). Is' g e p.0 × Then g e p.1) (and_then t (λ b. pure (v, b)))
      both g e l v is (Goes w at) h = record { shows = h.shows; is = (is, h.is) }
      both g e l v is (Fails span) h = h
      both g e l v is (Skips span) h = h

      by : (g : Graph) (e : Env) → IsLater x d2 g e → (t : Step A) → Sees g e s1 (Is g e) t → Sees g e s2 (λ (p : A × B). Is' g e p.0 × Then g e p.1) (and_then t (λ a. n e >>= (λ b. pure (a, b))))
      by g e l (Goes v at) h = both g e l v (stays g e v l (shown_grows b.moves l h.shows) h.is) (n e at) (b.runs g e at l h.shows)
      by g e l (Fails span) h = let k = b.moves.stays g e l h.path in failed_over k.rest k.path h
      by g e l (Skips span) h = let k = b.moves.stays g e l h.path in skipped_over k.rest k.path h
