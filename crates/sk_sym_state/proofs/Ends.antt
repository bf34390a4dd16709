-- A run that ends where a node holds.
use Rattle.std.proofs.Common.{◌≡◌, ◌&&◌, ◌||◌, Bool, true, false, refl, sym, ap, subst, ◌∙◌, arith, inl, inr}
use Rattle.std.specs.Prelude.{not}
use Rattle.sk_dag.specs.declared.env.Env.{Env}
use Rattle.sk_dag.specs.declared.node.BoolId.{BoolId}
use Rattle.sk_dag.specs.Graph.{Graph, Grows, HasBool}
use Rattle.sk_dag.specs.Eval.{bool_value, Keeps}
use Rattle.sk_base.specs.declared.span.Span.{Span}
use Rattle.sk_model.specs.Step.{State, Goes, Fails, Comp}
use Rattle.sk_model.specs.Exec.{Flow}
use Rattle.sk_heap_laws.proofs.Grown.{StructsGrow-refl, HeapGrows-refl, HoldAlike-refl}
use Rattle.sk_sym_state.specs.declared.setting.Setting.{Setting}
use Rattle.sk_sym_state.specs.declared.state.SymState.{SymState}
use Rattle.sk_sym_state.specs.Stands.{StateStands}
use Rattle.sk_sym_state.specs.Shows.{Shows, Sees, SeesFlow, IsHere, IsOutcome}
use Rattle.sk_sym_state.specs.Meaning.{IsLater, Moves, Does, DoesOn, Executes, FailsWhere, SkipsWhere}
use Rattle.sk_sym_state.proofs.Carrying.{Carries-refl, Moves-trans}
use Rattle.sk_sym_state.proofs.Standing.{StateStands-keeps}

and_off : (a b : Bool) → a ≡ false → (a && b) ≡ false
and_off a b h = rw h refl

or_off : (a p c : Bool) → p ≡ false → (a || (p && c)) ≡ a
or_off true p c h = refl
or_off false p c h = rw h refl

or_none : (a p c : Bool) → c ≡ false → (a || (p && c)) ≡ a
or_none true p c h = refl
or_none false true c h = h
or_none false false c h = refl

or_now : (a p c : Bool) → p ≡ true → c ≡ true → (a || (p && c)) ≡ true
or_now true p c h k = refl
or_now false p c h k = rw (h, k) refl

module _ (x : Setting) {d0 d1 : Graph} {s0 : SymState} (cond : BoolId) {path ended : BoolId} (h : StateStands d0 x.expanded.now.prog s0) (k : Keeps d0 d1) (path_there : HasBool d1.nodes path) (ended_there : HasBool d1.nodes ended)
    (path_is : (g : Graph) → Grows d1 g → (e : Env) → bool_value g e path ≡ (bool_value g e s0.path && not (bool_value g e cond))) where
  now : StateStands d1 x.expanded.now.prog s0
  now = StateStands-keeps k h

  path_off : (g : Graph) (e : Env) → IsLater x d1 g e → bool_value g e s0.path ≡ false → bool_value g e path ≡ false
  path_off g e l p = path_is g l.grows e ∙ and_off _ _ p

  path_on : (g : Graph) (e : Env) → IsLater x d1 g e → bool_value g e s0.path ≡ true → bool_value g e cond ≡ false → bool_value g e path ≡ true
  path_on g e l p c = path_is g l.grows e ∙ rw (p, c) refl

  path_end : (g : Graph) (e : Env) → IsLater x d1 g e → bool_value g e cond ≡ true → bool_value g e path ≡ false
  path_end g e l c = path_is g l.grows e ∙ ap (λ b. bool_value g e s0.path && not b) c ∙ none (bool_value g e s0.path)
    where
      none : (b : Bool) → (b && false) ≡ false
      none true = refl
      none false = refl

  pub fails_is : ((g : Graph) → Grows d1 g → (e : Env) → bool_value g e ended ≡ (bool_value g e s0.failed || (bool_value g e s0.path && bool_value g e cond))) → FailsWhere x d0 d1 s0 (record s0 { path = path; failed = ended }) cond
  fails_is v = record {
    moves = record {
      keeps = k;
      stands = record { path = path_there; failed = ended_there; skipped = now.skipped; cost = now.cost; heap = now.heap; structs = now.structs; frame = now.frame };
      structs = StructsGrow-refl s0.heap;
      comes = λ g e l h. record { grown = HeapGrows-refl g e s0.heap; is = fails_comes g e l h (bool_value g e cond) refl };
      stays = λ g e l p. record { path = path_off g e l p; rest = record { failed = v g l.grows e ∙ or_off _ _ _ p; skipped = refl; returned = refl; cost = refl; heap = λ t. refl; lives = λ t. t; ended = λ a b t. t; holds = HoldAlike-refl g e s0.heap; most = omega arith } };
    };
    heap = refl;
    good = λ g e at l c shows. record { path = path_on g e l shows.path c; failed = v g l.grows e ∙ or_none _ _ _ c ∙ shows.failed; skipped = shows.skipped; returned = shows.returned; cost = shows.cost; heap = shows.heap; lives = shows.lives; slots = shows.slots; free = shows.free };
    bad = λ g e at l c shows. record { path = path_end g e l c; failed = v g l.grows e ∙ or_now _ _ _ shows.path c; skipped = shows.skipped; returned = shows.returned };
  }
    where
      fails_comes : (g : Graph) (e : Env) → IsLater x d1 g e → IsHere g e s0 → (c : Bool) → bool_value g e cond ≡ c → IsOutcome g e (record s0 { path = path; failed = ended })
      fails_comes g e l h true c = inr (inr (inl (record { path = path_end g e l c; failed = v g l.grows e ∙ or_now _ _ _ h.path c; skipped = h.skipped; returned = h.returned })))
      fails_comes g e l h false c = inl (record { path = path_on g e l h.path c; failed = v g l.grows e ∙ or_none _ _ _ c ∙ h.failed; skipped = h.skipped; returned = h.returned; free = h.free })

  pub skips_is : ((g : Graph) → Grows d1 g → (e : Env) → bool_value g e ended ≡ (bool_value g e s0.skipped || (bool_value g e s0.path && bool_value g e cond))) → SkipsWhere x d0 d1 s0 (record s0 { path = path; skipped = ended }) cond
  skips_is v = record {
    moves = record {
      keeps = k;
      stands = record { path = path_there; failed = now.failed; skipped = ended_there; cost = now.cost; heap = now.heap; structs = now.structs; frame = now.frame };
      structs = StructsGrow-refl s0.heap;
      comes = λ g e l h. record { grown = HeapGrows-refl g e s0.heap; is = skips_comes g e l h (bool_value g e cond) refl };
      stays = λ g e l p. record { path = path_off g e l p; rest = record { failed = refl; skipped = v g l.grows e ∙ or_off _ _ _ p; returned = refl; cost = refl; heap = λ t. refl; lives = λ t. t; ended = λ a b t. t; holds = HoldAlike-refl g e s0.heap; most = omega arith } };
    };
    heap = refl;
    good = λ g e at l c shows. record { path = path_on g e l shows.path c; failed = shows.failed; skipped = v g l.grows e ∙ or_none _ _ _ c ∙ shows.skipped; returned = shows.returned; cost = shows.cost; heap = shows.heap; lives = shows.lives; slots = shows.slots; free = shows.free };
    bad = λ g e at l c shows. record { path = path_end g e l c; failed = shows.failed; skipped = v g l.grows e ∙ or_now _ _ _ shows.path c; returned = shows.returned };
  }
    where
      skips_comes : (g : Graph) (e : Env) → IsLater x d1 g e → IsHere g e s0 → (c : Bool) → bool_value g e cond ≡ c → IsOutcome g e (record s0 { path = path; skipped = ended })
      skips_comes g e l h true c = inr (inr (inr (record { path = path_end g e l c; failed = h.failed; skipped = v g l.grows e ∙ or_now _ _ _ h.path c; returned = h.returned })))
      skips_comes g e l h false c = inl (record { path = path_on g e l h.path c; failed = h.failed; skipped = v g l.grows e ∙ or_none _ _ _ c ∙ h.skipped; returned = h.returned; free = h.free })

-- nothing is done but that the graph grows
pub moves_none : {x : Setting} {d0 d1 : Graph} {s : SymState} → Keeps d0 d1 → StateStands d0 x.expanded.now.prog s → Moves x d0 d1 s s
moves_none {s = s} k h = record {
  keeps = k;
  stands = StateStands-keeps k h;
  structs = StructsGrow-refl s.heap;
  comes = λ g e l h. record { grown = HeapGrows-refl g e s.heap; is = inl h };
  stays = λ g e l p. record { path = p; rest = Carries-refl g e s };
}

-- where a node holds it fails, and where it does not it goes on with something
pub fails_or_goes : {A B : Type 0} {x : Setting} {d0 d1 d2 : Graph} {s0 s1 : SymState} {fails : BoolId} {Given : Graph → Env → A → Type 0} {Is : Graph → Env → B → Type 0} {k : Env → A → Comp B} → StateStands d0 x.expanded.now.prog s0 → Keeps d0 d1 → FailsWhere x d1 d2 s0 s1 fails
    → ((g : Graph) (e : Env) (a : A) (at : State) → IsLater x d2 g e → Given g e a → Shows g e s0 at → bool_value g e fails ≡ true → (span : Span) × (k e a at ≡ Fails span))
    → ((g : Graph) (e : Env) (a : A) (at : State) → IsLater x d2 g e → Given g e a → Shows g e s0 at → bool_value g e fails ≡ false → (b : B) × (k e a at ≡ Goes b at) × Is g e b)
    → DoesOn x d0 d2 s0 s1 Given Is k
fails_or_goes {A} {B} {x} {d0} {d1} {d2} {s0} {s1} {fails} {Given} {Is} {k} h keeps f bad good = record {
  moves = Moves-trans (moves_none keeps h) f.moves;
  runs = λ g e a at l given shows. by g e a at l given shows (bool_value g e fails) refl;
}
  where
    by : (g : Graph) (e : Env) (a : A) (at : State) → IsLater x d2 g e → Given g e a → Shows g e s0 at → (b : Bool) → bool_value g e fails ≡ b → Sees g e s1 (Is g e) (k e a at)
    by g e a at l given shows true c = let is = bad g e a at l given shows c in subst (Sees g e s1 (Is g e)) (sym is.1) (f.bad g e at l c shows)
    by g e a at l given shows false c = let is = good g e a at l given shows c in subst (Sees g e s1 (Is g e)) (sym is.1) (record { shows = f.good g e at l c shows; is = is.2 })

-- where nothing can fail
pub goes : {A B : Type 0} {x : Setting} {d0 d1 : Graph} {s : SymState} {Given : Graph → Env → A → Type 0} {Is : Graph → Env → B → Type 0} {k : Env → A → Comp B} → StateStands d0 x.expanded.now.prog s → Keeps d0 d1
    → ((g : Graph) (e : Env) (a : A) (at : State) → IsLater x d1 g e → Given g e a → Shows g e s at → (b : B) × (k e a at ≡ Goes b at) × Is g e b)
    → DoesOn x d0 d1 s s Given Is k
goes {s = s} {Is = Is} h keeps good = record {
  moves = moves_none keeps h;
  runs = λ g e a at l given shows. let is = good g e a at l given shows in subst (Sees g e s (Is g e)) (sym is.1) (record { shows = shows; is = is.2 });
}

-- the same meaning in other words
pub does_same : {A : Type 0} {x : Setting} {d0 d1 : Graph} {s0 s1 : SymState} {Is : Graph → Env → A → Type 0} {m n : Env → Comp A} → ((e : Env) (at : State) → n e at ≡ m e at) → Does x d0 d1 s0 s1 Is m → Does x d0 d1 s0 s1 Is n
does_same {x = x} {s1 = s1} {Is = Is} same h = record { moves = h.moves; runs = λ g e at l shows. subst (Sees g e s1 (Is g e)) (sym (same e at)) (h.runs g e at l shows) }

pub executes_same : {x : Setting} {d0 d1 : Graph} {s0 s1 : SymState} {m n : Env → Comp Flow} → ((e : Env) (at : State) → n e at ≡ m e at) → Executes x d0 d1 s0 s1 m → Executes x d0 d1 s0 s1 n
executes_same {x = x} {s1 = s1} same h = record { moves = h.moves; runs = λ g e at l shows. subst (SeesFlow g e x.fun.now s1) (sym (same e at)) (h.runs g e at l shows) }
