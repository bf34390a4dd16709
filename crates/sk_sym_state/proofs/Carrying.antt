-- What stays where the run does not go on, and what a state is that is another but for its path and its variables.
use Rattle.std.proofs.Common.{◌≡◌, ◌≤◌, true, false, List, ◌++◌, refl, sym, ap, subst, ◌∙◌, arith, inl, inr}
use Rattle.std.specs.Prelude.{Option}
use Rattle.sk_dag.specs.declared.env.Env.{Env}
use Rattle.sk_dag.specs.declared.shape.Shape.{Shape}
use Rattle.sk_dag.specs.Graph.{Graph}
use Rattle.sk_dag.specs.Eval.{bool_value, cost_value, Keeps}
use Rattle.sk_dag.proofs.EvalLemmas.{Keeps-trans}
use Rattle.sk_prog.specs.declared.value.Value.{Value}
use Rattle.sk_prog.specs.declared.prog.Fun.{Fun}
use Rattle.sk_model.specs.Step.{State}
use Rattle.sk_heap.specs.declared.slot.Slot.{Slot}
use Rattle.sk_sym_state.specs.declared.state.SymState.{SymState}
use Rattle.sk_sym_state.specs.declared.setting.Setting.{Setting}
use Rattle.sk_heap_laws.specs.Heaps.{HeapGrows, HoldAlike, HeapLive, heap_value}
use Rattle.sk_sym_state.specs.Shows.{AreFrontOf, Shows, HasFailed, HasSkipped, EndedIs, HasReturned, IsHere, IsBack, IsOutcome, Comes, Carries, AreAlong}
use Rattle.sk_sym_state.specs.Meaning.{IsLater, Moves}
use Rattle.sk_arr.specs.Answers.{shapes_value}
use Rattle.sk_heap_laws.proofs.Grown.{StructsGrow-trans, HeapGrows-trans, HoldAlike-refl, HoldAlike-trans, alike_grows, alike_free, free_more, values_grow, all_live_grows}

pub Carries-refl : (g : Graph) (e : Env) (s : SymState) → Carries g e s s
Carries-refl g e s = record { failed = refl; skipped = refl; returned = refl; cost = refl; heap = λ l. refl; lives = λ h. h; ended = λ v refs h. h; holds = HoldAlike-refl g e s.heap; most = omega arith }

pub Carries-trans : {g : Graph} {e : Env} {a b c : SymState} → Carries g e a b → Carries g e b c → Carries g e a c
Carries-trans {g} {e} h k = record {
  failed = k.failed ∙ h.failed;
  skipped = k.skipped ∙ h.skipped;
  returned = k.returned ∙ h.returned;
  cost = k.cost ∙ h.cost;
  heap = λ l. k.heap (h.lives l) ∙ h.heap l;
  lives = λ l. k.lives (h.lives l);
  ended = λ v refs l. k.ended v refs (h.ended v refs l);
  holds = HoldAlike-trans g e h.holds k.holds;
  most = omega (arith, h.most, k.most);
}

pub Carries-along : {g : Graph} {e : Env} {a b : SymState} → AreAlong a b → Carries g e a b
Carries-along {g} {e} {a} {b} h = record {
  failed = ap (bool_value g e) h.failed;
  skipped = ap (bool_value g e) h.skipped;
  returned = ap (bool_value g e) h.returned;
  cost = ap (cost_value g e) h.cost;
  heap = λ l. ap (heap_value g e) h.heap;
  lives = λ l. subst (HeapLive g e) (sym h.heap) l;
  ended = λ v refs l. subst (λ t. EndedIs g e t b.frame.ended v refs) (sym h.heap) (subst (λ t. EndedIs g e a.heap t v refs) (sym h.ended) l);
  holds = subst (HoldAlike g e a.heap) (sym h.heap) (HoldAlike-refl g e a.heap);
  most = omega (arith, h.most);
}

module _ {g : Graph} {e : Env} {a b : SymState} where
  pub failed_over : Carries g e a b → bool_value g e b.path ≡ false → HasFailed g e a → HasFailed g e b
  failed_over c p h = record { path = p; failed = c.failed ∙ h.failed; skipped = c.skipped ∙ h.skipped; returned = c.returned ∙ h.returned }

  pub skipped_over : Carries g e a b → bool_value g e b.path ≡ false → HasSkipped g e a → HasSkipped g e b
  skipped_over c p h = record { path = p; failed = c.failed ∙ h.failed; skipped = c.skipped ∙ h.skipped; returned = c.returned ∙ h.returned }

  pub returned_over : {fun : Fun} {v : Option Value} {at : State} → Carries g e a b → bool_value g e b.path ≡ false → HasReturned g e fun a v at → HasReturned g e fun b v at
  returned_over c p h = record {
    path = p;
    failed = c.failed ∙ h.failed;
    skipped = c.skipped ∙ h.skipped;
    returned = c.returned ∙ h.returned;
    cost = c.cost ∙ h.cost;
    heap = c.heap h.lives ∙ h.heap;
    lives = c.lives h.lives;
    ended = c.ended _ _ h.ended;
    free = free_more g e c.most (alike_free g e c.holds h.free);
  }

  pub shows_over : {at : State} → Carries g e a b → bool_value g e b.path ≡ true → a.cursor ≤ b.cursor → AreFrontOf g e b.heap b.frame.slots at.slots → Shows g e a at → Shows g e b at
  shows_over c p up f h = record {
    path = p;
    failed = c.failed ∙ h.failed;
    skipped = c.skipped ∙ h.skipped;
    returned = c.returned ∙ h.returned;
    cost = c.cost ∙ h.cost;
    heap = c.heap h.lives ∙ h.heap;
    lives = c.lives h.lives;
    slots = f;
    free = free_more g e up (alike_free g e c.holds h.free);
  }

  pub here_over : Carries g e a b → bool_value g e b.path ≡ true → a.cursor ≤ b.cursor → IsHere g e a → IsHere g e b
  here_over c p up h = record { path = p; failed = c.failed ∙ h.failed; skipped = c.skipped ∙ h.skipped; returned = c.returned ∙ h.returned; free = free_more g e up (alike_free g e c.holds h.free) }

  pub back_over : Carries g e a b → bool_value g e b.path ≡ false → IsBack g e a → IsBack g e b
  back_over c p h = record { path = p; failed = c.failed ∙ h.failed; skipped = c.skipped ∙ h.skipped; returned = c.returned ∙ h.returned; free = free_more g e c.most (alike_free g e c.holds h.free) }

  -- what it is stays, where its path does and its cursor is no less
  pub some_over : Carries g e a b → bool_value g e b.path ≡ bool_value g e a.path → (bool_value g e a.path ≡ true → a.cursor ≤ b.cursor) → IsOutcome g e a → IsOutcome g e b
  some_over c p up (inl h) = inl (here_over c (p ∙ h.path) (up h.path) h)
  some_over c p up (inr (inl h)) = inr (inl (back_over c (p ∙ h.path) h))
  some_over c p up (inr (inr (inl h))) = inr (inr (inl (failed_over c (p ∙ h.path) h)))
  some_over c p up (inr (inr (inr h))) = inr (inr (inr (skipped_over c (p ∙ h.path) h)))

pub here_of : {g : Graph} {e : Env} {s : SymState} {at : State} → Shows g e s at → IsHere g e s
here_of h = record { path = h.path; failed = h.failed; skipped = h.skipped; returned = h.returned; free = h.free }

pub alike_along : {a b : SymState} (g : Graph) (e : Env) → AreAlong a b → HoldAlike g e a.heap b.heap
alike_along {a} g e h = subst (HoldAlike g e a.heap) (sym h.heap) (HoldAlike-refl g e a.heap)

pub front_grown : {a b : List Slot} {list : List Shape} {values : List Value} (g : Graph) (e : Env) → HeapGrows g e a b → AreFrontOf g e a list values → AreFrontOf g e b list values
front_grown {list = list} g e h f = record {
  behind = f.behind;
  whole = f.whole ∙ ap (λ l. l ++ f.behind) (sym (values_grow g e h list f.live));
  live = all_live_grows g e h (shapes_value g e list) f.live;
}

module _ {x : Setting} {d0 d1 : Graph} {g : Graph} {e : Env} where
  pub later_keeps : Keeps d0 d1 → IsLater x d1 g e → IsLater x d0 g e
  later_keeps k l = record { grows = k.later g l.grows; range = l.range }

-- where the run goes on the heap grows, and where it does not it holds alike
module _ {x : Setting} {d0 d1 : Graph} {s0 s1 : SymState} (m : Moves x d0 d1 s0 s1) {g : Graph} {e : Env} (l : IsLater x d1 g e) where
  pub shown_grows : {at : State} → Shows g e s0 at → HeapGrows g e s0.heap s1.heap
  shown_grows h = (m.comes g e l (here_of h)).grown

  pub gone_grows : bool_value g e s0.path ≡ false → HeapGrows g e s0.heap s1.heap
  gone_grows p = alike_grows g e (m.stays g e l p).rest.holds

  -- whatever it is that the run is
  pub some_comes : IsOutcome g e s0 → Comes g e s0 s1
  some_comes (inl h) = m.comes g e l h
  some_comes (inr (inl h)) = let k = m.stays g e l h.path in record { grown = alike_grows g e k.rest.holds; is = inr (inl (back_over k.rest k.path h)) }
  some_comes (inr (inr (inl h))) = let k = m.stays g e l h.path in record { grown = alike_grows g e k.rest.holds; is = inr (inr (inl (failed_over k.rest k.path h))) }
  some_comes (inr (inr (inr h))) = let k = m.stays g e l h.path in record { grown = alike_grows g e k.rest.holds; is = inr (inr (inr (skipped_over k.rest k.path h))) }

pub Moves-trans : {x : Setting} {d0 d1 d2 : Graph} {s0 s1 s2 : SymState} → Moves x d0 d1 s0 s1 → Moves x d1 d2 s1 s2 → Moves x d0 d2 s0 s2
Moves-trans a b = record {
  keeps = Keeps-trans a.keeps b.keeps;
  stands = b.stands;
  structs = StructsGrow-trans a.structs b.structs;
  comes = λ g e l h.
      let first = a.comes g e (later_keeps b.keeps l) h in
      let second = some_comes b l first.is in
      record { grown = HeapGrows-trans g e first.grown second.grown; is = second.is };
  stays = λ g e l p.
      let first = a.stays g e (later_keeps b.keeps l) p in
      let second = b.stays g e l first.path in
      record { path = second.path; rest = Carries-trans first.rest second.rest };
}
