-- Both ways of a branch, one after the other, are the one that the condition names.
use Rattle.std.proofs.Common.{◌≡◌, ◌≤◌, Bool, true, false, refl, sym, ap, subst, ◌∙◌, ◌&&◌, ◌||◌, arith}
use Rattle.std.specs.Prelude.{not}
use Rattle.sk_base.specs.declared.span.Span.{Span}
use Rattle.sk_dag.specs.declared.env.Env.{Env}
use Rattle.sk_dag.specs.declared.node.BoolId.{BoolId}
use Rattle.sk_dag.specs.Graph.{Graph}
use Rattle.sk_dag.specs.Eval.{bool_value}
use Rattle.sk_dag.proofs.EvalLemmas.{Keeps-trans}
use Rattle.sk_prog.specs.declared.value.Value.TheVariants as value
use Rattle.sk_model.specs.Step.{State, Step, Goes, Fails, Skips, Comp}
use Rattle.sk_model.specs.Eval.{choose}
use Rattle.sk_model.specs.Exec.{Flow, Onward, Returns}
use Rattle.sk_sym_state.specs.declared.branch.Side.{Side}
use Rattle.sk_sym_state.specs.declared.state.SymState.{SymState}
use Rattle.sk_sym_state.specs.declared.setting.Setting.{Setting}
use Rattle.sk_heap_laws.specs.Heaps.{StructsGrow, HeapGrows}
use Rattle.sk_sym_state.specs.Shows.{AreFrontOf, Shows, SeesFlow, Sees, IsHere, Comes, Carries, AreAlong, Stays}
use Rattle.sk_sym_state.specs.Meaning.{IsLater, Moves, Executes, Does, ExecutesOn, DoesOn}
use Rattle.sk_sym_state.specs.Branching.{IsBit, IsForked, AreTurned, AreJoined}
use Rattle.sk_heap_laws.proofs.Grown.{StructsGrow-refl, StructsGrow-trans, HeapGrows-trans, HoldAlike-trans, alike_grows}
use Rattle.sk_sym_state.proofs.Carrying.{Carries-trans, Carries-along, failed_over, skipped_over, returned_over, shows_over, here_over, some_over, alike_along, front_grown, later_keeps}

and_false : (a b : Bool) → a ≡ false → (a && b) ≡ false
and_false a b h = rw h refl

module _ {x : Setting} {d1 d2 d3 d4 d5 : Graph} {s1 s2 s3 s4 s5 s6 : SymState} {cond : BoolId} {waits gone : Side}
    (forked : IsForked x d1 d2 s1 s2 cond waits) (ma : Moves x d2 d3 s2 s3) (turned : AreTurned s3 s4 waits gone) (mb : Moves x d3 d4 s4 s5) (joined : AreJoined x d4 d5 s5 s6 cond gone) where
  structs : StructsGrow s1.heap s6.heap
  structs = StructsGrow-trans (along forked.along) (StructsGrow-trans ma.structs (StructsGrow-trans (along turned.along) (StructsGrow-trans mb.structs (along joined.along))))
    where
      along : {a b : SymState} → AreAlong a b → StructsGrow a.heap b.heap
      along {a} h = subst (StructsGrow a.heap) (sym h.heap) (StructsGrow-refl a.heap)

  module _ {g : Graph} {e : Env} (l : IsLater x d5 g e) where
    l4 : IsLater x d4 g e
    l4 = later_keeps joined.keeps l

    l3 : IsLater x d3 g e
    l3 = later_keeps mb.keeps l4

    l2 : IsLater x d2 g e
    l2 = later_keeps ma.keeps l3

    l1 : IsLater x d1 g e
    l1 = later_keeps forked.keeps l2

    path4 : bool_value g e s4.path ≡ (bool_value g e s1.path && not (bool_value g e cond))
    path4 = ap (bool_value g e) turned.path ∙ forked.there g e l2.grows

    path6 : bool_value g e s6.path ≡ (bool_value g e s3.path || bool_value g e s5.path)
    path6 = joined.path g e l.grows ∙ ap (λ p. bool_value g e p || bool_value g e s5.path) turned.old_path

    nowhere : bool_value g e s1.path ≡ false → Stays g e s1 s6
    nowhere p =
        let a = ma.stays g e l3 (forked.here g e l2.grows ∙ and_false _ _ p) in
        let b = mb.stays g e l4 (path4 ∙ and_false _ _ p) in
        record {
          path = path6 ∙ rw (a.path, b.path) refl;
          rest = Carries-trans (Carries-along forked.along) (Carries-trans a.rest (Carries-trans (Carries-along turned.along) (Carries-trans b.rest (Carries-along joined.along))));
        }

    -- the first way
    module _ (p : bool_value g e s1.path ≡ true) (c : bool_value g e cond ≡ true) where
      first_path : bool_value g e s2.path ≡ true
      first_path = forked.here g e l2.grows ∙ rw (p, c) refl

      second_gone : Stays g e s4 s5
      second_gone = mb.stays g e l4 (path4 ∙ rw (p, c) refl)

      first_rest : Carries g e s3 s6
      first_rest = Carries-trans (Carries-along turned.along) (Carries-trans second_gone.rest (Carries-along joined.along))

      first_end : bool_value g e s6.path ≡ bool_value g e s3.path
      first_end = path6 ∙ ap (λ b. bool_value g e s3.path || b) second_gone.path ∙ or_end (bool_value g e s3.path)
        where
          or_end : (b : Bool) → (b || false) ≡ b
          or_end true = refl
          or_end false = refl

      first_shows : {at : State} → Shows g e s1 at → Shows g e s2 at
      first_shows {at} h = shows_over (Carries-along forked.along) first_path (omega (arith, forked.cursor)) (forked.slots g e at.slots l2.grows h.slots) h

      -- the cursor is no less than where this way ends
      first_up : bool_value g e s3.path ≡ true → s3.cursor ≤ s6.cursor
      first_up here = omega (arith, turned.old_cursor, joined.cursor.first g e l.grows (ap (bool_value g e) turned.old_path ∙ here))

      first_on : {at : State} → Shows g e s3 at → Shows g e s6 at
      first_on {at} h =
          let end : bool_value g e gone.path ≡ true = ap (bool_value g e) turned.old_path ∙ h.path in
          let front = front_grown g e (alike_grows g e (HoldAlike-trans g e (alike_along g e turned.along) second_gone.rest.holds)) h.slots in
          let front' : AreFrontOf g e s5.heap gone.slots at.slots = subst (λ list. AreFrontOf g e s5.heap list at.slots) (sym turned.old_slots) front in
          shows_over first_rest (first_end ∙ h.path) (first_up h.path) (joined.first g e at.slots l.grows c end front') h

      first_flow : (t : Step Flow) → SeesFlow g e x.fun.now s3 t → SeesFlow g e x.fun.now s6 t
      first_flow (Goes Onward at) h = first_on h
      first_flow (Goes (Returns v) at) h = returned_over first_rest (first_end ∙ h.path) h
      first_flow (Fails span) h = failed_over first_rest (first_end ∙ h.path) h
      first_flow (Skips span) h = skipped_over first_rest (first_end ∙ h.path) h

      first_sees : {A : Type 0} {Is Is' : A → Type 0} → ((a : A) → Is a → Is' a) → (t : Step A) → Sees g e s3 Is t → Sees g e s6 Is' t
      first_sees more (Goes v at) h = record { shows = first_on h.shows; is = more v h.is }
      first_sees more (Fails span) h = failed_over first_rest (first_end ∙ h.path) h
      first_sees more (Skips span) h = skipped_over first_rest (first_end ∙ h.path) h

    -- the second
    module _ (p : bool_value g e s1.path ≡ true) (c : bool_value g e cond ≡ false) where
      first_gone : Stays g e s2 s3
      first_gone = ma.stays g e l3 (forked.here g e l2.grows ∙ rw (p, c) refl)

      before : Carries g e s1 s4
      before = Carries-trans (Carries-along forked.along) (Carries-trans first_gone.rest (Carries-along turned.along))

      second_path : bool_value g e s4.path ≡ true
      second_path = path4 ∙ rw (p, c) refl

      second_end : bool_value g e s6.path ≡ bool_value g e s5.path
      second_end = path6 ∙ ap (λ b. b || bool_value g e s5.path) first_gone.path

      second_from : s1.cursor ≤ s4.cursor
      second_from = omega (arith, turned.cursor, forked.other_cursor)

      second_up : bool_value g e s5.path ≡ true → s5.cursor ≤ s6.cursor
      second_up here = joined.cursor.second g e l.grows here

      second_shows : {at : State} → Shows g e s1 at → Shows g e s4 at
      second_shows {at} h =
          let here : AreFrontOf g e s2.heap waits.slots at.slots = forked.others g e at.slots l2.grows h.slots in
          let front = front_grown g e (alike_grows g e (HoldAlike-trans g e first_gone.rest.holds (alike_along g e turned.along))) here in
          shows_over before second_path second_from (subst (λ list. AreFrontOf g e s4.heap list at.slots) (sym turned.slots) front) h

      second_on : {at : State} → Shows g e s5 at → Shows g e s6 at
      second_on {at} h = shows_over (Carries-along joined.along) (second_end ∙ h.path) (second_up h.path) (joined.second g e at.slots l.grows c h.path h.slots) h

      second_flow : (t : Step Flow) → SeesFlow g e x.fun.now s5 t → SeesFlow g e x.fun.now s6 t
      second_flow (Goes Onward at) h = second_on h
      second_flow (Goes (Returns v) at) h = returned_over (Carries-along joined.along) (second_end ∙ h.path) h
      second_flow (Fails span) h = failed_over (Carries-along joined.along) (second_end ∙ h.path) h
      second_flow (Skips span) h = skipped_over (Carries-along joined.along) (second_end ∙ h.path) h

      second_sees : {A : Type 0} {Is Is' : A → Type 0} → ((a : A) → Is a → Is' a) → (t : Step A) → Sees g e s5 Is t → Sees g e s6 Is' t
      second_sees more (Goes v at) h = record { shows = second_on h.shows; is = more v h.is }
      second_sees more (Fails span) h = failed_over (Carries-along joined.along) (second_end ∙ h.path) h
      second_sees more (Skips span) h = skipped_over (Carries-along joined.along) (second_end ∙ h.path) h

    -- the run goes on or has ended
    comes : IsHere g e s1 → Comes g e s1 s6
    comes h = by (bool_value g e cond) refl
      where
        by : (c : Bool) → bool_value g e cond ≡ c → Comes g e s1 s6
        by true c =
            let p = h.path in
            let first = ma.comes g e l3 (here_over (Carries-along forked.along) (first_path p c) (omega (arith, forked.cursor)) h) in
            record {
              grown = HeapGrows-trans g e (alike_grows g e (alike_along g e forked.along)) (HeapGrows-trans g e first.grown (alike_grows g e (first_rest p c).holds));
              is = some_over (first_rest p c) (first_end p c) (first_up p c) first.is;
            }
        by false c =
            let p = h.path in
            let second = mb.comes g e l4 (here_over (before p c) (second_path p c) (second_from p c) h) in
            record {
              grown = HeapGrows-trans g e (alike_grows g e (before p c).holds) (HeapGrows-trans g e second.grown (alike_grows g e (alike_along g e joined.along)));
              is = some_over (Carries-along joined.along) (second_end p c) (second_up p c) second.is;
            }

  branch_moves : Moves x d1 d5 s1 s6
  branch_moves = record {
    keeps = Keeps-trans forked.keeps (Keeps-trans ma.keeps (Keeps-trans mb.keeps joined.keeps));
    stands = joined.stands;
    structs = structs;
    comes = λ g e l h. comes l h;
    stays = λ g e l p. nowhere l p;
  }

module _ {x : Setting} {d1 d2 d3 d4 d5 : Graph} {s1 s2 s3 s4 s5 s6 : SymState} {cond : BoolId} {waits gone : Side} where
  pub branch_executes : (span : Span) {m n : Env → Comp Flow} → IsForked x d1 d2 s1 s2 cond waits → Executes x d2 d3 s2 s3 m → AreTurned s3 s4 waits gone → Executes x d3 d4 s4 s5 n → AreJoined x d4 d5 s5 s6 cond gone → ExecutesOn x d1 d5 s1 s6 (IsBit cond) (λ e. choose span (m e) (n e))
  branch_executes span {m} {n} f a t b j = record {
    moves = branch_moves f a.moves t b.moves j;
    runs = λ g e v at l is shows. subst (λ v. SeesFlow g e x.fun.now s6 (choose span (m e) (n e) v at)) (sym is) (by g e at l shows (bool_value g e cond) refl);
  }
    where
      by : (g : Graph) (e : Env) (at : State) → IsLater x d5 g e → Shows g e s1 at → (c : Bool) → bool_value g e cond ≡ c → SeesFlow g e x.fun.now s6 (choose span (m e) (n e) (value.Bit c) at)
      by g e at l shows true c = first_flow f a.moves t b.moves j l shows.path c (m e at) (a.runs g e at (l3 f a.moves t b.moves j l) (first_shows f a.moves t b.moves j l shows.path c shows))
      by g e at l shows false c = second_flow f a.moves t b.moves j l shows.path c (n e at) (b.runs g e at (l4 f a.moves t b.moves j l) (second_shows f a.moves t b.moves j l shows.path c shows))

  -- the same for values, where what the first way gave is kept, and the one that the condition names is taken
  pub branch_does : (span : Span) {A : Type 0} {Is Then Last : Graph → Env → A → Type 0} {m n : Env → Comp A} → IsForked x d1 d2 s1 s2 cond waits → Does x d2 d3 s2 s3 Is m → AreTurned s3 s4 waits gone → Does x d3 d4 s4 s5 Then n → AreJoined x d4 d5 s5 s6 cond gone
      → ((g : Graph) (e : Env) (v : A) → IsLater x d5 g e → bool_value g e cond ≡ true → HeapGrows g e s3.heap s6.heap → Is g e v → Last g e v)
      → ((g : Graph) (e : Env) (v : A) → IsLater x d5 g e → bool_value g e cond ≡ false → HeapGrows g e s5.heap s6.heap → Then g e v → Last g e v)
      → DoesOn x d1 d5 s1 s6 (IsBit cond) Last (λ e. choose span (m e) (n e))
  branch_does span {A} {Is} {Then} {Last} {m} {n} f a t b j one two = record {
    moves = branch_moves f a.moves t b.moves j;
    runs = λ g e v at l is shows. subst (λ v. Sees g e s6 (Last g e) (choose span (m e) (n e) v at)) (sym is) (by g e at l shows (bool_value g e cond) refl);
  }
    where
      by : (g : Graph) (e : Env) (at : State) → IsLater x d5 g e → Shows g e s1 at → (c : Bool) → bool_value g e cond ≡ c → Sees g e s6 (Last g e) (choose span (m e) (n e) (value.Bit c) at)
      by g e at l shows true c = first_sees f a.moves t b.moves j l shows.path c (λ v. one g e v l c (alike_grows g e (first_rest f a.moves t b.moves j l shows.path c).holds)) (m e at) (a.runs g e at (l3 f a.moves t b.moves j l) (first_shows f a.moves t b.moves j l shows.path c shows))
      by g e at l shows false c = second_sees f a.moves t b.moves j l shows.path c (λ v. two g e v l c (alike_grows g e (alike_along g e j.along))) (n e at) (b.runs g e at (l4 f a.moves t b.moves j l) (second_shows f a.moves t b.moves j l shows.path c shows))
