-- A call: what its body does in variables of its own is what the call does in those of its caller.
use Rattle.std.proofs.Common.{◌≡◌, ℕ, ◌≤◌, Bool, true, false, List, length, replicate, ◌++◌, ◌-◌, ◌||◌, refl, sym, ap, subst, ◌∙◌, arith, true≢false, ◌⊎◌, inl, inr}
use Rattle.std.specs.Prelude.{Option, Some, None}
use Rattle.sk_dag.specs.declared.env.Env.{Env}
use Rattle.sk_dag.specs.declared.node.BoolId.{BoolId}
use Rattle.sk_dag.specs.declared.shape.Shape.{Shape}
use Rattle.sk_dag.specs.Graph.{Graph, Grows, HasBool, BoolSort}
use Rattle.sk_dag.specs.Eval.{bool_value, cost_value, Keeps}
use Rattle.sk_dag.proofs.EvalLemmas.{Keeps-trans}
use Rattle.sk_arr.specs.Shapes.{AllStand}
use Rattle.sk_arr.proofs.Standing.{AllStand-keeps}
use Rattle.sk_prog.specs.declared.value.Value.{Value}
use Rattle.sk_prog.specs.declared.prog.Fun.{Fun}
use Rattle.sk_heap.specs.declared.slot.Slot.{Slot}
use Rattle.sk_model.specs.Step.{State, Step, Goes, Fails, Skips, Comp, and_then, pure}
use Rattle.sk_model.specs.Heap.{blank}
use Rattle.sk_model.specs.Eval.{Called}
use Rattle.sk_model.specs.Exec.{Flow, Onward, Returns}
use Rattle.sk_model.specs.Run.{result_of, refs_from, first_slots, in_frame}
use Rattle.sk_heap_laws.specs.Heaps.{StructsGrow, HeapGrows, HoldAlike, AreFree, HeapLive, heap_value}
use Rattle.sk_heap_laws.proofs.Grown.{StructsGrow-refl, HeapGrows-refl, HoldAlike-refl, alike_grows, free_more}
use Rattle.sk_sym_state.specs.declared.setting.Setting.{Setting}
use Rattle.sk_sym_state.specs.declared.state.Ended.{Ended}
use Rattle.sk_sym_state.specs.declared.state.Frame.{Frame}
use Rattle.sk_sym_state.specs.declared.state.SymState.{SymState}
use Rattle.sk_sym_state.specs.Seen.{AreWorth}
use Rattle.sk_sym_state.specs.Stands.{StateStands}
use Rattle.sk_sym_state.specs.Shows.{AreFrontOf, Shows, ResultIs, EndedIs, SeesFlow, Sees, IsHere, IsOutcome, Comes, Stays}
use Rattle.sk_sym_state.specs.Meaning.{IsLater, Executes, ExecutesOn, DoesOn}
use Rattle.sk_sym_state.proofs.Worth.{IsWorth-grown, AreWorth-grown}
use Rattle.sk_sym_state.proofs.Carrying.{here_of, front_grown, later_keeps}
use Rattle.sk_sym_state.proofs.Standing.{StateStands-keeps, FrameStands-keeps, AnyEnded-keeps}
use Rattle.sk_sym_frames.specs.declared.frame.Caller.{Caller}
use Rattle.sk_sym_frames.specs.Ended.{AnyWorth, IsEnd, IsLatest, IsGiven}
use Rattle.sk_sym_frames.specs.Frames.{CallerStands, IsEntered, GoesOnBehind, IsCursorAfter, IsLeft}

pub CallerStands-keeps : {a b : Graph} {caller : Caller} → Keeps a b → CallerStands a caller → CallerStands b caller
CallerStands-keeps k h = record { path = k.sorts _ BoolSort h.path; frame = FrameStands-keeps k h.frame }

pub entered_is : {x : Setting} {d0 d1 : Graph} {s0 : SymState} {returned : BoolId} {args : List Shape} → StateStands d0 x.expanded.now.prog s0 → AllStand d0 args → Keeps d0 d1 → HasBool d1.nodes returned → ((g : Graph) → Grows d1 g → (e : Env) → bool_value g e returned ≡ false)
    → IsEntered x d0 d1 s0 (record s0 { frame = record { slots = args; returned = returned; ended = None; most = 0 } }) args (record { path = s0.path; failed = s0.failed; skipped = s0.skipped; frame = s0.frame })
entered_is {x} {d0} {d1} {s0} {returned} {args} h all k there off =
    let now : StateStands d1 x.expanded.now.prog s0 = StateStands-keeps k h in
    record {
      keeps = k;
      stands = record { path = now.path; failed = now.failed; skipped = now.skipped; cost = now.cost; heap = now.heap; structs = now.structs; frame = record { slots = AllStand-keeps k all; returned = there; ended = tt } };
      waits = record { path = now.path; frame = now.frame };
      was = refl;
      now = refl;
      fresh = λ g e more. off g more e;
    }

pub left_is : {x : Setting} {fun : Fun} {d0 d1 d2 : Graph} {s0 : SymState} {path : BoolId} {caller : Caller} {r : Ended} {cursor : ℕ} → StateStands d0 x.expanded.now.prog s0 → CallerStands d0 caller → Keeps d0 d1 → HasBool d1.nodes path → ((g : Graph) (e : Env) → Grows d1 g → GoesOnBehind g e caller s0 path) → IsCursorAfter d1 s0.path s0.cursor s0.frame.most cursor → Keeps d1 d2 → IsGiven d2 fun s0.path s0.frame.slots s0.frame.returned s0.frame.ended r
    → IsLeft x fun d0 d2 s0 (record s0 { path = path; cursor = cursor; frame = caller.frame }) caller r
left_is {x} {fun} {d0} {d1} {d2} {s0} {path} {caller} {r} {cursor} h waits k1 there behind after k2 given =
    let k : Keeps d0 d2 = Keeps-trans k1 k2 in
    let now : StateStands d2 x.expanded.now.prog s0 = StateStands-keeps k h in
    record {
      keeps = k;
      stands = record { path = k2.sorts _ BoolSort there; failed = now.failed; skipped = now.skipped; cost = now.cost; heap = now.heap; structs = now.structs; frame = FrameStands-keeps k waits.frame };
      now = refl;
      path = λ g e more. behind g e (k2.later g more);
      cursor = record { here = λ g e more. after.here g e (k2.later g more); back = after.back; one = after.one };
      given = given;
    }

or_off : (a p : Bool) → p ≡ false → (a || p) ≡ a
or_off true p h = refl
or_off false p h = h

or_on : (a p : Bool) → p ≡ true → (a || p) ≡ true
or_on true p h = refl
or_on false p h = h

-- a return
pub gives_is : {x : Setting} {d0 d1 d2 d3 d4 : Graph} {s0 : SymState} {value : Option Shape} {now ended : Ended} {returned path : BoolId} {last : ℕ} → s0.frame.most ≤ last → s0.cursor ≤ last → StateStands d0 x.expanded.now.prog s0
    → Keeps d0 d1 → IsEnd d1 x.fun.now s0.frame.slots value now
    → Keeps d1 d2 → IsLatest d2 s0.path now s0.frame.ended ended
    → Keeps d2 d3 → HasBool d3.nodes returned → ((g : Graph) → Grows d3 g → (e : Env) → bool_value g e returned ≡ (bool_value g e s0.frame.returned || bool_value g e s0.path))
    → Keeps d3 d4 → HasBool d4.nodes path → ((g : Graph) → Grows d4 g → (e : Env) → bool_value g e path ≡ false)
    → ExecutesOn x d0 d4 s0 (record s0 { path = path; frame = record { slots = s0.frame.slots; returned = returned; ended = Some ended; most = last } }) (λ g e v. AnyWorth g e s0.heap value v) (λ e v. pure (Returns v))
gives_is {x} {d0} {d1} {d2} {d3} {d4} {s0} {value} {now} {ended} {returned} {path} {last} most up h k1 end k2 late k3 returned_there returned_is k4 path_there path_is =
    let k23 : Keeps d2 d4 = Keeps-trans k3 k4 in
    let k13 : Keeps d1 d4 = Keeps-trans k2 k23 in
    let k : Keeps d0 d4 = Keeps-trans k1 k13 in
    let was : StateStands d4 x.expanded.now.prog s0 = StateStands-keeps k h in
    record {
      moves = record {
        keeps = k;
        stands = record {
          path = path_there;
          failed = was.failed;
          skipped = was.skipped;
          cost = was.cost;
          heap = was.heap;
          structs = was.structs;
          frame = record { slots = was.frame.slots; returned = k4.sorts _ BoolSort returned_there; ended = AnyEnded-keeps k23 (Some ended) late.stands };
        };
        structs = StructsGrow-refl s0.heap;
        comes = λ g e l here. record {
          grown = HeapGrows-refl g e s0.heap;
          is = inr (inl (record { path = path_is g l.grows e; failed = here.failed; skipped = here.skipped; returned = returned_is g (k4.later g l.grows) e ∙ or_on _ _ here.path; free = free_more g e up here.free }));
        };
        stays = λ g e l p. record {
          path = path_is g l.grows e;
          rest = record {
            failed = refl;
            skipped = refl;
            returned = returned_is g (k4.later g l.grows) e ∙ or_off _ _ p;
            cost = refl;
            heap = λ t. refl;
            lives = λ t. t;
            ended = λ v refs t. late.second g e s0.heap v refs (k23.later g l.grows) p t;
            holds = HoldAlike-refl g e s0.heap;
            most = most;
          };
        };
      };
      runs = λ g e v at l worth shows. record {
        path = path_is g l.grows e;
        failed = shows.failed;
        skipped = shows.skipped;
        returned = returned_is g (k4.later g l.grows) e ∙ or_on _ _ shows.path;
        cost = shows.cost;
        heap = shows.heap;
        lives = shows.lives;
        ended = late.first g e s0.heap (result_of x.fun.now.result (Returns v)) (refs_from 0 x.fun.now.params at.slots) (k23.later g l.grows) shows.path (end.worth g e s0.heap v at.slots (k13.later g l.grows) worth shows.slots);
        free = free_more g e up shows.free;
      };
    }

module _ (g : Graph) (e : Env) {a b : List Slot} (grown : HeapGrows g e a b) where
  result_grown : (r : Option Shape) (v : Option Value) → ResultIs g e a r v → ResultIs g e b r v
  result_grown r None h = tt
  result_grown None (Some v) h = h
  result_grown (Some r) (Some v) h = IsWorth-grown grown h

  ended_grown : (ended : Option Ended) (v : Option Value) (refs : List Value) → EndedIs g e a ended v refs → EndedIs g e b ended v refs
  ended_grown None v refs h = h
  ended_grown (Some ended) v refs h = (result_grown ended.result v h.0, AreWorth-grown grown h.1)

module _ {x y : Setting} {d0 d1 d2 d3 : Graph} {s0 s1 s2 s3 : SymState} {args : List Shape} {caller : Caller} {r : Ended} {m : Env → Comp Flow} (later : (d g : Graph) (e : Env) → IsLater x d g e → IsLater y d g e)
    (entered : IsEntered x d0 d1 s0 s1 args caller) (body : Executes y d1 d2 s1 s2 m) (left : IsLeft x y.fun.now d2 d3 s2 s3 caller r) where
  heap1 : s1.heap ≡ s0.heap
  heap1 = ap (λ (s : SymState). s.heap) entered.now

  heap3 : s3.heap ≡ s2.heap
  heap3 = ap (λ (s : SymState). s.heap) left.now

  frame3 : s3.frame ≡ s0.frame
  frame3 = ap (λ (s : SymState). s.frame) left.now ∙ ap (λ (c : Caller). c.frame) entered.was

  failed3 : s3.failed ≡ s2.failed
  failed3 = ap (λ (s : SymState). s.failed) left.now

  skipped3 : s3.skipped ≡ s2.skipped
  skipped3 = ap (λ (s : SymState). s.skipped) left.now

  cost3 : s3.cost ≡ s2.cost
  cost3 = ap (λ (s : SymState). s.cost) left.now

  cursor1 : s1.cursor ≡ s0.cursor
  cursor1 = ap (λ (s : SymState). s.cursor) entered.now

  structs03 : StructsGrow s0.heap s3.heap
  structs03 = subst (λ h. StructsGrow h s3.heap) heap1 (subst (StructsGrow s1.heap) (sym heap3) body.moves.structs)

  grown03 : (g : Graph) (e : Env) → HeapGrows g e s1.heap s2.heap → HeapGrows g e s0.heap s3.heap
  grown03 g e grown = subst (λ h. HeapGrows g e h s3.heap) heap1 (subst (HeapGrows g e s1.heap) (sym heap3) grown)

  module _ {g : Graph} {e : Env} (l : IsLater x d3 g e) where
    l2 : IsLater y d2 g e
    l2 = later d2 g e (later_keeps left.keeps l)

    l1 : IsLater y d1 g e
    l1 = later_keeps body.moves.keeps l2

    was_path : bool_value g e caller.path ≡ bool_value g e s0.path
    was_path = ap (λ (c : Caller). bool_value g e c.path) entered.was

    was_failed : bool_value g e caller.failed ≡ bool_value g e s0.failed
    was_failed = ap (λ (c : Caller). bool_value g e c.failed) entered.was

    was_skipped : bool_value g e caller.skipped ≡ bool_value g e s0.skipped
    was_skipped = ap (λ (c : Caller). bool_value g e c.skipped) entered.was

    path1 : bool_value g e s1.path ≡ bool_value g e s0.path
    path1 = ap (λ (s : SymState). bool_value g e s.path) entered.now

    behind : GoesOnBehind g e caller s2 s3.path
    behind = left.path g e l.grows

    -- where the caller is not
    nowhere : bool_value g e s0.path ≡ false → Stays g e s0 s3
    nowhere p =
        let stays = body.moves.stays g e l2 (path1 ∙ p) in
        record {
          path = behind.off (was_path ∙ p) stays.path (stays.rest.returned ∙ entered.fresh g e l1.grows);
          rest = record {
            failed = ap (bool_value g e) failed3 ∙ stays.rest.failed ∙ ap (λ (s : SymState). bool_value g e s.failed) entered.now;
            skipped = ap (bool_value g e) skipped3 ∙ stays.rest.skipped ∙ ap (λ (s : SymState). bool_value g e s.skipped) entered.now;
            returned = ap (λ (f : Frame). bool_value g e f.returned) frame3;
            cost = ap (cost_value g e) cost3 ∙ stays.rest.cost ∙ ap (λ (s : SymState). cost_value g e s.cost) entered.now;
            heap = λ t. ap (heap_value g e) heap3 ∙ stays.rest.heap (subst (HeapLive g e) (sym heap1) t) ∙ ap (heap_value g e) heap1;
            lives = λ t. subst (HeapLive g e) (sym heap3) (stays.rest.lives (subst (HeapLive g e) (sym heap1) t));
            ended = λ v refs t. subst (λ (f : Frame). EndedIs g e s3.heap f.ended v refs) (sym frame3) (ended_grown g e (grown03 g e (alike_grows g e stays.rest.holds)) s0.frame.ended v refs t);
            holds = subst (λ h. HoldAlike g e h s3.heap) heap1 (subst (HoldAlike g e s1.heap) (sym heap3) stays.rest.holds);
            most = omega (arith, ap (λ (f : Frame). f.most) frame3);
          };
        }

    -- the cursor behind the call
    here_free : bool_value g e s2.path ≡ true → AreFree g e s2.heap s2.cursor → AreFree g e s3.heap s3.cursor
    here_free p free = subst (λ h. AreFree g e h s3.cursor) (sym heap3) (free_more g e (left.cursor.here g e l.grows p) free)

    back_free : AreFree g e s2.heap s2.frame.most → AreFree g e s3.heap s3.cursor
    back_free free = subst (λ h. AreFree g e h s3.cursor) (sym heap3) (free_more g e left.cursor.back free)

    -- whatever the state of before
    here1 : IsHere g e s0 → IsHere g e s1
    here1 h = record {
      path = path1 ∙ h.path;
      failed = ap (λ (s : SymState). bool_value g e s.failed) entered.now ∙ h.failed;
      skipped = ap (λ (s : SymState). bool_value g e s.skipped) entered.now ∙ h.skipped;
      returned = entered.fresh g e l1.grows;
      free = subst (λ n. AreFree g e s1.heap n) (sym cursor1) (subst (λ h. AreFree g e h s0.cursor) (sym heap1) h.free);
    }

    comes : IsHere g e s0 → Comes g e s0 s3
    comes h = let body_comes = body.moves.comes g e l2 (here1 h) in record { grown = grown03 g e body_comes.grown; is = by body_comes.is }
      where
        returned_now : bool_value g e s3.frame.returned ≡ false
        returned_now = ap (λ (f : Frame). bool_value g e f.returned) frame3 ∙ h.returned

        by : IsOutcome g e s2 → IsOutcome g e s3
        by (inl k) = inl (record { path = behind.here (was_path ∙ h.path) k.path; failed = ap (bool_value g e) failed3 ∙ k.failed; skipped = ap (bool_value g e) skipped3 ∙ k.skipped; returned = returned_now; free = here_free k.path k.free })
        by (inr (inl k)) = inl (record { path = behind.back (was_path ∙ h.path) k.returned; failed = ap (bool_value g e) failed3 ∙ k.failed; skipped = ap (bool_value g e) skipped3 ∙ k.skipped; returned = returned_now; free = back_free k.free })
        by (inr (inr (inl k))) = inr (inr (inl (record { path = behind.failed (was_failed ∙ h.failed) k.failed k.path k.returned; failed = ap (bool_value g e) failed3 ∙ k.failed; skipped = ap (bool_value g e) skipped3 ∙ k.skipped; returned = returned_now })))
        by (inr (inr (inr k))) = inr (inr (inr (record { path = behind.skipped (was_skipped ∙ h.skipped) k.skipped k.path k.returned; failed = ap (bool_value g e) failed3 ∙ k.failed; skipped = ap (bool_value g e) skipped3 ∙ k.skipped; returned = returned_now })))

    module _ {at : State} (shows : Shows g e s0 at) where
      begins : (vs : List Value) → AreWorth g e s0.heap args vs → Shows g e s1 (record at { slots = first_slots y.fun.now vs })
      begins vs worth =
          let front : AreFrontOf g e s0.heap args (first_slots y.fun.now vs) = record { behind = replicate (y.fun.now.slots - length vs) blank; whole = ap (λ l. l ++ replicate (y.fun.now.slots - length vs) blank) (sym worth.value); live = worth.live } in
          record {
            path = path1 ∙ shows.path;
            failed = ap (λ (s : SymState). bool_value g e s.failed) entered.now ∙ shows.failed;
            skipped = ap (λ (s : SymState). bool_value g e s.skipped) entered.now ∙ shows.skipped;
            returned = entered.fresh g e l1.grows;
            cost = ap (λ (s : SymState). cost_value g e s.cost) entered.now ∙ shows.cost;
            heap = ap (heap_value g e) heap1 ∙ shows.heap;
            lives = subst (HeapLive g e) (sym heap1) shows.lives;
            slots = subst (λ (s : SymState). AreFrontOf g e s.heap s.frame.slots (first_slots y.fun.now vs)) (sym entered.now) front;
            free = (here1 (here_of shows)).free;
          }

      returned3 : bool_value g e s3.frame.returned ≡ false
      returned3 = ap (λ (f : Frame). bool_value g e f.returned) frame3 ∙ shows.returned

      front3 : AreFrontOf g e s3.heap s3.frame.slots at.slots
      front3 = subst (λ (f : Frame). AreFrontOf g e s3.heap f.slots at.slots) (sym frame3) (front_grown g e (grown03 g e (body.moves.comes g e l2 (here1 (here_of shows))).grown) shows.slots)

      abbrev Gives : Called → Type 0
      Gives called = EndedIs g e s3.heap (Some r) called.result called.refs

      ends : (t : Step Flow) → SeesFlow g e y.fun.now s2 t → Sees g e s3 Gives (and_then t (λ flow end. Goes (record { result = result_of y.fun.now.result flow; refs = refs_from 0 y.fun.now.params end.slots }) (record end { slots = at.slots })))
      ends (Goes Onward end) h = record {
        shows = record {
          path = behind.here (was_path ∙ shows.path) h.path;
          failed = ap (bool_value g e) failed3 ∙ h.failed;
          skipped = ap (bool_value g e) skipped3 ∙ h.skipped;
          returned = returned3;
          cost = ap (cost_value g e) cost3 ∙ h.cost;
          heap = ap (heap_value g e) heap3 ∙ h.heap;
          lives = subst (HeapLive g e) (sym heap3) h.lives;
          slots = front3;
          free = here_free h.path h.free;
        };
        is = left.given.here g e s3.heap end.slots l.grows h.path h.returned (subst (λ heap. AreFrontOf g e heap s2.frame.slots end.slots) (sym heap3) h.slots);
      }
      ends (Goes (Returns v) end) h = record {
        shows = record {
          path = behind.back (was_path ∙ shows.path) h.returned;
          failed = ap (bool_value g e) failed3 ∙ h.failed;
          skipped = ap (bool_value g e) skipped3 ∙ h.skipped;
          returned = returned3;
          cost = ap (cost_value g e) cost3 ∙ h.cost;
          heap = ap (heap_value g e) heap3 ∙ h.heap;
          lives = subst (HeapLive g e) (sym heap3) h.lives;
          slots = front3;
          free = back_free h.free;
        };
        is = left.given.before g e s3.heap (result_of y.fun.now.result (Returns v)) (refs_from 0 y.fun.now.params end.slots) l.grows h.returned (subst (λ heap. EndedIs g e heap s2.frame.ended (result_of y.fun.now.result (Returns v)) (refs_from 0 y.fun.now.params end.slots)) (sym heap3) h.ended);
      }
      ends (Fails span) h = record {
        path = behind.failed (was_failed ∙ shows.failed) h.failed h.path h.returned;
        failed = ap (bool_value g e) failed3 ∙ h.failed;
        skipped = ap (bool_value g e) skipped3 ∙ h.skipped;
        returned = returned3;
      }
      ends (Skips span) h = record {
        path = behind.skipped (was_skipped ∙ shows.skipped) h.skipped h.path h.returned;
        failed = ap (bool_value g e) failed3 ∙ h.failed;
        skipped = ap (bool_value g e) skipped3 ∙ h.skipped;
        returned = returned3;
      }

  -- what a call does that is entered, does its body and is left
  pub call_does : DoesOn x d0 d3 s0 s3 (λ g e vs. AreWorth g e s0.heap args vs) (λ g e called. EndedIs g e s3.heap (Some r) called.result called.refs) (λ e vs. in_frame y.fun.now vs (m e))
  call_does = record {
    moves = record {
      keeps = Keeps-trans entered.keeps (Keeps-trans body.moves.keeps left.keeps);
      stands = left.stands;
      structs = structs03;
      comes = λ g e l h. comes l h;
      stays = λ g e l p. nowhere l p;
    };
    runs = λ g e vs at l worth shows. ends l shows (m e (record at { slots = first_slots y.fun.now vs })) (body.runs g e (record at { slots = first_slots y.fun.now vs }) (l2 l) (begins l shows vs worth));
  }

-- ---- the cursor behind a call

pub after_returns : {d : Graph} {path : BoolId} {cursor most : ℕ} → ((g : Graph) → Grows d g → (e : Env) → bool_value g e path ≡ false) → IsCursorAfter d path cursor most most
after_returns off = record { here = λ g e more p. absurd (true≢false (sym p ∙ off g more e)); back = omega arith; one = inr refl }

pub after_both : {d : Graph} {path : BoolId} {cursor most r : ℕ} → cursor ≤ r → most ≤ r → (r ≡ cursor) ⊎ (r ≡ most) → IsCursorAfter d path cursor most r
after_both a b one = record { here = λ g e more p. a; back = b; one = one }

pub ruleset after = (after_returns, after_both)
