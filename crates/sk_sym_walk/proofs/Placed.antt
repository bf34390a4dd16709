-- What the targets of assignments may name, and assignments.
use Rattle.std.proofs.Common.{◌≡◌, ℕ, suc, ◌+◌, ◌-◌, List, map, Option, true, false, refl, sym, ap, subst, ◌∙◌, arith}
use Rattle.std.specs.Prelude.{nat_lt, not}
use Rattle.sk_base.specs.declared.span.Span.{Span}
use Rattle.sk_dag.specs.declared.env.Env.{Env}
use Rattle.sk_dag.specs.declared.node.BoolId.{BoolId}
use Rattle.sk_dag.specs.declared.shape.Shape.{Shape}
use Rattle.sk_dag.specs.Graph.{Graph, Grows, HasBool, BoolSort}
use Rattle.sk_dag.specs.Eval.{bool_value, Keeps}
use Rattle.sk_dag.proofs.EvalLemmas.{Keeps-trans}
use Rattle.sk_heap.specs.declared.slot.Slot.{Slot}
use Rattle.sk_prog.specs.declared.ty.Ty.{Ty}
use Rattle.sk_prog.specs.declared.value.Value.{Value}
use Rattle.sk_prog.specs.declared.value.Value.TheVariants as value
use Rattle.sk_prog.specs.declared.expr.PExpr.{PExpr}
use Rattle.sk_prog.specs.declared.expr.PEForm.TheVariants as eform
use Rattle.sk_model.specs.Parts.{Part, value as value_of}
use Rattle.sk_model.specs.Step.{Step, Goes, Fails, Skips, Comp, and_then, ◌>>=◌, pure}
use Rattle.sk_model.specs.Heap as model
use Rattle.sk_model.specs.Eval.{Does}
use Rattle.sk_model.specs.Exec.{Flow, Onward, assign, onward}
use Rattle.sk_model.proofs.Layers.{layer_pattern}
use Rattle.sk_sym_state.specs.declared.branch.Side.{Side}
use Rattle.sk_sym_state.specs.declared.state.SymState.{SymState}
use Rattle.sk_sym_state.specs.Stands.{StateStands}
use Rattle.sk_sym_state.specs.Shows.{Sees}
use Rattle.sk_sym_state.specs.Branching.{IsBit, IsForked, AreTurned, AreJoined}
use Rattle.sk_sym_state.specs.Meaning.{IsLater, choice_at, ExecutesOn}
use Rattle.sk_sym_state.proofs.Branches.{branch_does}
use Rattle.sk_sym_state.proofs.Carrying.{Moves-trans, later_keeps}
use Rattle.sk_sym_state.proofs.Ends.{moves_none, does_same, executes_same}
use Rattle.sk_sym_state.proofs.Following.{executes_on, does_beside}
use Rattle.sk_sym_places.specs.Location.{Location}
use Rattle.sk_sym_places.specs.Locations.{LocationIs}
use Rattle.sk_sym_places.proofs.Locating.{LocationIs-grown}
use Rattle.sk_sym_places.specs.declared.place.Place.{Place}
use Rattle.sk_sym_places.specs.declared.place.Place.TheVariants.{One, Either}
use Rattle.sk_sym_places.specs.Places.{location_in, PlaceIs, IsPut}
use Rattle.sk_sym_places.proofs.Places.{PlaceStands-keeps, one_stands, either_stands, location_one, location_first, location_second}
use Rattle.sk_sym_walk.specs.declared.activation.Activation.{Activation}
use Rattle.sk_sym_walk.specs.Walk.{values_at, expr_part, eval_part}
use Rattle.sk_sym_walk.specs.Parts.{either_part, IsEvaluated, IsExecuted}
use Rattle.sk_sym_walk.specs.Targets.{target_part, assign_part, IsLocated, IsPlaced, IsPlacedOn}
use Rattle.sk_sym_walk.specs.Patterns.{AreExprs, target_at, strings_target, string_target, pattern_target}
use Rattle.sk_sym_walk.proofs.Sequences.{SamePart, same_part, behind_as, does_more}
use Rattle.sk_sym_walk.proofs.Patterns.{step, field_step, picked}

pub placed_as : {a : Activation} {d0 d1 : Graph} {s0 s1 : SymState} {i j : ℕ} {p q : Env → Part (Comp model.Location)} {l : Place} → SamePart p q → IsPlaced a d0 d1 s0 s1 i j p l → IsPlaced a d0 d1 s0 s1 i j q l
placed_as {i = i} same h = record {
  places = record { does = does_same (λ e at. same.at e i at) h.places.does; there = h.places.there };
  place = behind_as same h.place;
}

place_is : {g : Graph} {e : Env} {heap : List Slot} {l : Location} {at : model.Location} (p : Place) → location_in g e p ≡ l → LocationIs g e heap l at → PlaceIs g e heap p at
place_is {g} {e} {heap} {at = at} p is h = subst (λ l. LocationIs g e heap l at) (sym is) h

-- a target that is no pattern
pub one_placed : {a : Activation} {d0 d1 : Graph} {s0 s1 : SymState} {i j : ℕ} {part : Env → Part (Comp model.Location)} {l : Location} → IsLocated a d0 d1 s0 s1 i j part l → IsPlaced a d0 d1 s0 s1 i j part (One l)
one_placed {l = l} h = record {
  places = record { does = does_more (λ g e at is. place_is (One l) (location_one g e l) is) h.locates.does; there = one_stands h.locates.there };
  place = h.place;
}

-- ---- strings

pub same_pattern_target : (a : Activation) (span : Span) (x : PExpr) (ys : List PExpr) → x.form ≡ eform.Pattern ys → SamePart (pattern_target a span ys) (target_part a span x)
same_pattern_target a span x ys is = same_part (λ env.
    ap (λ f. target_part a span (record { span = x.span; ty = x.ty; form = f }) env) is
    ∙ ap (λ (p : Part Does). record { count = p.count; at = λ i. (p.at i).target span }) (layer_pattern (Option Ty → Part Does) (Part Does) (Part (ℕ × Does)) (step a span x env) (λ e. e.form e.ty) (field_step a span x env) x.span x.ty ys))

-- the site, and the strings behind it
pub pattern_placed : {a : Activation} {d0 d1 : Graph} {s0 s1 : SymState} {i j k : ℕ} {p : Place} (span : Span) (xs : List PExpr) → j ≡ i + 1 → IsPlaced a d0 d1 s0 s1 j k (strings_target a span i 0 xs) p → IsPlaced a d0 d1 s0 s1 i k (pattern_target a span xs) p
pattern_placed {a} {i = i} {j = j} span xs next h =
    let behind : suc i ≡ j = omega (arith, next) in
    record {
      places = record {
        does = does_same (λ e s.
            let whole : value_of (values_at a e) i ≡ value_of (values_at a e) i - 0 = omega arith in
            ap (λ n. target_at a span xs n (suc i) e s) whole ∙ ap (λ n. target_at a span xs (value_of (values_at a e) i - 0) n e s) behind) h.places.does;
        there = h.places.there;
      };
      place = record { place = λ e. omega (arith, next, h.place.place e) };
    }

-- strings by a bit that says whether the value of a site is at most the number of the first
pub strings_placed : {a : Activation} {d0 d1 d2 : Graph} {s0 s1 : SymState} {i j : ℕ} {p : Place} {list : List PExpr} {x : PExpr} {xs : List PExpr} (here : BoolId) (span : Span) (site k next : ℕ) → AreExprs list x xs → next ≡ k + 1 → StateStands d0 a.setting.expanded.now.prog s0 → Keeps d0 d1 → ((g : Graph) (e : Env) → IsLater a.setting d1 g e → bool_value g e here ≡ not (nat_lt k (value_of (choice_at a.setting e).values site))) → IsPlacedOn a d1 d2 s0 s1 i j (IsBit here) (string_target a span site next x xs) p → IsPlaced a d0 d2 s0 s1 i j (strings_target a span site k list) p
strings_placed {a} {d0} {d1} {d2} {s0} {s1} {i} {j} {p} {list} {x} {xs} here span site k next front behind stands keeps known h =
    let after : next ≡ suc k = omega (arith, behind) in
    let on = subst (λ n. IsPlacedOn a d1 d2 s0 s1 i j (IsBit here) (string_target a span site n x xs) p) after h in
    subst (λ ys. IsPlaced a d0 d2 s0 s1 i j (strings_target a span site k ys) p) (sym front.front) (record {
      places = record {
        does = record {
          moves = Moves-trans (moves_none keeps stands) on.does.moves;
          runs = λ g e at l shows. subst (λ t. Sees g e s1 (PlaceIs g e s1.heap p) t) (sym (picked (λ d. d.target span) span (expr_part a x e) (map (λ y. expr_part a y e) xs) (value_of (values_at a e) site) k i at)) (on.does.runs g e (value.Bit (not (nat_lt k (value_of (values_at a e) site)))) at l (ap (λ b. value.Bit b) (sym (known g e (later_keeps on.does.moves.keeps l)))) shows);
        };
        there = on.there;
      };
      place = record { place = λ e. omega (arith, on.place.place e) };
    })

-- ---- one string or another, by a bit

module _ {a : Activation} {d0 d1 : Graph} {s0 s1 : SymState} (span : Span) (c : BoolId) (p q : Env → Part (Comp model.Location)) {l : Place} where
  pub first_placed : {i j k : ℕ} → ((g : Graph) → Grows d1 g → (e : Env) → bool_value g e c ≡ true) → IsPlaced a d0 d1 s0 s1 i j p l → ((e : Env) → k ≡ j + (q e).count) → IsPlacedOn a d0 d1 s0 s1 i k (IsBit c) (either_part span p q) l
  first_placed {i} known h place = record {
    does = record {
      moves = h.places.does.moves;
      runs = λ g e v at later is shows. subst (λ v. Sees g e s1 (PlaceIs g e s1.heap l) ((either_part span p q e).at i v at)) (sym (is ∙ ap (λ b. value.Bit b) (known g later.grows e))) (h.places.does.runs g e at later shows);
    };
    there = h.places.there;
    place = record { place = λ e. omega (arith, h.place.place e, place e) };
  }

  pub second_placed : {i j k : ℕ} → ((g : Graph) → Grows d1 g → (e : Env) → bool_value g e c ≡ false) → ((e : Env) → j ≡ i + (p e).count) → IsPlaced a d0 d1 s0 s1 j k q l → IsPlacedOn a d0 d1 s0 s1 i k (IsBit c) (either_part span p q) l
  second_placed {i} known place h = record {
    does = record {
      moves = h.places.does.moves;
      runs = λ g e v at later is shows. subst (λ v. Sees g e s1 (PlaceIs g e s1.heap l) ((either_part span p q e).at i v at)) (sym (is ∙ ap (λ b. value.Bit b) (known g later.grows e))) (subst (λ n. Sees g e s1 (PlaceIs g e s1.heap l) ((q e).at n at)) (place e) (h.places.does.runs g e at later shows));
    };
    there = h.places.there;
    place = record { place = λ e. omega (arith, h.place.place e, place e) };
  }

-- both of them
pub both_placed : {a : Activation} {d1 d2 d3 d4 d5 : Graph} {s1 s2 s3 s4 s5 s6 : SymState} {cond : BoolId} {waits gone : Side} {i j k : ℕ} {p q : Env → Part (Comp model.Location)} {x y made : Place} (span : Span) → HasBool d1.nodes cond → IsForked a.setting d1 d2 s1 s2 cond waits → IsPlaced a d2 d3 s2 s3 i j p x → AreTurned s3 s4 waits gone → IsPlaced a d3 d4 s4 s5 j k q y → AreJoined a.setting d4 d5 s5 s6 cond gone → made ≡ Either cond x y → IsPlacedOn a d1 d5 s1 s6 i k (IsBit cond) (either_part span p q) made
both_placed {a} {d1} {d5 = d5} {s1} {s6 = s6} {cond} {i = i} {k = k} {p = p} {q = q} {x} {y} span c forked first turned second joined is = subst (λ z. IsPlacedOn a d1 d5 s1 s6 i k (IsBit cond) (either_part span p q) z) (sym is) (record {
  does = branch_does span forked first.places.does turned (does_same (λ e s. ap (λ n. (q e).at n s) (sym (first.place.place e))) second.places.does) joined
      (λ g e at l b grown h. place_is (Either cond x y) (location_first g e cond x y b) (LocationIs-grown grown h))
      (λ g e at l b grown h. place_is (Either cond x y) (location_second g e cond x y b) (LocationIs-grown grown h));
  there = either_stands (whole.sorts _ BoolSort c) (PlaceStands-keeps (Keeps-trans second.places.does.moves.keeps joined.keeps) first.places.there) (PlaceStands-keeps joined.keeps second.places.there);
  place = record { place = λ e. omega (arith, first.place.place e, second.place.place e) };
})
  where
    whole : Keeps d1 d5
    whole = Keeps-trans forked.keeps (Keeps-trans first.places.does.moves.keeps (Keeps-trans second.places.does.moves.keeps joined.keeps))

-- ---- assignments

abbrev onward_of : Unit {0} → Comp Flow
onward_of u = pure Onward

stored_inside : (span : Span) (location : model.Location) (t : Step Value) → and_then (and_then t (model.store span location)) onward_of ≡ and_then (and_then t (λ v. pure (location, v))) (λ (p : model.Location × Value). onward (model.store span p.0 p.1))
stored_inside span location (Goes v at) = refl
stored_inside span location (Fails t) = refl
stored_inside span location (Skips t) = refl

stored : (span : Span) (t : Step model.Location) (n : Comp Value) → and_then (and_then t (λ location. n >>= model.store span location)) onward_of ≡ and_then (and_then t (λ location. n >>= (λ v. pure (location, v)))) (λ (p : model.Location × Value). onward (model.store span p.0 p.1))
stored span (Goes location at) n = stored_inside span location (n at)
stored span (Fails t) n = refl
stored span (Skips t) n = refl

-- the parts of the target, the value, and what is stored
pub assigned : {a : Activation} {d0 d1 d2 d3 : Graph} {s0 s1 s2 s3 : SymState} {i j k : ℕ} {p : Place} {r : Shape} (span : Span) (x y : PExpr) → IsPlaced a d0 d1 s0 s1 i j (target_part a span x) p → IsEvaluated a d1 d2 s1 s2 j k (eval_part a span y) r → ExecutesOn a.setting d2 d3 s2 s3 (IsPut s2.heap p r) (λ e q. onward (model.store span q.0 q.1)) → IsExecuted a d0 d3 s0 s3 i k (assign_part a span x y)
assigned {a} {i = i} {j = j} span x y first second on = record {
  executes = executes_same (λ e at.
      ap (λ n. assign span ((expr_part a x e).at i) ((expr_part a y e).at n) at) (sym (first.place.place e))
      ∙ stored span ((target_part a span x e).at i at) ((eval_part a span y e).at j))
      (executes_on (does_beside first.places.does second.evaluates.does (λ g e location later grown h. LocationIs-grown grown h)) on);
  place = record { place = λ e. omega (arith, first.place.place e, second.place.place e) };
}
