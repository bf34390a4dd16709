-- One part or another, by a bit.
use Rattle.std.proofs.Common.{◌≡◌, ℕ, ◌+◌, List, Bool, true, false, refl, sym, ap, subst, ◌∙◌, arith, ◌&&◌, ◌||◌}
use Rattle.std.specs.Prelude.{not, if◌then◌else◌}
use Rattle.sk_base.specs.declared.span.Span.{Span}
use Rattle.sk_dag.specs.declared.env.Env.{Env}
use Rattle.sk_dag.specs.declared.node.BoolId.{BoolId}
use Rattle.sk_dag.specs.declared.shape.Shape.{Shape}
use Rattle.sk_dag.specs.declared.shape.Shape.TheVariants as shape
use Rattle.sk_dag.specs.Graph.{Graph, Grows, HasBool}
use Rattle.sk_dag.specs.Eval.{bool_value, Keeps}
use Rattle.sk_dag.specs.EvalShape.{shape_value}
use Rattle.sk_arr.specs.Shapes.{Stands}
use Rattle.sk_arr.proofs.Makers.{Keeps-refl}
use Rattle.sk_prog.specs.declared.value.Value.{Value}
use Rattle.sk_prog.specs.declared.value.Value.TheVariants as value
use Rattle.sk_model.specs.Parts.{Part}
use Rattle.sk_model.specs.Step.{State, Comp, pure}
use Rattle.sk_model.specs.Exec.{Flow}
use Rattle.sk_sym_state.specs.declared.branch.Side.{Side}
use Rattle.sk_sym_state.specs.declared.setting.Setting.{Setting}
use Rattle.sk_sym_state.specs.declared.state.SymState.{SymState}
use Rattle.sk_sym_state.specs.Seen.{IsWorth}
use Rattle.sk_sym_state.specs.Stands.{StateStands}
use Rattle.sk_sym_state.specs.Shows.{Shows, Sees, SeesFlow}
use Rattle.sk_sym_state.specs.Branching.{IsBit, IsForked, AreTurned, AreJoined}
use Rattle.sk_sym_state.specs.Meaning.{IsLater, Moves, Does, DoesOn}
use Rattle.sk_sym_state.proofs.Worth.{IsWorth-grown}
use Rattle.sk_sym_state.proofs.Branches.{branch_executes, branch_does}
use Rattle.sk_sym_state.proofs.Standing.{StateStands-keeps}
use Rattle.sk_sym_state.proofs.Carrying.{Moves-trans, later_keeps}
use Rattle.sk_sym_state.proofs.Ends.{moves_none, does_same, executes_same}
use Rattle.sk_sym_walk.specs.declared.activation.Activation.{Activation}
use Rattle.sk_sym_walk.specs.Parts.{either_part, given, IsEvaluated, IsEvaluatedOn, IsExecuted, IsExecutedOn, IsBoth, IsGuarded, AreJoinedWith}
use Rattle.sk_sym_walk.proofs.Sequences.{worth_same, bit_worth, worth_bit, sees_more, does_kept}

-- ---- a bit that is known

module _ {a : Activation} {d0 d1 : Graph} {s0 s1 : SymState} (span : Span) (c : BoolId) where
  module _ (p q : Env → Part (Comp Value)) {r : Shape} where
    pub first_evaluated : {i j k : ℕ} → ((g : Graph) → Grows d1 g → (e : Env) → bool_value g e c ≡ true) → IsEvaluated a d0 d1 s0 s1 i j p r → ((e : Env) → k ≡ j + (q e).count) → IsEvaluatedOn a d0 d1 s0 s1 i k (IsBit c) (either_part span p q) r
    first_evaluated {i} known h place = record {
      evaluates = record {
        does = record {
          moves = h.evaluates.does.moves;
          runs = λ g e v at l is shows. subst (λ v. Sees g e s1 (IsWorth g e s1.heap r) ((either_part span p q e).at i v at)) (sym (is ∙ ap (λ b. value.Bit b) (known g l.grows e))) (h.evaluates.does.runs g e at l shows);
        };
        there = h.evaluates.there;
      };
      place = record { place = λ e. omega (arith, h.place.place e, place e) };
    }

    pub second_evaluated : {i j k : ℕ} → ((g : Graph) → Grows d1 g → (e : Env) → bool_value g e c ≡ false) → ((e : Env) → j ≡ i + (p e).count) → IsEvaluated a d0 d1 s0 s1 j k q r → IsEvaluatedOn a d0 d1 s0 s1 i k (IsBit c) (either_part span p q) r
    second_evaluated {i} known place h = record {
      evaluates = record {
        does = record {
          moves = h.evaluates.does.moves;
          runs = λ g e v at l is shows. subst (λ v. Sees g e s1 (IsWorth g e s1.heap r) ((either_part span p q e).at i v at)) (sym (is ∙ ap (λ b. value.Bit b) (known g l.grows e))) (subst (λ n. Sees g e s1 (IsWorth g e s1.heap r) ((q e).at n at)) (place e) (h.evaluates.does.runs g e at l shows));
        };
        there = h.evaluates.there;
      };
      place = record { place = λ e. omega (arith, h.place.place e, place e) };
    }

  module _ (p q : Env → Part (Comp Flow)) where
    pub first_executed : {i j k : ℕ} → ((g : Graph) → Grows d1 g → (e : Env) → bool_value g e c ≡ true) → IsExecuted a d0 d1 s0 s1 i j p → ((e : Env) → k ≡ j + (q e).count) → IsExecutedOn a d0 d1 s0 s1 i k (IsBit c) (either_part span p q)
    first_executed {i} known h place = record {
      executes = record {
        moves = h.executes.moves;
        runs = λ g e v at l is shows. subst (λ v. SeesFlow g e a.setting.fun.now s1 ((either_part span p q e).at i v at)) (sym (is ∙ ap (λ b. value.Bit b) (known g l.grows e))) (h.executes.runs g e at l shows);
      };
      place = record { place = λ e. omega (arith, h.place.place e, place e) };
    }

    pub second_executed : {i j k : ℕ} → ((g : Graph) → Grows d1 g → (e : Env) → bool_value g e c ≡ false) → ((e : Env) → j ≡ i + (p e).count) → IsExecuted a d0 d1 s0 s1 j k q → IsExecutedOn a d0 d1 s0 s1 i k (IsBit c) (either_part span p q)
    second_executed {i} known place h = record {
      executes = record {
        moves = h.executes.moves;
        runs = λ g e v at l is shows. subst (λ v. SeesFlow g e a.setting.fun.now s1 ((either_part span p q e).at i v at)) (sym (is ∙ ap (λ b. value.Bit b) (known g l.grows e))) (subst (λ n. SeesFlow g e a.setting.fun.now s1 ((q e).at n at)) (place e) (h.executes.runs g e at l shows));
      };
      place = record { place = λ e. omega (arith, h.place.place e, place e) };
    }

-- ---- both ways

AreJoined-keeps : {x : Setting} {d0 d1 d2 : Graph} {s0 s1 : SymState} {cond : BoolId} {gone : Side} → AreJoined x d0 d1 s0 s1 cond gone → (k : Keeps d1 d2) → Keeps d0 d2 → AreJoined x d0 d2 s0 s1 cond gone
AreJoined-keeps h k whole = record {
  keeps = whole;
  along = h.along;
  stands = StateStands-keeps k h.stands;
  path = λ g e more. h.path g e (k.later g more);
  first = λ g e values more. h.first g e values (k.later g more);
  second = λ g e values more. h.second g e values (k.later g more);
  cursor = record { first = λ g e more. h.cursor.first g e (k.later g more); second = λ g e more. h.cursor.second g e (k.later g more); one = h.cursor.one };
}

pub joined_kept : {x : Setting} {d0 d1 d2 : Graph} {s0 s1 : SymState} {cond : BoolId} {gone : Side} → AreJoined x d0 d1 s0 s1 cond gone → Keeps d1 d2 → Keeps d0 d2 → AreJoined x d0 d2 s0 s1 cond gone
joined_kept h k whole = AreJoined-keeps h k whole

module _ {a : Activation} {d1 d2 d3 d4 d5 : Graph} {s1 s2 s3 s4 s5 s6 : SymState} {cond : BoolId} {waits gone : Side} {i j k : ℕ} (span : Span) where
  pub both_executed : {p q : Env → Part (Comp Flow)} → IsForked a.setting d1 d2 s1 s2 cond waits → IsExecuted a d2 d3 s2 s3 i j p → AreTurned s3 s4 waits gone → IsExecuted a d3 d4 s4 s5 j k q → AreJoined a.setting d4 d5 s5 s6 cond gone → IsExecutedOn a d1 d5 s1 s6 i k (IsBit cond) (either_part span p q)
  both_executed {p} {q} forked first turned second joined = record {
    executes = branch_executes span forked first.executes turned (executes_same (λ e s. ap (λ n. (q e).at n s) (sym (first.place.place e))) second.executes) joined;
    place = record { place = λ e. omega (arith, first.place.place e, second.place.place e) };
  }

  pub both_evaluated : {p q : Env → Part (Comp Value)} {x y r : Shape} → IsForked a.setting d1 d2 s1 s2 cond waits → IsEvaluated a d2 d3 s2 s3 i j p x → AreTurned s3 s4 waits gone → IsEvaluated a d3 d4 s4 s5 j k q y → AreJoinedWith a.setting d4 d5 s5 s6 cond gone x y r → IsEvaluatedOn a d1 d5 s1 s6 i k (IsBit cond) (either_part span p q) r
  both_evaluated {p} {q} {x} {y} {r} forked first turned second with = record {
    evaluates = record {
      does = branch_does span forked first.evaluates.does turned (does_same (λ e s. ap (λ n. (q e).at n s) (sym (first.place.place e))) second.evaluates.does) with.joined
          (λ g e v l c grown w. worth_same (with.choice.value g l.grows e ∙ ap (λ b. if b then shape_value g e x else shape_value g e y) c) (IsWorth-grown grown w))
          (λ g e v l c grown w. worth_same (with.choice.value g l.grows e ∙ ap (λ b. if b then shape_value g e x else shape_value g e y) c) (IsWorth-grown grown w));
      there = with.choice.stands;
    };
    place = record { place = λ e. omega (arith, first.place.place e, second.place.place e) };
  }

-- a bit that is evaluated where a condition holds
pub guarded_is : {a : Activation} {d1 d2 d3 d4 : Graph} {s1 s2 s3 s4 s5 : SymState} {cond y : BoolId} {waits gone : Side} {i j : ℕ} (span : Span) {p : Env → Part (Comp Value)} → IsForked a.setting d1 d2 s1 s2 cond waits → IsEvaluated a d2 d3 s2 s3 i j p (shape.Bit y) → AreTurned s3 s4 waits gone → StateStands d3 a.setting.expanded.now.prog s4 → AreJoined a.setting d3 d4 s4 s5 cond gone → HasBool d4.nodes y → IsGuarded a d1 d4 s1 s5 i j span cond p y
guarded_is {a} {d3 = d3} {s4 = s4} {cond = cond} {y = y} span {p} forked h turned stands joined there = record {
  does = branch_does span forked h.evaluates.does turned nothing joined
      (λ g e v l c grown w. bit_worth w ∙ ap (λ b. value.Bit (b && bool_value g e y)) (sym c))
      (λ g e v l c grown is. is ∙ ap (λ b. value.Bit (b && bool_value g e y)) (sym c));
  there = there;
  place = h.place;
}
  where
    nothing : Does a.setting d3 d3 s4 s4 (λ g e v. v ≡ value.Bit false) (λ e. pure (value.Bit false))
    nothing = record { moves = moves_none (Keeps-refl d3) stands; runs = λ g e at l shows. record { shows = shows; is = refl } }

module _ {a : Activation} {d0 d1 d2 : Graph} {s0 s1 : SymState} {i j : ℕ} (span : Span) {cond y r : BoolId} {p : Env → Part (Comp Value)} where
  -- `&&`
  pub also_evaluated : IsGuarded a d0 d1 s0 s1 i j span cond p y → Keeps d1 d2 → Stands d2 (shape.Bit r) → ((g : Graph) → Grows d2 g → (e : Env) → bool_value g e r ≡ (bool_value g e cond && bool_value g e y)) → IsEvaluatedOn a d0 d2 s0 s1 i j (IsBit cond) (either_part span p (given false)) (shape.Bit r)
  also_evaluated h keeps stands is = record {
    evaluates = record { does = does_kept h.does keeps (λ g e v l both. worth_bit (both ∙ ap (λ b. value.Bit b) (sym (is g l.grows e)))); there = stands };
    place = record { place = λ e. omega (arith, h.place.place e) };
  }

module _ {a : Activation} {d0 d1 d2 : Graph} {s0 s1 : SymState} {i j : ℕ} (span : Span) (cond : BoolId) {y r : BoolId} {p : Env → Part (Comp Value)} where
  -- `||`
  pub otherwise_evaluated : {d3 : Graph} {other : BoolId} → Keeps d0 d1 → StateStands d0 a.setting.expanded.now.prog s0 → ((g : Graph) → Grows d1 g → (e : Env) → bool_value g e other ≡ not (bool_value g e cond))
      → IsGuarded a d1 d2 s0 s1 i j span other p y → Keeps d2 d3 → Stands d3 (shape.Bit r) → ((g : Graph) → Grows d3 g → (e : Env) → bool_value g e r ≡ (bool_value g e cond || bool_value g e y)) → IsEvaluatedOn a d0 d3 s0 s1 i j (IsBit cond) (either_part span (given true) p) (shape.Bit r)
  otherwise_evaluated {d3} {other} k0 stands0 opposite h keeps stands is = record {
    evaluates = record {
      does = record {
        moves = Moves-all;
        runs = λ g e v at l is' shows. subst (λ v. Sees g e s1 (IsWorth g e s1.heap (shape.Bit r)) ((either_part span (given true) p e).at i v at)) (sym is') (by g e at l shows (bool_value g e cond) refl);
      };
      there = stands;
    };
    place = record { place = λ e. omega (arith, h.place.place e) };
  }
    where
      kept : DoesOn a.setting d1 d3 s0 s1 (IsBit other) (IsBoth other y) (λ e. (either_part span p (given false) e).at i)
      kept = does_kept h.does keeps (λ g e v l both. both)

      Moves-all : Moves a.setting d0 d3 s0 s1
      Moves-all = Moves-trans (moves_none k0 stands0) kept.moves

      other_is : (g : Graph) (e : Env) → IsLater a.setting d3 g e → (b : Bool) → bool_value g e cond ≡ b → bool_value g e other ≡ not b
      other_is g e l b c = opposite g (later_keeps kept.moves.keeps l).grows e ∙ ap not c

      nought : i ≡ i + 0
      nought = omega arith

      by : (g : Graph) (e : Env) (at : State) → IsLater a.setting d3 g e → Shows g e s0 at → (b : Bool) → bool_value g e cond ≡ b → Sees g e s1 (IsWorth g e s1.heap (shape.Bit r)) ((either_part span (given true) p e).at i (value.Bit b) at)
      by g e at l shows true c =
          let seen = kept.runs g e (value.Bit false) at l (ap (λ b. value.Bit b) (sym (other_is g e l true c))) shows in
          record { shows = seen.shows; is = worth_bit (ap (λ b. value.Bit b) (sym (is g l.grows e ∙ ap (λ b. b || bool_value g e y) c))) }
      by g e at l shows false c =
          let o : bool_value g e other ≡ true = other_is g e l false c in
          sees_more g e s1 (λ v both. worth_bit (both ∙ ap (λ b. value.Bit (b && bool_value g e y)) o ∙ ap (λ b. value.Bit b) (sym (is g l.grows e ∙ ap (λ b. b || bool_value g e y) c)))) ((p e).at _ at)
          (subst (λ n. Sees g e s1 (IsBoth other y g e) ((p e).at n at)) nought (kept.runs g e (value.Bit true) at l (ap (λ b. value.Bit b) (sym o)) shows))
