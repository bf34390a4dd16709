-- Expressions one after another.
use Rattle.std.proofs.lemmas.List.Elements.{All-nil}
use Rattle.std.proofs.Common.{◌≡◌, List, [], ◌∷◌, ◌++◌, All, refl, sym, ap, subst, ◌∙◌}
use Rattle.sk_base.specs.declared.span.Span.{Span}
use Rattle.sk_dag.specs.declared.env.Env.{Env}
use Rattle.sk_dag.specs.declared.shape.Shape.{Shape}
use Rattle.sk_dag.specs.declared.shape.Shape.TheVariants as shape
use Rattle.sk_dag.specs.Graph.{Graph}
use Rattle.sk_dag.specs.EvalShape.{shape_value}
use Rattle.sk_arr.specs.Answers.{shapes_value}
use Rattle.sk_arr.proofs.Makers.{Keeps-refl}
use Rattle.sk_arr.proofs.Standing.{AllStand-keeps, array_stands}
use Rattle.sk_arr.proofs.Values.{map_push, all_push, stand_none, stand_push, value_array}
use Rattle.sk_heap.specs.declared.slot.Slot.{Slot}
use Rattle.sk_prog.specs.declared.value.Value.{Value}
use Rattle.sk_prog.specs.declared.value.Value.TheVariants as value
use Rattle.sk_model.specs.Step.{State, Step, Goes, Fails, Skips, Comp, and_then, ◌>>=◌, pure}
use Rattle.sk_model.specs.Eval.{Does as Meaning, in_order}
use Rattle.sk_heap_laws.specs.Values.{place_of, holds_in, value_of, value_in, IsLive}
use Rattle.sk_heap_laws.proofs.Parts.{of_array, live_array}
use Rattle.sk_heap_laws.proofs.Heaps.{values_are}
use Rattle.sk_sym_state.specs.declared.setting.Setting.{Setting}
use Rattle.sk_sym_state.specs.declared.state.SymState.{SymState}
use Rattle.sk_sym_state.specs.Seen.{IsWorth, AreWorth}
use Rattle.sk_sym_state.specs.Stands.{StateStands}
use Rattle.sk_sym_state.specs.Meaning.{Evaluates}
use Rattle.sk_sym_state.proofs.Worth.{AreWorth-grown}
use Rattle.sk_sym_state.proofs.Ends.{moves_none}
use Rattle.sk_sym_leaves.specs.Lists.{EvaluateAll}
use Rattle.sk_sym_leaves.proofs.Parts.{does_made, two_made}

module _ (g : Graph) (e : Env) (heap : List Slot) where
  pub worth_none : AreWorth g e heap [] []
  worth_none = record { value = refl; live = record { each = All-nil (IsLive (holds_in g e heap)) } }

  pub worth_push : {list : List Shape} {r : Shape} {vs : List Value} {v : Value} → AreWorth g e heap list vs → IsWorth g e heap r v → AreWorth g e heap (list ++ r ∷ []) (vs ++ v ∷ [])
  worth_push {list} {r} {vs} {v} are is = record {
    value = map_push (value_in g e heap) list r ∙ ap (λ l. l ++ value_in g e heap r ∷ []) are.value ∙ ap (λ w. vs ++ w ∷ []) is.value;
    live = record { each = subst (All (IsLive (holds_in g e heap))) (sym (map_push (shape_value g e) list r)) (all_push (IsLive (holds_in g e heap)) (shapes_value g e list) (shape_value g e r) are.live.each is.live) };
  }

  -- an array of them is worth the array of what they are worth
  pub array_worth : {list : List Shape} {vs : List Value} → AreWorth g e heap list vs → IsWorth g e heap (shape.Array list) (value.Array vs)
  array_worth {list} {vs} are = record {
    value = ap (value_of (place_of (holds_in g e heap))) (value_array g e list) ∙ of_array (place_of (holds_in g e heap)) (shapes_value g e list) ∙ ap (λ l. value.Array l) (sym (values_are g e heap list) ∙ are.value);
    live = subst (IsLive (holds_in g e heap)) (sym (value_array g e list)) (live_array (holds_in g e heap) (shapes_value g e list) are.live);
  }

-- none, and one more
pub none_evaluate : {x : Setting} {d : Graph} {s : SymState} → StateStands d x.expanded.now.prog s → EvaluateAll x d d s s [] (λ e. pure [])
none_evaluate {x} {d} {s} h = record {
  does = record { moves = moves_none (Keeps-refl d) h; runs = λ g e at l shows. record { shows = shows; is = worth_none g e s.heap } };
  there = stand_none d;
}

pub more_evaluate : {x : Setting} {d0 d1 d2 : Graph} {s0 s1 s2 : SymState} {list : List Shape} {r : Shape} {m : Env → Comp (List Value)} {n : Env → Comp Value} → EvaluateAll x d0 d1 s0 s1 list m → Evaluates x d1 d2 s1 s2 r n → EvaluateAll x d0 d2 s0 s2 (list ++ r ∷ []) (λ e. m e >>= (λ vs. n e >>= (λ v. pure (vs ++ v ∷ []))))
more_evaluate {s2 = s2} {list = list} {r = r} all one = record {
  does = two_made (λ vs v. vs ++ v ∷ []) (λ g e vs grown are. AreWorth-grown grown are) (λ g e vs v are is. worth_push g e s2.heap are is) all.does one.does;
  there = stand_push list r (AllStand-keeps one.does.moves.keeps all.there) one.there;
}

-- all of them as an array
pub array_evaluates : {x : Setting} {d0 d1 : Graph} {s0 s1 : SymState} {list : List Shape} {m : Env → Comp (List Value)} → EvaluateAll x d0 d1 s0 s1 list m → Evaluates x d0 d1 s0 s1 (shape.Array list) (λ e. m e >>= (λ vs. pure (value.Array vs)))
array_evaluates {d1 = d1} {s1 = s1} {list = list} all = record {
  does = does_made (λ vs. value.Array vs) (λ g e vs are. array_worth g e s1.heap are) all.does;
  there = array_stands d1 list all.there;
}

-- the last of them is done behind all others
pub in_order_push : (span : Span) (others : List Meaning) (last : Meaning) (s : State) → in_order span (others ++ last ∷ []) s ≡ and_then (in_order span others s) (λ vs. last.value span >>= (λ v. pure (vs ++ v ∷ [])))
in_order_push span [] last s = refl
in_order_push span (first ∷ others) last s =
    (λ i. and_then (first.value span s) (λ v t. and_then (in_order_push span others last t i) (λ vs. pure (v ∷ vs))))
    ∙ by (first.value span s)
  where
    at_last : (v : Value) (vs : List Value) (t : Step Value) → and_then (and_then t (λ w. pure (vs ++ w ∷ []))) (λ ws. pure (v ∷ ws)) ≡ and_then t (λ w. pure (v ∷ (vs ++ w ∷ [])))
    at_last v vs (Goes w s) = refl
    at_last v vs (Fails span) = refl
    at_last v vs (Skips span) = refl

    inside : (v : Value) (t : Step (List Value)) → and_then (and_then t (λ vs. last.value span >>= (λ w. pure (vs ++ w ∷ [])))) (λ ws. pure (v ∷ ws)) ≡ and_then (and_then t (λ vs. pure (v ∷ vs))) (λ vs. last.value span >>= (λ w. pure (vs ++ w ∷ [])))
    inside v (Goes vs s) = at_last v vs (last.value span s)
    inside v (Fails span) = refl
    inside v (Skips span) = refl

    by : (t : Step Value) → and_then t (λ v u. and_then (and_then (in_order span others u) (λ vs. last.value span >>= (λ w. pure (vs ++ w ∷ [])))) (λ vs. pure (v ∷ vs))) ≡ and_then (and_then t (λ v. in_order span others >>= (λ vs. pure (v ∷ vs)))) (λ vs. last.value span >>= (λ w. pure (vs ++ w ∷ [])))
    by (Goes v u) = inside v (in_order span others u)
    by (Fails span) = refl
    by (Skips span) = refl
