-- Two shapes that name no records are seen as the same exactly where they are worth the same.
use Rattle.std.proofs.Common.{◌≡◌, true, false, true≢false, List, [], Option, Some, None, ◌↔◌, refl, sym, ap, ◌∙◌}
use Rattle.std.proofs.lemmas.Option.{same_Some, none-some}
use Rattle.sk_dag.specs.declared.env.Env.{Env}
use Rattle.sk_dag.specs.declared.node.BoolId.{BoolId}
use Rattle.sk_dag.specs.declared.shape.Shape.{Shape}
use Rattle.sk_dag.specs.declared.shape.Shape.TheVariants as shape
use Rattle.sk_dag.specs.Graph.{Graph, Grows, HasBool}
use Rattle.sk_dag.specs.Eval.{bool_value}
use Rattle.sk_dag.specs.EvalShape.{shape_value}
use Rattle.sk_arr.specs.Answers.{IsEquality}
use Rattle.sk_arr.proofs.Standing.{array_stands}
use Rattle.sk_prog.specs.declared.value.Value.{Value}
use Rattle.sk_prog.specs.declared.value.Value.TheVariants as value
use Rattle.sk_prog.specs.declared.value.Value.TheOpen as V
use Rattle.sk_prog.specs.declared.value.Value.TheViews.{out-Value, rolls-Array, out-roll-Value}
use Rattle.sk_model.specs.Values.{equal, elements, elements_of}
use Rattle.sk_heap_laws.specs.Values.{place_of, holds_in, value_of, value_in}
use Rattle.sk_heap_laws.proofs.Equals.{equal_self, equal_is}
use Rattle.sk_sym_state.specs.Seen.{IsWorth}
use Rattle.sk_sym.specs.Outcome.{ResultSays}
use Rattle.sk_oblig_arguments.proofs.Shaping.{array_worth}
use Rattle.sk_oblig_checks.specs.Checks.{Agrees, ResultsAgree, AllAgree}

module _ (g : Graph) (e : Env) (a b : Shape) (v w : Value) (worth_a : IsWorth g e [] a v) (worth_b : IsWorth g e [] b w) where
  seen_then_worth : shape_value g e a ≡ shape_value g e b → v ≡ w
  seen_then_worth h = sym worth_a.value ∙ ap (value_of (place_of (holds_in g e []))) h ∙ worth_b.value

  worth_then_seen : v ≡ w → shape_value g e a ≡ shape_value g e b
  worth_then_seen h =
      let same : value_in g e [] a ≡ value_in g e [] b = worth_a.value ∙ h ∙ sym worth_b.value in
      (equal_is (holds_in g e []) (shape_value g e a) (shape_value g e b) worth_a.live worth_b.live).0
      (ap (equal (value_in g e [] a)) (sym same) ∙ equal_self (place_of (holds_in g e [])) (shape_value g e a))

pub agrees : {d : Graph} {a b : Shape} {r : BoolId} → IsEquality d a b r → Agrees d a b r
agrees {d} {a} {b} {r} is = record {
  there = is.there;
  value = λ g e v w grows x y. (λ h. seen_then_worth g e a b v w x y ((is.value g grows e).0 h), λ h. (is.value g grows e).1 (worth_then_seen g e a b v w x y h));
}

pub none_agree : {d : Graph} {r : BoolId} → HasBool d.nodes r → ((g : Graph) → Grows d g → (e : Env) → bool_value g e r ≡ true) → ResultsAgree d None None r
none_agree {d} {r} there holds = record { there = there; value = λ g e v w grows x y. by g e v w grows x y }
  where
    by : (g : Graph) (e : Env) (v w : Option Value) → Grows d g → ResultSays g e None v → ResultSays g e None w → (bool_value g e r ≡ true) ↔ (v ≡ w)
    by g e None None grows x y = (λ h. refl, λ h. holds g grows e)
    by g e None (Some w) grows x y = absurd y
    by g e (Some v) w grows x y = absurd x

pub some_agree : {d : Graph} {a b : Shape} {r : BoolId} → Agrees d a b r → ResultsAgree d (Some a) (Some b) r
some_agree {d} {a} {b} {r} is = record { there = is.there; value = λ g e v w grows x y. by g e v w grows x y }
  where
    by : (g : Graph) (e : Env) (v w : Option Value) → Grows d g → ResultSays g e (Some a) v → ResultSays g e (Some b) w → (bool_value g e r ≡ true) ↔ (v ≡ w)
    by g e None w grows x y = absurd x
    by g e (Some v) None grows x y = absurd y
    by g e (Some v) (Some w) grows x y = (λ h. ap Some ((is.value g e v w grows x y).0 h), λ h. (is.value g e v w grows x y).1 (same_Some v w h))

-- a result on one side only
pub none_and_some : {d : Graph} {a : Shape} {r : BoolId} → HasBool d.nodes r → ((g : Graph) → Grows d g → (e : Env) → bool_value g e r ≡ false) → ResultsAgree d None (Some a) r
none_and_some {d} {a} {r} there never = record { there = there; value = λ g e v w grows x y. by g e v w grows x y }
  where
    by : (g : Graph) (e : Env) (v w : Option Value) → Grows d g → ResultSays g e None v → ResultSays g e (Some a) w → (bool_value g e r ≡ true) ↔ (v ≡ w)
    by g e None None grows x y = absurd y
    by g e None (Some w) grows x y = (λ h. absurd (true≢false (sym h ∙ never g grows e)), λ same. absurd (none-some w same))
    by g e (Some v) w grows x y = absurd x

pub some_and_none : {d : Graph} {a : Shape} {r : BoolId} → HasBool d.nodes r → ((g : Graph) → Grows d g → (e : Env) → bool_value g e r ≡ false) → ResultsAgree d (Some a) None r
some_and_none {d} {a} {r} there never = record { there = there; value = λ g e v w grows x y. by g e v w grows x y }
  where
    by : (g : Graph) (e : Env) (v w : Option Value) → Grows d g → ResultSays g e (Some a) v → ResultSays g e None w → (bool_value g e r ≡ true) ↔ (v ≡ w)
    by g e None w grows x y = absurd x
    by g e (Some v) None grows x y = (λ h. absurd (true≢false (sym h ∙ never g grows e)), λ same. absurd (none-some v (sym same)))
    by g e (Some v) (Some w) grows x y = absurd y

elements_array : (vs : List Value) → elements (value.Array vs) ≡ vs
elements_array vs = ap elements_of (ap out-Value (sym (rolls-Array vs)) ∙ out-roll-Value (V.Array vs))

same_arrays : (vs ws : List Value) → value.Array vs ≡ value.Array ws → vs ≡ ws
same_arrays vs ws h = sym (elements_array vs) ∙ ap elements h ∙ elements_array ws

pub lists_agree : {d : Graph} {a b : List Shape} {r : BoolId} → Agrees d (shape.Array a) (shape.Array b) r → AllAgree d a b r
lists_agree {d} {a} {b} {r} is = record {
  there = is.there;
  value = λ g e vs ws grows x y.
      let both = is.value g e (value.Array vs) (value.Array ws) grows (array_worth x) (array_worth y) in
      (λ h. same_arrays vs ws (both.0 h), λ h. both.1 (ap value.Array h));
}

pub ruleset lists = (lists_agree, array_stands)
