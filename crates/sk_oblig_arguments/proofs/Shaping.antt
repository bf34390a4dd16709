-- Values as shapes over nodes.
use Rattle.std.proofs.Common.{◌≡◌, ℕ, ◌+◌, ◌<◌, ◌≤◌, All, Bool, ℤ, None, List, [], ◌∷◌, ◌++◌, map, length, take, get_or, refl, sym, ap, subst, ◌∙◌, arith}
use Rattle.std.proofs.lemmas.List.{take_more, take_all}
use Rattle.std.proofs.lemmas.List.Elements.{All-nil}
use Rattle.sk_dag.specs.declared.env.Env.{Env}
use Rattle.sk_dag.specs.declared.node.BoolId.{BoolId}
use Rattle.sk_dag.specs.declared.node.WordId.{WordId}
use Rattle.sk_dag.specs.declared.shape.Shape.{Shape}
use Rattle.sk_dag.specs.declared.shape.Shape.TheVariants as shape
use Rattle.sk_dag.specs.declared.shape.Seen.TheVariants as seen
use Rattle.sk_dag.specs.declared.shape.Targets.{Targets}
use Rattle.sk_dag.specs.Graph.{Graph, Grows, HasBool, HasWord}
use Rattle.sk_dag.specs.Eval.{bool_value, word_value, Keeps}
use Rattle.sk_dag.specs.EvalShape.{shape_value, held_slot}
use Rattle.sk_arr.specs.Answers.{shapes_value}
use Rattle.sk_arr.specs.Shapes.{Stands, AllStand}
use Rattle.sk_arr.proofs.Makers.{Keeps-refl}
use Rattle.sk_arr.proofs.Standing.{Stands-keeps, AllStand-keeps, bit_stands, int_stands, array_stands}
use Rattle.sk_arr.proofs.Values.{value_bit, value_int, value_reference, value_array, map_push, all_push, stand_none, stand_push}
use Rattle.sk_prog.specs.declared.ty.Elem.TheVariants as elem
use Rattle.sk_prog.specs.declared.value.Value.{Value}
use Rattle.sk_prog.specs.declared.value.Value.TheVariants as value
use Rattle.sk_heap.proofs.Zeros.{zero_reference}
use Rattle.sk_heap_laws.specs.Values.{place_of, holds_in, value_of, value_in, IsLive}
use Rattle.sk_heap_laws.proofs.Heaps.{values_are}
use Rattle.sk_heap_laws.proofs.Parts.{of_bit, of_int, of_null, of_array, live_bit, live_int, live_null, live_array}
use Rattle.sk_sym_state.specs.Seen.{IsWorth, AreWorth}
use Rattle.sk_oblig_arguments.specs.Constants.{IsConstant, AreConstant}

pub constant_bit : {d : Graph} {b : Bool} (r : BoolId) → HasBool d.nodes r → ((g : Graph) → Grows d g → (e : Env) → bool_value g e r ≡ b) → IsConstant d (value.Bit b) (shape.Bit r)
constant_bit {d} {b} r there is = record {
  stands = bit_stands d r there;
  worth = λ g e m. record {
    value = ap (value_of (place_of (holds_in g e []))) (value_bit g e r) ∙ of_bit (place_of (holds_in g e [])) (bool_value g e r) ∙ ap value.Bit (is g m e);
    live = subst (IsLive (holds_in g e [])) (sym (value_bit g e r)) (live_bit (holds_in g e []) (bool_value g e r));
  };
}

pub constant_int : {d : Graph} {z : ℤ} (r : WordId) → HasWord d.nodes r → ((g : Graph) → Grows d g → (e : Env) → word_value g e r ≡ z) → IsConstant d (value.Int z) (shape.Int r)
constant_int {d} {z} r there is = record {
  stands = int_stands d r there;
  worth = λ g e m. record {
    value = ap (value_of (place_of (holds_in g e []))) (value_int g e r) ∙ of_int (place_of (holds_in g e [])) (word_value g e r) ∙ ap value.Int (is g m e);
    live = subst (IsLive (holds_in g e [])) (sym (value_int g e r)) (live_int (holds_in g e []) (word_value g e r));
  };
}

pub constant_null : (a : Targets) → a.slots.items ≡ [] → (d : Graph) → IsConstant d value.Null (shape.Reference a)
constant_null a none d =
    let zero = zero_reference {g = d} {t = elem.Reference (record { index = 0 })} {s = record { index = 0 }} a refl none in
    record {
      stands = zero.stands;
      worth = λ g e m.
          let at : shape_value g e (shape.Reference a) ≡ seen.Slot None = value_reference g e a ∙ ap (λ ts. seen.Slot (held_slot g e ts)) none in
          record {
            value = ap (value_of (place_of (holds_in g e []))) at ∙ of_null (place_of (holds_in g e []));
            live = subst (IsLive (holds_in g e [])) (sym at) (live_null (holds_in g e []));
          };
    }

pub array_worth : {g : Graph} {e : Env} {list : List Shape} {vs : List Value} → AreWorth g e [] list vs → IsWorth g e [] (shape.Array list) (value.Array vs)
array_worth {g} {e} {list} {vs} h = record {
  value =
      ap (value_of (place_of (holds_in g e []))) (value_array g e list)
      ∙ of_array (place_of (holds_in g e [])) (shapes_value g e list)
      ∙ ap value.Array (sym (values_are g e [] list) ∙ h.value);
  live = subst (IsLive (holds_in g e [])) (sym (value_array g e list)) (live_array (holds_in g e []) (shapes_value g e list) h.live);
}

pub constant_array : {d : Graph} {vs : List Value} (made : List Shape) → AreConstant d vs made → IsConstant d (value.Array vs) (shape.Array made)
constant_array {d} {vs} made are = record {
  stands = array_stands d made are.stand;
  worth = λ g e m. array_worth (are.worth g e m);
}

pub constants_none : (d : Graph) → AreConstant d [] []
constants_none d = record {
  stand = stand_none d;
  worth = λ g e m. record { value = refl; live = record { each = All-nil (IsLive (holds_in g e [])) } };
}

pub constants_more : {a b : Graph} (values : List Value) (i : ℕ) (v : Value) (made longer : List Shape) (r : Shape) → i < length values → v ≡ get_or values i v → longer ≡ made ++ r ∷ [] → Keeps a b → AreConstant a (take i values) made → IsConstant b v r → AreConstant b (take (i + 1) values) longer
constants_more {a} {b} values i v made longer r l at is k are one =
    let more : take (i + 1) values ≡ take i values ++ v ∷ [] = take_more values i v l ∙ ap (λ x. take i values ++ x ∷ []) (sym at) in
    subst (λ vs. AreConstant b vs longer) (sym more) (subst (AreConstant b (take i values ++ v ∷ [])) (sym is) (record {
      stand = stand_push made r (AllStand-keeps k are.stand) one.stands;
      worth = λ g e m.
          let before = are.worth g e (k.later g m) in
          let last = one.worth g e m in
          record {
            value = map_push (value_in g e []) made r ∙ ap (λ vs. vs ++ value_in g e [] r ∷ []) before.value ∙ ap (λ x. take i values ++ x ∷ []) last.value;
            live = record { each = subst (λ ss. All (IsLive (holds_in g e [])) ss) (sym (map_push (shape_value g e) made r)) (all_push (IsLive (holds_in g e [])) (shapes_value g e made) (shape_value g e r) before.live.each last.live) };
          };
    }))

pub ruleset arrays = (constant_array, constants_none, Keeps-refl, take_all)

pub ruleset staying = (Keeps-refl)
