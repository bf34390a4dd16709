-- Shapes that name no record.
use Rattle.std.proofs.Common.{◌≡◌, ℕ, ◌+◌, ◌<◌, false, List, [], ◌∷◌, ◌++◌, map, length, take, get_or, All, refl, sym, ap, subst, ◌∙◌, arith, true≢false, IsTrue, ◌==◌}
use Rattle.std.proofs.lemmas.List.{take_more}
use Rattle.std.proofs.lemmas.Bool.{eqb-true}
use Rattle.sk_dag.specs.declared.env.Env.{Env}
use Rattle.sk_dag.specs.declared.node.BoolId.{BoolId}
use Rattle.sk_dag.specs.declared.node.WordId.{WordId}
use Rattle.sk_dag.specs.declared.shape.Seen.TheVariants as seen
use Rattle.sk_dag.specs.declared.shape.Shape.{Shape}
use Rattle.sk_dag.specs.declared.shape.Shape.TheVariants as shape
use Rattle.sk_dag.specs.declared.shape.Targets.{Targets}
use Rattle.sk_dag.specs.Graph.{Graph}
use Rattle.sk_dag.specs.Eval.{bool_value, word_value}
use Rattle.sk_dag.specs.EvalShape.{shape_value, held_slot}
use Rattle.sk_arr.specs.Answers.{shapes_value}
use Rattle.sk_arr.proofs.Values.{value_bit, value_int, value_reference, value_array, map_push, all_push}
use Rattle.sk_heap.specs.declared.slot.Slot.{Slot}
use Rattle.sk_prog.specs.declared.value.Value.{Value}
use Rattle.sk_heap_laws.specs.Values.{place_of, holds_in, value_of, IsLive, AllLive}
use Rattle.sk_heap_laws.proofs.Parts.{live_bit, live_int, live_null, live_array, live_nil}
use Rattle.sk_heap_laws.proofs.Values.{value_agrees, values_agree}
use Rattle.sk_heap_laws.proofs.Heaps.{values_are}
use Rattle.sk_sym_state.specs.Seen.{IsWorth, AreWorth}
use Rattle.sk_sym.specs.Outcome.{NamesNone, AllNameNone}

pub bit_names_none : {r : Shape} {a : BoolId} → r ≡ shape.Bit a → NamesNone r
bit_names_none {r} {a} is = record { live = λ g e holds. subst (IsLive holds) (sym (ap (shape_value g e) is ∙ value_bit g e a)) (live_bit holds (bool_value g e a)) }

pub int_names_none : {r : Shape} {a : WordId} → r ≡ shape.Int a → NamesNone r
int_names_none {r} {a} is = record { live = λ g e holds. subst (IsLive holds) (sym (ap (shape_value g e) is ∙ value_int g e a)) (live_int holds (word_value g e a)) }

pub reference_names_none : {r : Shape} {a : Targets} → r ≡ shape.Reference a → a.slots.items ≡ [] → NamesNone r
reference_names_none {r} {a} is none = record {
  live = λ g e holds. subst (IsLive holds) (sym (ap (shape_value g e) is ∙ value_reference g e a ∙ ap (λ ts. seen.Slot (held_slot g e ts)) none)) (live_null holds);
}

pub array_names_none : {r : Shape} {ss : List Shape} → r ≡ shape.Array ss → AllNameNone ss → NamesNone r
array_names_none {r} {ss} is none = record {
  live = λ g e holds. subst (IsLive holds) (sym (ap (shape_value g e) is ∙ value_array g e ss)) (live_array holds (shapes_value g e ss) (none.live g e holds));
}

pub no_items : {A : Type 0} (list : List A) → IsTrue (length list == 0) → list ≡ []
no_items [] h = refl
no_items (a ∷ list) h = absurd (omega (arith, eqb-true (length (a ∷ list)) 0 h))

pub none_none : AllNameNone []
none_none = record { live = λ g e holds. live_nil holds }

pub none_more : (list : List Shape) (i : ℕ) (a : Shape) → i < length list → a ≡ get_or list i a → AllNameNone (take i list) → NamesNone a → AllNameNone (take (i + 1) list)
none_more list i a l at all one =
    let more : take (i + 1) list ≡ take i list ++ a ∷ [] = take_more list i a l ∙ ap (λ y. take i list ++ y ∷ []) (sym at) in
    subst AllNameNone (sym more) (record {
      live = λ g e holds. record { each = subst (All (IsLive holds)) (sym (map_push (shape_value g e) (take i list) a)) (all_push (IsLive holds) (shapes_value g e (take i list)) (shape_value g e a) (all.live g e holds).each (one.live g e holds)) };
    })

-- such a shape is worth the same in each heap
module _ (g : Graph) (e : Env) (old new : List Slot) where
  pub worth_anywhere : {r : Shape} {v : Value} → NamesNone r → IsWorth g e old r v → IsWorth g e new r v
  worth_anywhere {r} none w = record {
    value = value_agrees (λ n. false) (place_of (holds_in g e new)) (place_of (holds_in g e old)) (λ n h. absurd (true≢false (sym h))) (shape_value g e r) (none.live g e (λ n. false)) ∙ w.value;
    live = none.live g e (holds_in g e new);
  }

  pub all_worth_anywhere : {list : List Shape} {vs : List Value} → AllNameNone list → AreWorth g e old list vs → AreWorth g e new list vs
  all_worth_anywhere {list} none w = record {
    value = values_are g e new list
        ∙ values_agree (λ n. false) (place_of (holds_in g e new)) (place_of (holds_in g e old)) (λ n h. absurd (true≢false (sym h))) (shapes_value g e list) (none.live g e (λ n. false))
        ∙ sym (values_are g e old list)
        ∙ w.value;
    live = none.live g e (holds_in g e new);
  }

-- shapes that are seen alike are worth the same
pub worth_alike : (g : Graph) (e : Env) (heap : List Slot) (list made : List Shape) {vs : List Value} → shapes_value g e made ≡ shapes_value g e list → AreWorth g e heap list vs → AreWorth g e heap made vs
worth_alike g e heap list made same w = record {
  value = values_are g e heap made ∙ ap (map (value_of (place_of (holds_in g e heap)))) same ∙ sym (values_are g e heap list) ∙ w.value;
  live = subst (AllLive (holds_in g e heap)) (sym same) w.live;
}

pub ruleset naming = (bit_names_none, int_names_none, none_none)
