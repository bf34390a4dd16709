-- Elements of arrays, by an index.
use Rattle.std.proofs.lemmas.Bool.{lt-ltb, ltb-true}
use Rattle.std.proofs.lemmas.List.{take_more, take_all}
use Rattle.std.proofs.lemmas.List.Elements.{All-nil, All-head}
use Rattle.std.proofs.lemmas.Option.{none-some, slice_get_within, slice_get-map, get_or_from_slice_get}
use Rattle.std.proofs.Common.{◌≡◌, ℕ, ℤ, pos, negsuc, ◌+◌, ◌<◌, ◌≤◌, Bool, true, false, true≢false, not, nat_lt, List, [], ◌∷◌, ◌++◌, map, length, take, get_or, All, Option, Some, None, option_map, slice_get, refl, sym, ap, subst, ◌∙◌, arith}
use Rattle.sk_base.specs.declared.span.Span.{Span}
use Rattle.sk_dag.specs.declared.env.Env.{Env}
use Rattle.sk_dag.specs.declared.node.BoolId.{BoolId}
use Rattle.sk_dag.specs.declared.node.WordId.{WordId}
use Rattle.sk_dag.specs.declared.shape.Shape.{Shape}
use Rattle.sk_dag.specs.declared.shape.Shape.TheVariants as shape
use Rattle.sk_dag.specs.declared.shape.Seen.{Seen}
use Rattle.sk_dag.specs.Graph.{Graph, Grows, HasBool}
use Rattle.sk_dag.specs.Eval.{bool_value, word_value}
use Rattle.sk_dag.specs.EvalShape.{shape_value}
use Rattle.sk_arr.specs.Shapes.{Alike, AlikeTo, AllAlike, SlotsPass}
use Rattle.sk_arr.specs.Places.{is_within, element_of}
use Rattle.sk_arr.specs.Answers.{shapes_value, IsRead}
use Rattle.sk_arr.proofs.Parts.{shape_law}
use Rattle.sk_arr.proofs.Standing.{bit_stands}
use Rattle.sk_arr.proofs.Values.{value_array, length_map, all_push, bit_passes, parts_pass}
use Rattle.sk_prog.specs.declared.value.Value.{Value}
use Rattle.sk_prog.specs.declared.value.Value.TheVariants as value
use Rattle.sk_prog.specs.declared.value.Value.TheViews.{outs-Bit, outs-Int, outs-Null, outs-Place, outs-Array}
use Rattle.sk_model.specs.Step.{fail}
use Rattle.sk_model.specs.Values.{elements_of, elements, element}
use Rattle.sk_model.specs.Eval.{or_fail, indexed}
use Rattle.sk_heap_laws.specs.Values.{place_of, value_of, IsLive, AllLive}
use Rattle.sk_heap_laws.proofs.Parts.{live_head, array_live}
use Rattle.sk_sym_operators.specs.Worth.{worth, answered}
use Rattle.sk_sym_operators.specs.Answers.{IsOperated}
use Rattle.sk_sym_operators.proofs.Operating.{worth_bit, worth_array, worth_int}
use Rattle.sk_sym_operators.proofs.Meaning.{Fails, without, reference_law}

-- ---- lists of one form

pub like_more : (a : Shape) (list : List Shape) (i : ℕ) (s : Shape) → i < length list → s ≡ get_or list i s → AlikeTo a (take i list) → Alike a s → AlikeTo a (take (i + 1) list)
like_more a list i s l at h k = record {
  each = subst (All (Alike a)) (sym (take_more list i s l ∙ ap (λ z. take i list ++ z ∷ []) (sym at))) (all_push (Alike a) (take i list) s h.each k);
}

pub like_all : (a : Shape) (list : List Shape) (i : ℕ) → length list ≤ i → AlikeTo a (take i list) → AlikeTo a list
like_all a list i l h = subst (AlikeTo a) (take_all i list l) h

-- an element that is not of the form
pub unlike_all : (a : Shape) (list : List Shape) (i : ℕ) (s : Shape) → i < length list → s ≡ get_or list i s → (Alike a s → ⊥) → AlikeTo a list → ⊥
unlike_all a list i s l at other h = other (subst (Alike a) (sym at) (h.each i s l))

-- the first of those that are of one form is of the form of each
pub first_like_all : (a : Shape) (list : List Shape) → 1 ≤ length list → a ≡ get_or list 0 a → AllAlike list → AlikeTo a list
first_like_all a list l at h = subst (λ x. AlikeTo x list) (sym at) (h.each 0 a (omega (arith, l)))

-- all of one form are of the forms of each other
pub like_each : (a : Shape) (list : List Shape) → AlikeTo a list → AllAlike list
like_each a list h = record { each = λ i d lt. record { each = λ j c lt'. sym (h.each i d lt) ∙ h.each j c lt' } }

-- ---- what an index names

module _ (p : ℕ → ℕ) where
  pub element_as : (vs : List Seen) (x : ℤ) → element (value.Array (map (value_of p) vs)) x ≡ option_map (value_of p) (element_of vs x)
  element_as vs (pos i) = ap (λ l. slice_get l i) (ap elements_of (outs-Array (map (value_of p) vs))) ∙ slice_get-map (value_of p) vs i
  element_as vs (negsuc i) = refl

none_there : (vs : List Seen) (i : ℕ) → nat_lt i (length vs) ≡ false → slice_get vs i ≡ None
none_there vs i h = by (slice_get vs i) refl
  where
    by : (o : Option Seen) → slice_get vs i ≡ o → o ≡ None
    by None e = refl
    by (Some v) e = absurd (true≢false (sym (lt-ltb i (length vs) (slice_get_within vs i v e)) ∙ h))

pub none_outside : (vs : List Seen) (x : ℤ) → not (is_within (length vs) x) ≡ true → element_of vs x ≡ None
none_outside vs (pos i) h = none_there vs i (flipped (nat_lt i (length vs)) h)
  where
    flipped : (b : Bool) → not b ≡ true → b ≡ false
    flipped true e = sym e
    flipped false e = refl
none_outside vs (negsuc i) h = refl

pub element_live : (holds : ℕ → Bool) (vs : List Seen) (x : ℤ) (v : Seen) → AllLive holds vs → element_of vs x ≡ Some v → IsLive holds v
element_live holds vs (pos i) v h at = subst (IsLive holds) (get_or_from_slice_get vs i v v at) (h.each i v (slice_get_within vs i v at))
element_live holds vs (negsuc i) v h at = absurd (none-some v at)

module _ {g : Graph} {a index r : Shape} {fails : BoolId} (list : List Shape) (x : WordId) (p : a ≡ shape.Array list) (q : index ≡ shape.Int x) (is : IsRead g list x r fails) where
  pub element_is : IsOperated g (a ∷ index ∷ []) (λ h e holds span. indexed span (worth holds h e a) (worth holds h e index)) r fails
  element_is = record {
    stands = is.stands;
    there = is.there;
    named = λ test passes. is.named test (parts_pass test list (subst (SlotsPass test) p (All-head (SlotsPass test) a (index ∷ []) passes.each)));
    live = λ h more e holds live never.
        let whole = live_head holds (shape_value h e a) (shapes_value h e (index ∷ [])) live in
        let parts = array_live holds (shapes_value h e list) (subst (IsLive holds) (ap (shape_value h e) p ∙ value_array h e list) whole) in
        element_live holds (shapes_value h e list) (word_value h e x) (shape_value h e r) parts (is.value h more e never);
    value = λ h more e holds live span.
        (λ i. indexed span (worth_array holds h e list p i) (worth_int holds h e x q i))
        ∙ ap (or_fail span) (element_as (place_of holds) (shapes_value h e list) (word_value h e x))
        ∙ by h more e holds span (bool_value h e fails) refl;
  }
    where
      by : (h : Graph) → Grows g h → (e : Env) (holds : ℕ → Bool) (span : Span) (b : Bool) → bool_value h e fails ≡ b → or_fail span (option_map (value_of (place_of holds)) (element_of (shapes_value h e list) (word_value h e x))) ≡ answered span b (worth holds h e r)
      by h more e holds span false never = ap (λ o. or_fail span (option_map (value_of (place_of holds)) o)) (is.value h more e never)
      by h more e holds span true does = ap (λ o. or_fail span (option_map (value_of (place_of holds)) o))
          (none_outside (shapes_value h e list) (word_value h e x) (ap (λ n. not (is_within n (word_value h e x))) (length_map (shape_value h e) list) ∙ sym (is.left h more e) ∙ does))

-- ---- what names no element

abbrev fails_at : Span → Value → Value → Type 0
fails_at span v u = indexed span v u ≡ fail span

none_of : (span : Span) (v : Value) → elements v ≡ [] → (z : ℤ) → or_fail span (element v z) ≡ fail span
none_of span v empty (pos i) = ap (λ l. or_fail span (slice_get l i)) empty
none_of span v empty (negsuc i) = refl

module _ (holds : ℕ → Bool) (h : Graph) (e : Env) where
  -- a shape that is no array has no elements
  pub no_elements : (s : Shape) → ((ss : List Shape) → s ≡ shape.Array ss → ⊥) → elements (worth holds h e s) ≡ []
  no_elements = shape_law (λ s. ((ss : List Shape) → s ≡ shape.Array ss → ⊥) → elements (worth holds h e s) ≡ [])
      (λ a other. ap elements (worth_bit holds h e a refl) ∙ ap elements_of (outs-Bit (bool_value h e a)))
      (λ a other. ap elements (worth_int holds h e a refl) ∙ ap elements_of (outs-Int (word_value h e a)))
      (λ t other. reference_law (λ v. elements v ≡ []) (ap elements_of outs-Null) (λ n. ap elements_of (outs-Place n)) holds h e t)
      (λ ss below other. absurd (other ss refl))

  pub row_elements : (list : List Shape) → elements (worth holds h e (shape.Array list)) ≡ map (value_of (place_of holds)) (shapes_value h e list)
  row_elements list = ap elements (worth_array holds h e list refl) ∙ ap elements_of (outs-Array (map (value_of (place_of holds)) (shapes_value h e list)))

  -- nothing is found where there are no elements, by an index of any form
  none_found : (span : Span) (v : Value) → elements v ≡ [] → (index : Shape) → fails_at span v (worth holds h e index)
  none_found span v empty = shape_law (λ index. fails_at span v (worth holds h e index))
      (λ a. ap (indexed span v) (worth_bit holds h e a refl))
      (λ a. ap (indexed span v) (worth_int holds h e a refl) ∙ none_of span v empty (word_value h e a))
      (λ t. reference_law (fails_at span v) refl (λ n. refl) holds h e t)
      (λ ss below. ap (indexed span v) (worth_array holds h e ss refl))

  -- nor by what is no word
  no_index : (span : Span) (v : Value) (index : Shape) → ((a : WordId) → index ≡ shape.Int a → ⊥) → fails_at span v (worth holds h e index)
  no_index span v = shape_law (λ index. ((a : WordId) → index ≡ shape.Int a → ⊥) → fails_at span v (worth holds h e index))
      (λ a other. ap (indexed span v) (worth_bit holds h e a refl))
      (λ a other. absurd (other a refl))
      (λ t other. reference_law (fails_at span v) refl (λ n. refl) holds h e t)
      (λ ss below other. ap (indexed span v) (worth_array holds h e ss refl))

abbrev pub IsIndexed : Graph → Shape → Shape → Shape → BoolId → Type 0
IsIndexed g a index r fails = IsOperated g (a ∷ index ∷ []) (λ h e holds span. indexed span (worth holds h e a) (worth holds h e index)) r fails

module _ {g : Graph} {a index r : Shape} {fails : BoolId} where
  pub not_of_row : ((ss : List Shape) → a ≡ shape.Array ss → ⊥) → Fails g r fails → IsIndexed g a index r fails
  not_of_row other = without (a ∷ index ∷ []) (λ h e holds span. indexed span (worth holds h e a) (worth holds h e index))
      (λ h e holds span. none_found holds h e span (worth holds h e a) (no_elements holds h e a other) index)

  pub not_by_word : ((x : WordId) → index ≡ shape.Int x → ⊥) → Fails g r fails → IsIndexed g a index r fails
  not_by_word other = without (a ∷ index ∷ []) (λ h e holds span. indexed span (worth holds h e a) (worth holds h e index))
      (λ h e holds span. no_index holds h e span (worth holds h e a) index other)

  pub at_row : {a' index' : Shape} → a ≡ a' → index ≡ index' → IsIndexed g a' index' r fails → IsIndexed g a index r fails
  at_row {a'} {index'} p q is = subst (λ x. IsIndexed g x index r fails) (sym p) (subst (λ y. IsIndexed g a' y r fails) (sym q) is)

empty_row : (list : List Shape) → length list < 1 → list ≡ []
empty_row [] l = refl
empty_row (s ∷ list) l = absurd (omega (arith, l))

-- an array without elements has none
pub of_nothing : {g : Graph} {r : Shape} {fails : BoolId} (list : List Shape) (x : WordId) → length list < 1 → Fails g r fails → IsIndexed g (shape.Array list) (shape.Int x) r fails
of_nothing list x l = without (shape.Array list ∷ shape.Int x ∷ []) (λ h e holds span. indexed span (worth holds h e (shape.Array list)) (worth holds h e (shape.Int x)))
    (λ h e holds span. none_found holds h e span (worth holds h e (shape.Array list))
    (row_elements holds h e list ∙ ap (λ l. map (value_of (place_of holds)) (shapes_value h e l)) (empty_row list l)) (shape.Int x))

-- ---- a read of no elements, which fails

below : (i : ℕ) (b : Bool) → nat_lt i 0 ≡ b → b ≡ false
below i true e = absurd (omega (arith, ltb-true i 0 e))
below i false e = refl

pub read_nothing : {g : Graph} {fails : BoolId} (list : List Shape) (x : WordId) → length list < 1 → HasBool g.nodes fails → ((h : Graph) → Grows g h → (e : Env) → bool_value h e fails ≡ true) → IsRead g list x (shape.Bit fails) fails
read_nothing {g} {fails} [] x l there always = record {
  stands = bit_stands g fails there;
  there = there;
  alike = record { each = All-nil (Alike (shape.Bit fails)) };
  named = λ test h. bit_passes test fails;
  left = λ h more e. always h more e ∙ by (word_value h e x);
  value = λ h more e never. absurd (true≢false (sym (always h more e) ∙ never));
}
  where
    by : (z : ℤ) → true ≡ not (is_within 0 z)
    by (pos i) = sym (ap not (below i (nat_lt i 0) refl))
    by (negsuc i) = refl
read_nothing (s ∷ list) x l there always = absurd (omega (arith, l))
