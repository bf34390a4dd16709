-- Slices of arrays, by an index.
use Rattle.std.proofs.lemmas.Bool.{leb-true}
use Rattle.std.proofs.lemmas.List.{take-map, drop-map}
use Rattle.std.proofs.lemmas.List.Elements.{All-head, All-take, All-drop}
use Rattle.std.proofs.lemmas.Option.{none-some, same_Some}
use Rattle.std.proofs.Common.{◌≡◌, ◌<◌, ◌≤◌, arith, ℕ, ℤ, pos, negsuc, ◌+◌, Bool, true, false, true≢false, not, List, [], ◌∷◌, map, length, take, drop, All, Option, Some, None, option_map, refl, sym, ap, subst, ◌∙◌}
use Rattle.std.specs.Prelude.{nat_le, if◌then◌else◌}
use Rattle.sk_base.specs.declared.span.Span.{Span}
use Rattle.sk_dag.specs.declared.env.Env.{Env}
use Rattle.sk_dag.specs.declared.node.BoolId.{BoolId}
use Rattle.sk_dag.specs.declared.node.WordId.{WordId}
use Rattle.sk_dag.specs.declared.shape.Shape.{Shape}
use Rattle.sk_dag.specs.declared.shape.Shape.TheVariants as shape
use Rattle.sk_dag.specs.declared.shape.Seen.{Seen}
use Rattle.sk_dag.specs.Graph.{Graph, Grows}
use Rattle.sk_dag.specs.Eval.{bool_value, word_value}
use Rattle.sk_dag.specs.EvalShape.{shape_value}
use Rattle.sk_arr.specs.Shapes.{Stands, SlotsPass}
use Rattle.sk_arr.specs.Places.{is_slice_within, slice_of}
use Rattle.sk_arr.specs.Answers.{shapes_value}
use Rattle.sk_arr.proofs.Parts.{shape_law}
use Rattle.sk_arr.proofs.Standing.{array_stands}
use Rattle.sk_arr.proofs.Values.{value_array, length_map, parts_pass, array_passes}
use Rattle.sk_prog.specs.declared.value.Value.{Value}
use Rattle.sk_prog.specs.declared.value.Value.TheVariants as value
use Rattle.sk_prog.specs.declared.value.Value.TheViews.{outs-Array}
use Rattle.sk_model.specs.Step.{Comp, pure, fail}
use Rattle.sk_model.specs.Values.{elements_of, elements}
use Rattle.sk_model.specs.Eval.{sliced}
use Rattle.sk_heap_laws.specs.Values.{place_of, value_of, IsLive, AllLive}
use Rattle.sk_heap_laws.proofs.Parts.{live_head, array_live, live_array}
use Rattle.sk_sym_operators.specs.Worth.{worth, answered}
use Rattle.sk_sym_operators.specs.Answers.{IsOperated}
use Rattle.sk_sym_operators.proofs.Operating.{worth_bit, worth_array, worth_int}
use Rattle.sk_sym_operators.proofs.Meaning.{Fails, without, reference_law}
use Rattle.sk_sym_operators.proofs.Elements.{no_elements, row_elements}
use Rattle.sk_sym_operators.specs.Answers.{IsSlice}

-- an array where there is one, and else a failure
abbrev or_fails : Span → Option (List Value) → Comp Value
or_fails span None = fail span
or_fails span (Some vs) = pure (value.Array vs)

module _ (p : ℕ → ℕ) (count : ℕ) (span : Span) where
  chosen : (b : Bool) (vs : List Value) → (if b then pure (value.Array vs) else fail span) ≡ or_fails span (if b then Some vs else None)
  chosen true vs = refl
  chosen false vs = refl

  mapped : {A B : Type 0} (f : A → B) (b : Bool) (vs : A) → option_map f (if b then Some vs else None) ≡ (if b then Some (f vs) else None)
  mapped f true vs = refl
  mapped f false vs = refl

  sliced_as : (vs : List Seen) (x : ℤ) → sliced span count (value.Array (map (value_of p) vs)) (value.Int x) ≡ or_fails span (option_map (map (value_of p)) (slice_of vs x count))
  sliced_as vs (pos i) =
      let ws = map (value_of p) vs in
      let same : elements (value.Array ws) ≡ ws = ap elements_of (outs-Array ws) in
      ap (λ l. if nat_le (i + count) (length l) then pure (value.Array (take count (drop i l))) else fail span) same
      ∙ chosen (nat_le (i + count) (length ws)) (take count (drop i ws))
      ∙ ap (λ n. or_fails span (if nat_le (i + count) n then Some (take count (drop i ws)) else None)) (length_map (value_of p) vs)
      ∙ ap (λ l. or_fails span (if nat_le (i + count) (length vs) then Some l else None)) (ap (take count) (drop-map (value_of p) i vs) ∙ take-map (value_of p) count (drop i vs))
      ∙ ap (or_fails span) (sym (mapped (map (value_of p)) (nat_le (i + count) (length vs)) (take count (drop i vs))))
  sliced_as vs (negsuc i) = refl

none_outside : (vs : List Seen) (x : ℤ) (count : ℕ) → not (is_slice_within (length vs) count x) ≡ true → slice_of vs x count ≡ None
none_outside vs (pos i) count h = by (nat_le (i + count) (length vs)) h
  where
    by : (b : Bool) → not b ≡ true → (if b then Some (take count (drop i vs)) else None) ≡ None
    by false e = refl
    by true e = absurd (true≢false (sym e))
none_outside vs (negsuc i) count h = refl

slice_live : (holds : ℕ → Bool) (vs : List Seen) (x : ℤ) (count : ℕ) (ws : List Seen) → AllLive holds vs → slice_of vs x count ≡ Some ws → AllLive holds ws
slice_live holds vs (pos i) count ws h at = by (nat_le (i + count) (length vs)) at
  where
    by : (b : Bool) → (if b then Some (take count (drop i vs)) else None) ≡ Some ws → AllLive holds ws
    by true e = record { each = subst (All (IsLive holds)) (same_Some (take count (drop i vs)) ws e) (All-take (IsLive holds) count (drop i vs) (All-drop (IsLive holds) i vs h.each)) }
    by false e = absurd (none-some ws e)
slice_live holds vs (negsuc i) count ws h at = absurd (none-some ws at)

module _ {g : Graph} {a index r : Shape} {fails : BoolId} {count : ℕ} (list : List Shape) (x : WordId) (p : a ≡ shape.Array list) (q : index ≡ shape.Int x) (is : IsSlice g list x count r fails) where
  pub slice_is : IsOperated g (a ∷ index ∷ []) (λ h e holds span. sliced span count (worth holds h e a) (worth holds h e index)) r fails
  slice_is = record {
    stands = subst (Stands g) (sym is.whole) (array_stands g is.parts is.sliced.stand);
    there = is.sliced.there;
    named = λ test passes. subst (SlotsPass test) (sym is.whole) (array_passes test is.parts (is.sliced.named test (parts_pass test list (subst (SlotsPass test) p (All-head (SlotsPass test) a (index ∷ []) passes.each)))));
    live = λ h more e holds live never.
        let whole = live_head holds (shape_value h e a) (shapes_value h e (index ∷ [])) live in
        let parts = array_live holds (shapes_value h e list) (subst (IsLive holds) (ap (shape_value h e) p ∙ value_array h e list) whole) in
        subst (IsLive holds) (sym (ap (shape_value h e) is.whole ∙ value_array h e is.parts))
        (live_array holds (shapes_value h e is.parts) (slice_live holds (shapes_value h e list) (word_value h e x) count (shapes_value h e is.parts) parts (is.sliced.value h more e never)));
    value = λ h more e holds live span.
        (λ i. sliced span count (worth_array holds h e list p i) (worth_int holds h e x q i))
        ∙ sliced_as (place_of holds) count span (shapes_value h e list) (word_value h e x)
        ∙ by h more e holds span (bool_value h e fails) refl;
  }
    where
      by : (h : Graph) → Grows g h → (e : Env) (holds : ℕ → Bool) (span : Span) (b : Bool) → bool_value h e fails ≡ b → or_fails span (option_map (map (value_of (place_of holds))) (slice_of (shapes_value h e list) (word_value h e x) count)) ≡ answered span b (worth holds h e r)
      by h more e holds span false never = ap (λ o. or_fails span (option_map (map (value_of (place_of holds))) o)) (is.sliced.value h more e never) ∙ ap (pure) (sym (worth_array holds h e is.parts is.whole))
      by h more e holds span true does = ap (λ o. or_fails span (option_map (map (value_of (place_of holds))) o))
          (none_outside (shapes_value h e list) (word_value h e x) count (ap (λ n. not (is_slice_within n count (word_value h e x))) (length_map (shape_value h e) list) ∙ sym (is.sliced.left h more e) ∙ does))

-- ---- what is no slice

module _ (span : Span) (count : ℕ) (v : Value) where
  abbrev fails_from : Value → Type 0
  fails_from u = sliced span count v u ≡ fail span

  too_short : length (elements v) < count → (z : ℤ) → fails_from (value.Int z)
  too_short short (pos i) = by (nat_le (i + count) (length (elements v))) refl
    where
      by : (b : Bool) → nat_le (i + count) (length (elements v)) ≡ b → fails_from (value.Int (pos i))
      by true e = absurd (omega (arith, short, leb-true (i + count) (length (elements v)) e))
      by false e = ap (λ b. if b then pure (value.Array (take count (drop i (elements v)))) else fail span) e
  too_short short (negsuc i) = refl

  module _ (holds : ℕ → Bool) (h : Graph) (e : Env) where
    none_from : length (elements v) < count → (index : Shape) → fails_from (worth holds h e index)
    none_from short = shape_law (λ index. fails_from (worth holds h e index))
        (λ a. ap (sliced span count v) (worth_bit holds h e a refl))
        (λ a. ap (sliced span count v) (worth_int holds h e a refl) ∙ too_short short (word_value h e a))
        (λ t. reference_law fails_from refl (λ n. refl) holds h e t)
        (λ ss below. ap (sliced span count v) (worth_array holds h e ss refl))

    no_start : (index : Shape) → ((a : WordId) → index ≡ shape.Int a → ⊥) → fails_from (worth holds h e index)
    no_start = shape_law (λ index. ((a : WordId) → index ≡ shape.Int a → ⊥) → fails_from (worth holds h e index))
        (λ a other. ap (sliced span count v) (worth_bit holds h e a refl))
        (λ a other. absurd (other a refl))
        (λ t other. reference_law fails_from refl (λ n. refl) holds h e t)
        (λ ss below other. ap (sliced span count v) (worth_array holds h e ss refl))

abbrev pub IsSlicedBy : Graph → ℕ → Shape → Shape → Shape → BoolId → Type 0
IsSlicedBy g count a index r fails = IsOperated g (a ∷ index ∷ []) (λ h e holds span. sliced span count (worth holds h e a) (worth holds h e index)) r fails

module _ {g : Graph} (count : ℕ) {a index r : Shape} {fails : BoolId} where
  pub not_of_row : 1 ≤ count → ((ss : List Shape) → a ≡ shape.Array ss → ⊥) → Fails g r fails → IsSlicedBy g count a index r fails
  not_of_row some other = without (a ∷ index ∷ []) (λ h e holds span. sliced span count (worth holds h e a) (worth holds h e index))
      (λ h e holds span. let none : length (elements (worth holds h e a)) ≡ 0 = ap length (no_elements holds h e a other) in
      none_from span count (worth holds h e a) holds h e (omega (arith, none, some)) index)

  pub not_by_word : ((x : WordId) → index ≡ shape.Int x → ⊥) → Fails g r fails → IsSlicedBy g count a index r fails
  not_by_word other = without (a ∷ index ∷ []) (λ h e holds span. sliced span count (worth holds h e a) (worth holds h e index))
      (λ h e holds span. no_start span count (worth holds h e a) holds h e index other)

  pub at_row : {a' index' : Shape} → a ≡ a' → index ≡ index' → IsSlicedBy g count a' index' r fails → IsSlicedBy g count a index r fails
  at_row {a'} {index'} p q is = subst (λ x. IsSlicedBy g count x index r fails) (sym p) (subst (λ y. IsSlicedBy g count a' y r fails) (sym q) is)

-- an array that is shorter than the slice
pub of_fewer : {g : Graph} {count : ℕ} {r : Shape} {fails : BoolId} (list : List Shape) (x : WordId) → length list < count → Fails g r fails → IsSlicedBy g count (shape.Array list) (shape.Int x) r fails
of_fewer {count = count} list x l = without (shape.Array list ∷ shape.Int x ∷ []) (λ h e holds span. sliced span count (worth holds h e (shape.Array list)) (worth holds h e (shape.Int x)))
    (λ h e holds span. let long : length (elements (worth holds h e (shape.Array list))) ≡ length list = ap length (row_elements holds h e list) ∙ length_map (value_of (place_of holds)) (shapes_value h e list) ∙ length_map (shape_value h e) list in
    none_from span count (worth holds h e (shape.Array list)) holds h e (omega (arith, long, l)) (shape.Int x))
