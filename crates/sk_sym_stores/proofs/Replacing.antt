-- A part of a value is replaced.
use Rattle.std.proofs.Common.{◌≡◌, ℕ, ◌≤◌, ℤ, pos, negsuc, Bool, true, false, true≢false, List, [], ◌∷◌, length, map, get_or, slice_get, Option, Some, None, option_map, refl, sym, ap, subst, ◌∙◌, arith}
use Rattle.std.specs.Prelude.{nat_lt, not, ◌||◌, option_and_then, slice_set, if◌then◌else◌}
use Rattle.std.proofs.lemmas.Bool.{ltb-true}
use Rattle.std.proofs.lemmas.Option.{slice_get-get_or}
use Rattle.std.proofs.lemmas.List.Elements.{All-head, All-tail}
use Rattle.sk_dag.specs.declared.env.Env.{Env}
use Rattle.sk_dag.specs.declared.node.BoolId.{BoolId}
use Rattle.sk_dag.specs.declared.node.WordId.{WordId}
use Rattle.sk_dag.specs.declared.shape.Shape.{Shape}
use Rattle.sk_dag.specs.declared.shape.Shape.TheVariants as shape
use Rattle.sk_dag.specs.declared.shape.Seen.{Seen}
use Rattle.sk_dag.specs.declared.shape.Seen.TheVariants as seen
use Rattle.sk_dag.specs.Graph.{Graph, Grows, HasBool, HasWord, WordSort}
use Rattle.sk_dag.specs.Eval.{bool_value, word_value, Keeps}
use Rattle.sk_dag.specs.EvalShape.{shape_value, held_slot}
use Rattle.sk_arr.specs.Shapes.{blank, Stands, SlotsPass}
use Rattle.sk_arr.specs.Places.{is_within, element_of, replaced_at}
use Rattle.sk_arr.specs.Answers.{shapes_value, IsRead}
use Rattle.sk_arr.proofs.Parts.{shape_law}
use Rattle.sk_arr.proofs.Standing.{Stands-keeps, AllStand-keeps, array_stands}
use Rattle.sk_arr.proofs.Values.{value_bit, value_int, value_reference, value_array, blank_array, length_map, parts_pass, array_passes}
use Rattle.sk_prog.specs.declared.value.Value.{Value}
use Rattle.sk_prog.specs.declared.value.Value.TheVariants as value
use Rattle.sk_prog.specs.declared.value.Value.TheViews.{outs-Bit, outs-Int, outs-Null, outs-Place}
use Rattle.sk_model.specs.Values.{elements_of, elements, replaced}
use Rattle.sk_heap_laws.specs.Values.{place_of, value_of, IsLive}
use Rattle.sk_heap_laws.proofs.Parts.{of_bit, of_int, of_null, of_slot, array_live, live_array}
use Rattle.sk_sym_operators.specs.Worth.{worth}
use Rattle.sk_sym_operators.proofs.Operating.{worth_array}
use Rattle.sk_sym_operators.proofs.Elements.{element_as, none_outside, element_live}
use Rattle.sk_sym_stores.specs.Locations.{AreWords}
use Rattle.sk_sym_stores.specs.Replaced.{IsReplaced, IsUnchanged, HasElement, IsFirstIndex}
use Rattle.sk_sym_stores.proofs.Elements.{set_at, replaced_in, map_replaced, replaced_live}

-- ---- indexes

pub words_keep : {a b : Graph} {list : List WordId} → Keeps a b → AreWords a list → AreWords b list
words_keep {list = list} k h = record { each = λ i d l. k.sorts _ WordSort (h.each i d l) }

pub first_word : {d : Graph} {indexes more : List WordId} {index : WordId} → IsFirstIndex indexes index more → AreWords d indexes → HasWord d.nodes index
first_word {d} {indexes} {more} {index} is h = All-head (HasWord d.nodes) index more (subst (AreWords d) is.front h).each

pub more_words : {d : Graph} {indexes more : List WordId} {index : WordId} → IsFirstIndex indexes index more → AreWords d indexes → AreWords d more
more_words {d} {indexes} {more} {index} is h = record { each = All-tail (HasWord d.nodes) index more (subst (AreWords d) is.front h).each }

pub none_more : (more : List WordId) → length more ≡ 0 → more ≡ []
none_more [] e = refl
none_more (index ∷ more) e = absurd (omega (arith, e))

pub no_index : {indexes : List WordId} → 1 ≤ length indexes → indexes ≡ [] → ⊥
no_index l none = absurd (omega (arith, l, ap length none))

-- ---- no parts

-- a shape that is no array is worth a value without elements
no_elements : (h : Graph) (e : Env) (holds : ℕ → Bool) (a : Shape) → ((ss : List Shape) → a ≡ shape.Array ss → ⊥) → elements (worth holds h e a) ≡ []
no_elements h e holds = shape_law (λ a. ((ss : List Shape) → a ≡ shape.Array ss → ⊥) → elements (worth holds h e a) ≡ [])
    (λ c other. ap (λ v. elements (value_of (place_of holds) v)) (value_bit h e c) ∙ ap elements (of_bit (place_of holds) (bool_value h e c)) ∙ ap elements_of (outs-Bit (bool_value h e c)))
    (λ c other. ap (λ v. elements (value_of (place_of holds) v)) (value_int h e c) ∙ ap elements (of_int (place_of holds) (word_value h e c)) ∙ ap elements_of (outs-Int (word_value h e c)))
    (λ t other. ap (λ v. elements (value_of (place_of holds) v)) (value_reference h e t) ∙ on_slot (held_slot h e t.slots.items))
    (λ ss below other. absurd (other ss refl))
  where
    on_slot : (o : Option ℕ) → elements (value_of (place_of holds) (seen.Slot o)) ≡ []
    on_slot None = ap elements (of_null (place_of holds)) ∙ ap elements_of outs-Null
    on_slot (Some n) = ap elements (of_slot (place_of holds) n) ∙ ap elements_of (outs-Place (place_of holds n))

none_replaced : (z : ℤ) (zs : List ℤ) (v part : Value) → elements v ≡ [] → replaced (z ∷ zs) v part ≡ None
none_replaced (pos i) zs v part none = ap (λ o. option_and_then (λ old. option_and_then (λ new. Some (value.Array (slice_set (elements v) i new))) (replaced zs old part)) o) (ap (λ l. slice_get l i) none)
none_replaced (negsuc i) zs v part none = refl

pub replaced_nothing : {g : Graph} {indexes more : List WordId} {index : WordId} {whole part r : Shape} {fails : BoolId} → IsFirstIndex indexes index more → ((ss : List Shape) → whole ≡ shape.Array ss → ⊥) → IsUnchanged g whole r fails → IsReplaced g indexes whole part r fails
replaced_nothing {g} {indexes} {more} {index} {whole} {part} {r} {fails} first other is = record {
  stands = is.copy.stands;
  there = is.there;
  alike = is.copy.alike;
  named = λ test p q. is.copy.named test p;
  live = λ h m e holds p q f. absurd (true≢false (sym (is.always h m e) ∙ f));
  value = λ h m e holds.
      ap (λ l. replaced (map (word_value h e) l) (worth holds h e whole) (worth holds h e part)) first.front
      ∙ none_replaced (word_value h e index) (map (word_value h e) more) (worth holds h e whole) (worth holds h e part) (no_elements h e holds whole other)
      ∙ ap (λ (b : Bool). if b then None else Some (worth holds h e r)) (sym (is.always h m e));
}

-- ---- one index more

module _ {d1 d2 d3 d4 : Graph} {indexes more : List WordId} {index : WordId} {list : List Shape} {whole part old new r : Shape} {outside inside beyond fails : BoolId} (first : IsFirstIndex indexes index more) (is : whole ≡ shape.Array list)
    (read : IsRead d1 list index old outside) (one : Keeps d1 d2) (rest : IsReplaced d2 more old part new inside) (two : Keeps d2 d3) (made : HasElement d3 list index new r beyond) (three : Keeps d3 d4)
    (there : HasBool d4.nodes fails) (either : (h : Graph) → Grows d4 h → (e : Env) → bool_value h e fails ≡ (bool_value h e outside || bool_value h e inside)) where
  whole_passes : (test : ℕ → Bool) → SlotsPass test whole → SlotsPass test part → SlotsPass test r
  whole_passes test p q =
      let all = parts_pass test list (subst (SlotsPass test) is p) in
      subst (SlotsPass test) (sym made.whole) (array_passes test made.parts (made.named test all (rest.named test (read.named test all) q)))

  seen_whole : (h : Graph) (e : Env) → shape_value h e whole ≡ seen.Array (shapes_value h e list)
  seen_whole h e = ap (shape_value h e) is ∙ value_array h e list

  seen_made : (h : Graph) → Grows d4 h → (e : Env) → shape_value h e r ≡ seen.Array (replaced_at (shapes_value h e list) (word_value h e index) (shape_value h e new))
  seen_made h m e = ap (shape_value h e) made.whole ∙ value_array h e made.parts ∙ ap (λ l. seen.Array l) (made.written h (three.later h m) e)

  made_live : (h : Graph) → Grows d4 h → (e : Env) (holds : ℕ → Bool) → IsLive holds (shape_value h e whole) → IsLive holds (shape_value h e part) → (b c : Bool) → bool_value h e outside ≡ b → bool_value h e inside ≡ c → (b || c) ≡ false → IsLive holds (shape_value h e r)
  made_live h m e holds p q false false o n f =
      let all = array_live holds (shapes_value h e list) (subst (IsLive holds) (seen_whole h e) p) in
      let h3 = three.later h m in
      let h2 = two.later h h3 in
      let was = element_live holds (shapes_value h e list) (word_value h e index) (shape_value h e old) all (read.value h (one.later h h2) e o) in
      let now = rest.live h h2 e holds was q n in
      subst (IsLive holds) (sym (seen_made h m e)) (live_array holds (replaced_at (shapes_value h e list) (word_value h e index) (shape_value h e new)) (replaced_live holds (shapes_value h e list) (word_value h e index) (shape_value h e new) all now))
  made_live h m e holds p q true c o n f = absurd (true≢false f)
  made_live h m e holds p q false true o n f = absurd (true≢false f)

  made_value : (h : Graph) → Grows d4 h → (e : Env) (holds : ℕ → Bool) (b c : Bool) → bool_value h e outside ≡ b → bool_value h e inside ≡ c
      → option_and_then (λ v. option_and_then (λ w. Some (value.Array (set_at (map (value_of (place_of holds)) (shapes_value h e list)) (word_value h e index) w))) (replaced (map (word_value h e) more) v (worth holds h e part))) (option_map (value_of (place_of holds)) (element_of (shapes_value h e list) (word_value h e index)))
      ≡ (if b || c then None else Some (worth holds h e r))
  made_value h m e holds true c o n =
      let gone = none_outside (shapes_value h e list) (word_value h e index) (ap (λ n. not (is_within n (word_value h e index))) (length_map (shape_value h e) list) ∙ sym (read.left h (one.later h (two.later h (three.later h m))) e) ∙ o) in
      ap (λ t. option_and_then (λ v. option_and_then (λ w. Some (value.Array (set_at (map (value_of (place_of holds)) (shapes_value h e list)) (word_value h e index) w))) (replaced (map (word_value h e) more) v (worth holds h e part))) (option_map (value_of (place_of holds)) t)) gone
  made_value h m e holds false c o n =
      let h2 = two.later h (three.later h m) in
      let found = read.value h (one.later h h2) e o in
      let ws = map (value_of (place_of holds)) (shapes_value h e list) in
      ap (λ t. option_and_then (λ v. option_and_then (λ w. Some (value.Array (set_at ws (word_value h e index) w))) (replaced (map (word_value h e) more) v (worth holds h e part))) (option_map (value_of (place_of holds)) t)) found
      ∙ ap (λ t. option_and_then (λ w. Some (value.Array (set_at ws (word_value h e index) w))) t) (rest.value h h2 e holds)
      ∙ by c n
    where
      by : (c : Bool) → bool_value h e inside ≡ c → option_and_then (λ w. Some (value.Array (set_at (map (value_of (place_of holds)) (shapes_value h e list)) (word_value h e index) w))) (if bool_value h e inside then None else Some (worth holds h e new)) ≡ (if false || c then None else Some (worth holds h e r))
      by true n = ap (λ (b : Bool). option_and_then (λ w. Some (value.Array (set_at (map (value_of (place_of holds)) (shapes_value h e list)) (word_value h e index) w))) (if b then None else Some (worth holds h e new))) n
      by false n =
          ap (λ (b : Bool). option_and_then (λ w. Some (value.Array (set_at (map (value_of (place_of holds)) (shapes_value h e list)) (word_value h e index) w))) (if b then None else Some (worth holds h e new))) n
          ∙ ap (λ l. Some (value.Array l)) (sym (map_replaced (place_of holds) (shapes_value h e list) (word_value h e index) (shape_value h e new)) ∙ ap (map (value_of (place_of holds))) (sym (made.written h (three.later h m) e)))
          ∙ ap (λ v. Some v) (sym (worth_array holds h e made.parts made.whole))

  pub replaced_more : IsReplaced d4 indexes whole part r fails
  replaced_more = record {
    stands = subst (Stands d4) (sym made.whole) (array_stands d4 made.parts (AllStand-keeps three made.stand));
    there = there;
    alike = ap blank made.whole ∙ blank_array made.parts ∙ ap (λ l. seen.Array l) made.alike ∙ sym (blank_array list) ∙ sym (ap blank is);
    named = whole_passes;
    live = λ h m e holds p q f. made_live h m e holds p q (bool_value h e outside) (bool_value h e inside) refl refl (sym (either h m e) ∙ f);
    value = λ h m e holds.
        ap (λ l. replaced (map (word_value h e) l) (worth holds h e whole) (worth holds h e part)) first.front
        ∙ ap (λ v. replaced (word_value h e index ∷ map (word_value h e) more) v (worth holds h e part)) (worth_array holds h e list is)
        ∙ replaced_in (word_value h e index) (map (word_value h e) more) (map (value_of (place_of holds)) (shapes_value h e list)) (worth holds h e part)
        ∙ ap (λ t. option_and_then (λ v. option_and_then (λ w. Some (value.Array (set_at (map (value_of (place_of holds)) (shapes_value h e list)) (word_value h e index) w))) (replaced (map (word_value h e) more) v (worth holds h e part))) t) (element_as (place_of holds) (shapes_value h e list) (word_value h e index))
        ∙ made_value h m e holds (bool_value h e outside) (bool_value h e inside) refl refl
        ∙ ap (λ (b : Bool). if b then None else Some (worth holds h e r)) (sym (either h m e));
  }

-- ---- the last index

some_inside : (vs : List Seen) (x : ℤ) → not (is_within (length vs) x) ≡ false → (v : Seen) × (element_of vs x ≡ Some v)
some_inside vs (pos i) h = (get_or vs i (seen.Bit false), slice_get-get_or vs i (seen.Bit false) (ltb-true i (length vs) (by (nat_lt i (length vs)) h)))
  where
    by : (b : Bool) → not b ≡ false → b ≡ true
    by true e = refl
    by false e = sym e
some_inside vs (negsuc i) h = absurd (true≢false h)

module _ {d : Graph} {indexes more : List WordId} {index : WordId} {list : List Shape} {whole part r : Shape} {outside : BoolId} (first : IsFirstIndex indexes index more) (last : more ≡ []) (is : whole ≡ shape.Array list) (made : HasElement d list index part r outside) where
  last_live : (h : Graph) → Grows d h → (e : Env) (holds : ℕ → Bool) → IsLive holds (shape_value h e whole) → IsLive holds (shape_value h e part) → IsLive holds (shape_value h e r)
  last_live h m e holds p q =
      let all = array_live holds (shapes_value h e list) (subst (IsLive holds) (ap (shape_value h e) is ∙ value_array h e list) p) in
      let now : shape_value h e r ≡ seen.Array (replaced_at (shapes_value h e list) (word_value h e index) (shape_value h e part)) = ap (shape_value h e) made.whole ∙ value_array h e made.parts ∙ ap (λ l. seen.Array l) (made.written h m e) in
      subst (IsLive holds) (sym now) (live_array holds (replaced_at (shapes_value h e list) (word_value h e index) (shape_value h e part)) (replaced_live holds (shapes_value h e list) (word_value h e index) (shape_value h e part) all q))

  within : (h : Graph) (e : Env) → not (is_within (length (shapes_value h e list)) (word_value h e index)) ≡ not (is_within (length list) (word_value h e index))
  within h e = ap (λ n. not (is_within n (word_value h e index))) (length_map (shape_value h e) list)

  last_value : (h : Graph) → Grows d h → (e : Env) (holds : ℕ → Bool) (b : Bool) → bool_value h e outside ≡ b
      → option_and_then (λ (v : Value). Some (value.Array (set_at (map (value_of (place_of holds)) (shapes_value h e list)) (word_value h e index) (worth holds h e part)))) (option_map (value_of (place_of holds)) (element_of (shapes_value h e list) (word_value h e index)))
      ≡ (if b then None else Some (worth holds h e r))
  last_value h m e holds true o = ap (λ t. option_and_then (λ (v : Value). Some (value.Array (set_at (map (value_of (place_of holds)) (shapes_value h e list)) (word_value h e index) (worth holds h e part)))) (option_map (value_of (place_of holds)) t)) (none_outside (shapes_value h e list) (word_value h e index) (within h e ∙ sym (made.left h m e) ∙ o))
  last_value h m e holds false o =
      ap (λ t. option_and_then (λ (v : Value). Some (value.Array (set_at (map (value_of (place_of holds)) (shapes_value h e list)) (word_value h e index) (worth holds h e part)))) (option_map (value_of (place_of holds)) t)) (some_inside (shapes_value h e list) (word_value h e index) (within h e ∙ sym (made.left h m e) ∙ o)).1
      ∙ ap (λ l. Some (value.Array l)) (sym (map_replaced (place_of holds) (shapes_value h e list) (word_value h e index) (shape_value h e part)) ∙ ap (map (value_of (place_of holds))) (sym (made.written h m e)))
      ∙ ap (λ v. Some v) (sym (worth_array holds h e made.parts made.whole))

  pub replaced_last : IsReplaced d indexes whole part r outside
  replaced_last = record {
    stands = subst (Stands d) (sym made.whole) (array_stands d made.parts made.stand);
    there = made.there;
    alike = ap blank made.whole ∙ blank_array made.parts ∙ ap (λ l. seen.Array l) made.alike ∙ sym (blank_array list) ∙ sym (ap blank is);
    named = λ test p q. subst (SlotsPass test) (sym made.whole) (array_passes test made.parts (made.named test (parts_pass test list (subst (SlotsPass test) is p)) q));
    live = λ h m e holds p q f. last_live h m e holds p q;
    value = λ h m e holds.
        ap (λ l. replaced (map (word_value h e) l) (worth holds h e whole) (worth holds h e part)) (first.front ∙ ap (λ l. index ∷ l) last)
        ∙ ap (λ v. replaced (word_value h e index ∷ []) v (worth holds h e part)) (worth_array holds h e list is)
        ∙ replaced_in (word_value h e index) [] (map (value_of (place_of holds)) (shapes_value h e list)) (worth holds h e part)
        ∙ ap (λ t. option_and_then (λ (v : Value). Some (value.Array (set_at (map (value_of (place_of holds)) (shapes_value h e list)) (word_value h e index) (worth holds h e part)))) t) (element_as (place_of holds) (shapes_value h e list) (word_value h e index))
        ∙ last_value h m e holds (bool_value h e outside) refl;
  }
