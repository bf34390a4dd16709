-- When two shapes are equal.
use Rattle.std.proofs.Common.{◌≡◌, ℕ, zero, suc, ◌+◌, ◌<◌, ◌≤◌, Bool, true, false, true≢false, not, ◌&&◌, ◌||◌, List, [], ◌∷◌, ◌++◌, length, map, take, get_or, Option, Some, None, ℤ, refl, sym, ap, subst, ◌∙◌, arith, if◌then◌else◌}
use Rattle.std.specs.Prelude.{◌==◌, ◌↔◌}
use Rattle.std.specs.Ordering.{int_eq}
use Rattle.std.proofs.lemmas.Bool.{eqb-true, eq-eqb}
use Rattle.std.proofs.lemmas.Bool.Decides.{Decides-int_eq}
use Rattle.std.proofs.lemmas.Option.{none-some, same_Some}
use Rattle.std.proofs.lemmas.List.Elements.{All-head, All-tail}
use Rattle.std.proofs.lemmas.List.{take_more, take_all}
use Rattle.sk_dag.specs.declared.env.Env.{Env}
use Rattle.sk_dag.specs.declared.node.BoolId.{BoolId}
use Rattle.sk_dag.specs.declared.node.WordId.{WordId}
use Rattle.sk_dag.specs.declared.shape.Targets.{Targets}
use Rattle.sk_dag.specs.declared.shape.Seen.{Seen}
use Rattle.sk_dag.specs.declared.shape.Seen.TheOpen as N
use Rattle.sk_dag.specs.declared.shape.Seen.TheViews.{out-Seen, outs-Bit, outs-Int, outs-Slot}
use Rattle.sk_dag.specs.declared.shape.Seen.TheVariants.{Bit as SeenBit, Int as SeenInt, Slot as SeenSlot, Array as SeenArray}
use Rattle.sk_dag.specs.declared.shape.Shape.{Shape}
use Rattle.sk_dag.specs.declared.shape.Shape.TheVariants as shape
use Rattle.sk_dag.specs.Graph.{Graph, Grows, HasBool}
use Rattle.sk_dag.specs.Eval.{bool_value, word_value, Keeps}
use Rattle.sk_dag.specs.EvalShape.{shape_value}
use Rattle.sk_dag.proofs.EvalLemmas.{Keeps-grows}
use Rattle.sk_arr.specs.Held.{held, held_in, is_some_held, is_among, have_common, AllIn}
use Rattle.sk_arr.specs.Firsts.{IsFirst}
use Rattle.sk_arr.specs.Shapes.{blank, Stands}
use Rattle.sk_arr.specs.Answers.{shapes_value, IsEquality, AreEqual}
use Rattle.sk_arr.proofs.Makers.{Keeps-refl}
use Rattle.sk_arr.proofs.Targets.{first_of, held_slot_first}
use Rattle.sk_arr.proofs.Forms.{form_bit, form_int, form_reference, form_array}
use Rattle.sk_arr.proofs.Choices.{forms_long}
use Rattle.sk_arr.proofs.Standing.{seen_lists, Stands-keeps, targets_few, bit_there, int_there, targets_there, parts_stand, alike_parts}
use Rattle.sk_arr.proofs.Values.{value_bit, value_int, value_reference, value_array, map_push, length_map}

pub int_eq-self : (x : ℤ) → int_eq x x ≡ true
int_eq-self x = (Decides-int_eq x x).1 refl

pub ruleset words = (Keeps-refl, int_eq-self)

-- ---- slots that are held

module _ (holds : BoolId → Bool) (slot : ℕ) (guard : BoolId) (more : List (ℕ × BoolId)) where
  some_first : is_some_held (held holds ((slot, guard) ∷ more)) ≡ (holds guard || is_some_held (held holds more))
  some_first = by (holds guard)
    where
      by : (b : Bool) → is_some_held (if b then slot ∷ held holds more else held holds more) ≡ (b || is_some_held (held holds more))
      by true = refl
      by false = refl

  among_first : (s : ℕ) → is_among s (held holds ((slot, guard) ∷ more)) ≡ (if slot == s then (holds guard || is_among s (held holds more)) else is_among s (held holds more))
  among_first s = by (holds guard) (slot == s) refl
    where
      fold : (t : Bool) → (t || is_among s (held holds more)) ≡ (if t then true else is_among s (held holds more))
      fold true = refl
      fold false = refl

      rest : (t : Bool) → is_among s (held holds more) ≡ (if t then is_among s (held holds more) else is_among s (held holds more))
      rest true = refl
      rest false = refl

      by : (b t : Bool) → slot == s ≡ t → is_among s (if b then slot ∷ held holds more else held holds more) ≡ (if t then (b || is_among s (held holds more)) else is_among s (held holds more))
      by true t e = ap (λ o. o || is_among s (held holds more)) e ∙ fold t
      by false t e = rest t

  common_first : (ys : List ℕ) → have_common (held holds ((slot, guard) ∷ more)) ys ≡ ((holds guard && is_among slot ys) || have_common (held holds more) ys)
  common_first ys = by (holds guard)
    where
      by : (b : Bool) → have_common (if b then slot ∷ held holds more else held holds more) ys ≡ ((b && is_among slot ys) || have_common (held holds more) ys)
      by true = refl
      by false = refl

-- in the words of a walk over the targets
pub first_guard : {g : Graph} {ts more : List (ℕ × BoolId)} {slot : ℕ} {guard : BoolId} → IsFirst ts slot guard more → AllIn g ts → HasBool g.nodes guard
first_guard {g} {ts} {more} {slot} {guard} first h = All-head (λ t. HasBool g.nodes t.1) (slot, guard) more (subst (AllIn g) first.front h).each

pub first_more : {g : Graph} {ts more : List (ℕ × BoolId)} {slot : ℕ} {guard : BoolId} → IsFirst ts slot guard more → AllIn g ts → AllIn g more
first_more {g} {ts} {more} {slot} {guard} first h = record { each = All-tail (λ t. HasBool g.nodes t.1) (slot, guard) more (subst (AllIn g) first.front h).each }

pub some_none : (g : Graph) (e : Env) {ts : List (ℕ × BoolId)} → ts ≡ [] → false ≡ is_some_held (held_in g e ts)
some_none g e none = sym (ap (λ l. is_some_held (held_in g e l)) none)

pub among_none : (g : Graph) (e : Env) (s : ℕ) {ts : List (ℕ × BoolId)} → ts ≡ [] → false ≡ is_among s (held_in g e ts)
among_none g e s none = sym (ap (λ l. is_among s (held_in g e l)) none)

pub common_none : (g : Graph) (e : Env) (ys : List ℕ) {ts : List (ℕ × BoolId)} → ts ≡ [] → false ≡ have_common (held_in g e ts) ys
common_none g e ys none = sym (ap (λ l. have_common (held_in g e l) ys) none)

module _ {ts more : List (ℕ × BoolId)} {slot : ℕ} {guard : BoolId} (first : IsFirst ts slot guard more) (holds : BoolId → Bool) {x y : Bool} where
  pub some_more : x ≡ (holds guard || y) → y ≡ is_some_held (held holds more) → x ≡ is_some_held (held holds ts)
  some_more p q = p ∙ ap (λ b. holds guard || b) q ∙ sym (some_first holds slot guard more) ∙ sym (ap (λ l. is_some_held (held holds l)) first.front)

  pub among_more : (s : ℕ) → x ≡ (if slot == s then (holds guard || y) else y) → y ≡ is_among s (held holds more) → x ≡ is_among s (held holds ts)
  among_more s p q = p ∙ ap (λ b. if slot == s then (holds guard || b) else b) q ∙ sym (among_first holds slot guard more s) ∙ sym (ap (λ l. is_among s (held holds l)) first.front)

  pub common_more : (ys : List ℕ) {z w : Bool} → x ≡ (z || y) → z ≡ (holds guard && w) → w ≡ is_among slot ys → y ≡ have_common (held holds more) ys → x ≡ have_common (held holds ts) ys
  common_more ys {z} {w} p q r t =
      p ∙ ap (λ b. b || y) (q ∙ ap (λ b. holds guard && b) r) ∙ ap (λ b. (holds guard && is_among slot ys) || b) t
      ∙ sym (common_first holds slot guard more ys) ∙ sym (ap (λ l. have_common (held holds l) ys) first.front)

-- two references of one target that holds, or of none, are equal where they have it in common or have none
pub meet_is : (xs ys : List ℕ) → length xs ≤ 1 → length ys ≤ 1 → ((have_common xs ys || not (is_some_held xs || is_some_held ys)) ≡ true) ↔ (first_of xs ≡ first_of ys)
meet_is [] [] h k = (λ e. refl, λ e. refl)
meet_is [] (y ∷ ys) h k = (λ e. absurd (true≢false (sym e)), λ e. absurd (none-some y e))
meet_is (x ∷ []) [] h k = (λ e. absurd (true≢false (sym e)), λ e. absurd (none-some x (sym e)))
meet_is (x ∷ []) (y ∷ []) h k = (λ e. ap (λ n. Some n) (sym (eqb-true y x (plain (y == x) e))), λ e. full (y == x) (eq-eqb y x (sym (same_Some x y e))))
  where
    plain : (b : Bool) → (((b || false) || false) || false) ≡ true → b ≡ true
    plain true e = refl
    plain false e = e

    full : (b : Bool) → b ≡ true → (((b || false) || false) || false) ≡ true
    full true e = refl
    full false e = e
meet_is (x ∷ x' ∷ xs) ys h k = absurd (omega (arith, h))
meet_is (x ∷ []) (y ∷ y' ∷ ys) h k = absurd (omega (arith, k))

-- ---- shapes

abbrev as_bit : N.Seen-F Seen → Bool
as_bit (N.Bit b) = b
as_bit _ = false

seen_bits : (a b : Bool) → SeenBit a ≡ SeenBit b → a ≡ b
seen_bits a b e = sym (ap as_bit (outs-Bit a)) ∙ ap (λ v. as_bit (out-Seen v)) e ∙ ap as_bit (outs-Bit b)

both_ways : (a b : Bool) → ((if a then b else not b) ≡ true) ↔ (SeenBit a ≡ SeenBit b)
both_ways true true = (λ e. refl, λ e. refl)
both_ways true false = (λ e. absurd (true≢false (sym e)), λ e. sym (seen_bits true false e))
both_ways false true = (λ e. absurd (true≢false (sym e)), λ e. seen_bits false true e)
both_ways false false = (λ e. refl, λ e. refl)

abbrev as_int : N.Seen-F Seen → Option ℤ
as_int (N.Int x) = Some x
as_int _ = None

abbrev as_slot : N.Seen-F Seen → Option ℕ
as_slot (N.Slot s) = s
as_slot _ = None

seen_ints : (x y : ℤ) → SeenInt x ≡ SeenInt y → x ≡ y
seen_ints x y e = same_Some x y (sym (ap as_int (outs-Int x)) ∙ ap (λ v. as_int (out-Seen v)) e ∙ ap as_int (outs-Int y))

seen_slots : (x y : Option ℕ) → SeenSlot x ≡ SeenSlot y → x ≡ y
seen_slots x y e = sym (ap as_slot (outs-Slot x)) ∙ ap (λ v. as_slot (out-Seen v)) e ∙ ap as_slot (outs-Slot y)

pub equality_bit : {g : Graph} {a b r : BoolId} → HasBool g.nodes r → ((h : Graph) → Grows g h → (e : Env) → bool_value h e r ≡ (if bool_value h e a then bool_value h e b else not (bool_value h e b))) → IsEquality g (shape.Bit a) (shape.Bit b) r
equality_bit {g} {a} {b} {r} there value = record {
  there = there;
  value = λ h more e. (
    λ t. value_bit h e a ∙ (both_ways (bool_value h e a) (bool_value h e b)).0 (sym (value h more e) ∙ t) ∙ sym (value_bit h e b),
    λ t. value h more e ∙ (both_ways (bool_value h e a) (bool_value h e b)).1 (sym (value_bit h e a) ∙ t ∙ value_bit h e b),
  );
}

pub equality_int : {g : Graph} {a b : WordId} {r : BoolId} → HasBool g.nodes r → ((h : Graph) → Grows g h → (e : Env) → bool_value h e r ≡ int_eq (word_value h e a) (word_value h e b)) → IsEquality g (shape.Int a) (shape.Int b) r
equality_int {g} {a} {b} {r} there value = record {
  there = there;
  value = λ h more e. (
    λ t. value_int h e a ∙ ap (λ x. SeenInt x) ((Decides-int_eq (word_value h e a) (word_value h e b)).0 (sym (value h more e) ∙ t)) ∙ sym (value_int h e b),
    λ t. value h more e ∙ (Decides-int_eq (word_value h e a) (word_value h e b)).1 (seen_ints (word_value h e a) (word_value h e b) (sym (value_int h e a) ∙ t ∙ value_int h e b)),
  );
}

pub equality_reference : {old new : Graph} {a b : Targets} {r : BoolId} → Keeps old new → Stands old (shape.Reference a) → Stands old (shape.Reference b) → HasBool new.nodes r → ((h : Graph) → Grows new h → (e : Env) → bool_value h e r ≡ (have_common (held_in h e a.slots.items) (held_in h e b.slots.items) || not (is_some_held (held_in h e a.slots.items) || is_some_held (held_in h e b.slots.items)))) → IsEquality new (shape.Reference a) (shape.Reference b) r
equality_reference {old} {new} {a} {b} {r} keeps sa sb there value = record {
  there = there;
  value = λ h more e. (
    λ t. seen h e a ∙ ap (λ s. SeenSlot s) ((ways h more e).0 (sym (value h more e) ∙ t)) ∙ sym (seen h e b),
    λ t. value h more e ∙ (ways h more e).1 (seen_slots (first_of (held_in h e a.slots.items)) (first_of (held_in h e b.slots.items)) (sym (seen h e a) ∙ t ∙ seen h e b)),
  );
}
  where
    seen : (h : Graph) (e : Env) (t : Targets) → shape_value h e (shape.Reference t) ≡ SeenSlot (first_of (held_in h e t.slots.items))
    seen h e t = value_reference h e t ∙ ap (λ s. SeenSlot s) (held_slot_first h e t.slots.items)

    few_in : (h : Graph) → Grows new h → (e : Env) (t : Targets) → Stands old (shape.Reference t) → length (held_in h e t.slots.items) ≤ 1
    few_in h more e t s = targets_few h t (Stands-keeps (Keeps-grows (keeps.later h more)) s) e

    ways : (h : Graph) → Grows new h → (e : Env) → ((have_common (held_in h e a.slots.items) (held_in h e b.slots.items) || not (is_some_held (held_in h e a.slots.items) || is_some_held (held_in h e b.slots.items))) ≡ true) ↔ (first_of (held_in h e a.slots.items) ≡ first_of (held_in h e b.slots.items))
    ways h more e = meet_is (held_in h e a.slots.items) (held_in h e b.slots.items) (few_in h more e a sa) (few_in h more e b sb)

pub equality_array : {g : Graph} {ss ts : List Shape} {r : BoolId} → AreEqual g ss ts r → IsEquality g (shape.Array ss) (shape.Array ts) r
equality_array {g} {ss} {ts} {r} are = record {
  there = are.there;
  value = λ h more e. (
    λ t. value_array h e ss ∙ ap (λ vs. SeenArray vs) ((are.value h more e).0 t) ∙ sym (value_array h e ts),
    λ t. (are.value h more e).1 (seen_lists (shapes_value h e ss) (shapes_value h e ts) (sym (value_array h e ss) ∙ t ∙ value_array h e ts)),
  );
}

pub ruleset targets = (Keeps-refl, some_none, among_none, common_none)

-- in the words of a match on the shapes
pub equal_bits_at : {g : Graph} {a b r : BoolId} {s u : Shape} → s ≡ shape.Bit a → u ≡ shape.Bit b → HasBool g.nodes r → ((h : Graph) → Grows g h → (e : Env) → bool_value h e r ≡ (if bool_value h e a then bool_value h e b else not (bool_value h e b))) → IsEquality g s u r
equal_bits_at {g} {a} {b} {r} {s} {u} p q there value = subst (λ x. IsEquality g x u r) (sym p) (subst (λ y. IsEquality g (shape.Bit a) y r) (sym q) (equality_bit there value))

pub equal_ints_at : {g : Graph} {a b : WordId} {r : BoolId} {s u : Shape} → s ≡ shape.Int a → u ≡ shape.Int b → HasBool g.nodes r → ((h : Graph) → Grows g h → (e : Env) → bool_value h e r ≡ int_eq (word_value h e a) (word_value h e b)) → IsEquality g s u r
equal_ints_at {g} {a} {b} {r} {s} {u} p q there value = subst (λ x. IsEquality g x u r) (sym p) (subst (λ y. IsEquality g (shape.Int a) y r) (sym q) (equality_int there value))

pub equal_targets_at : {old new : Graph} {a b : Targets} {r : BoolId} {s u : Shape} → s ≡ shape.Reference a → u ≡ shape.Reference b → Keeps old new → Stands old s → Stands old u → HasBool new.nodes r → ((h : Graph) → Grows new h → (e : Env) → bool_value h e r ≡ (have_common (held_in h e a.slots.items) (held_in h e b.slots.items) || not (is_some_held (held_in h e a.slots.items) || is_some_held (held_in h e b.slots.items)))) → IsEquality new s u r
equal_targets_at {old} {new} {a} {b} {r} {s} {u} p q k sa sb there value = subst (λ x. IsEquality new x u r) (sym p) (subst (λ y. IsEquality new (shape.Reference a) y r) (sym q) (equality_reference k (subst (Stands old) p sa) (subst (Stands old) q sb) there value))

pub equal_parts_at : {g : Graph} {ss ts : List Shape} {r : BoolId} {s u : Shape} → s ≡ shape.Array ss → u ≡ shape.Array ts → AreEqual g ss ts r → IsEquality g s u r
equal_parts_at {g} {ss} {ts} {r} {s} {u} p q are = subst (λ x. IsEquality g x u r) (sym p) (subst (λ y. IsEquality g (shape.Array ss) y r) (sym q) (equality_array are))

pub ruleset parts = (Keeps-refl, form_bit, form_int, form_reference, form_array, bit_there, int_there, targets_there)

pub equal_none : {g : Graph} {r : BoolId} → HasBool g.nodes r → ((h : Graph) → Grows g h → (e : Env) → bool_value h e r ≡ true) → AreEqual g [] [] r
equal_none there value = record { there = there; value = λ h more e. (λ t. refl, λ t. value h more e) }

push_same : {A : Type 0} (xs ys : List A) (x y : A) → length xs ≡ length ys → xs ++ x ∷ [] ≡ ys ++ y ∷ [] → (xs ≡ ys) × (x ≡ y)
push_same [] [] x y l e = (refl, same_head x y e)
  where
    head_of : {A : Type 0} → List A → Option A
    head_of [] = None
    head_of (z ∷ zs) = Some z

    same_head : {A : Type 0} (x y : A) → x ∷ [] ≡ y ∷ [] → x ≡ y
    same_head x y e = same_Some x y (ap head_of e)
push_same [] (y' ∷ ys) x y l e = absurd (omega (arith, l))
push_same (x' ∷ xs) [] x y l e = absurd (omega (arith, l))
push_same {A} (x' ∷ xs) (y' ∷ ys) x y l e =
    let rest = push_same xs ys x y (omega (arith, l)) (ap tail_of e) in
    ((λ i. same_Some x' y' (ap head_of e) i ∷ rest.0 i), rest.1)
  where
    head_of : List A → Option A
    head_of [] = None
    head_of (z ∷ zs) = Some z

    tail_of : List A → List A
    tail_of [] = []
    tail_of (z ∷ zs) = zs

and_both : (a b : Bool) → (a && b) ≡ true → (a ≡ true) × (b ≡ true)
and_both true true e = (refl, refl)
and_both true false e = absurd (true≢false (sym e))
and_both false b e = absurd (true≢false (sym e))

both_and : (a b : Bool) → a ≡ true → b ≡ true → (a && b) ≡ true
both_and true b p q = q
both_and false b p q = p

pub equal_push : {old mid new : Graph} (ss ts : List Shape) (a b : Shape) (r one all : BoolId) → length ss ≡ length ts → AreEqual old ss ts r → Keeps old mid → IsEquality mid a b one → Keeps mid new → HasBool new.nodes all → ((h : Graph) → Grows new h → (e : Env) → bool_value h e all ≡ (bool_value h e r && bool_value h e one)) → AreEqual new (ss ++ a ∷ []) (ts ++ b ∷ []) all
equal_push {old} {mid} {new} ss ts a b r one all l are k is k' there value = record { there = there; value = λ h more e. by h e (k'.later h more) (value h more e) }
  where
    by : (h : Graph) (e : Env) → Grows mid h → bool_value h e all ≡ (bool_value h e r && bool_value h e one) → (bool_value h e all ≡ true) ↔ (shapes_value h e (ss ++ a ∷ []) ≡ shapes_value h e (ts ++ b ∷ []))
    by h e more v = (
      λ t. let p = and_both (bool_value h e r) (bool_value h e one) (sym v ∙ t) in
          map_push (shape_value h e) ss a ∙ (λ i. (are.value h (k.later h more) e).0 p.0 i ++ (is.value h more e).0 p.1 i ∷ []) ∙ sym (map_push (shape_value h e) ts b),
      λ t. let p = push_same (shapes_value h e ss) (shapes_value h e ts) (shape_value h e a) (shape_value h e b)
          (length_map (shape_value h e) ss ∙ l ∙ sym (length_map (shape_value h e) ts))
          (sym (map_push (shape_value h e) ss a) ∙ t ∙ map_push (shape_value h e) ts b) in
          v ∙ both_and (bool_value h e r) (bool_value h e one) ((are.value h (k.later h more) e).1 p.0) ((is.value h more e).1 p.1),
    )

pub equal_more : {old mid new : Graph} (list others : List Shape) (i : ℕ) (a b : Shape) (r one all : BoolId) → map blank list ≡ map blank others → i < length list → i < length others → a ≡ get_or list i a → b ≡ get_or others i b → AreEqual old (take i list) (take i others) r → Keeps old mid → IsEquality mid a b one → Keeps mid new → HasBool new.nodes all → ((h : Graph) → Grows new h → (e : Env) → bool_value h e all ≡ (bool_value h e r && bool_value h e one)) → AreEqual new (take (i + 1) list) (take (i + 1) others) all
equal_more {old} {mid} {new} list others i a b r one all e l m p q are k is k' there value =
    let more : take (i + 1) list ≡ take i list ++ a ∷ [] = take_more list i a l ∙ ap (λ x. take i list ++ x ∷ []) (sym p) in
    let more' : take (i + 1) others ≡ take i others ++ b ∷ [] = take_more others i b m ∙ ap (λ x. take i others ++ x ∷ []) (sym q) in
    let long : length (take i list) ≡ length (take i others) = length_take i list (omega (arith, l)) ∙ sym (length_take i others (omega (arith, m))) in
    subst (λ xs. AreEqual new xs (take (i + 1) others) all) (sym more)
    (subst (λ ys. AreEqual new (take i list ++ a ∷ []) ys all) (sym more') (equal_push (take i list) (take i others) a b r one all long are k is k' there value))
  where
    length_take : (n : ℕ) (xs : List Shape) → n ≤ length xs → length (take n xs) ≡ n
    length_take zero xs h = refl
    length_take (suc n) [] h = absurd (omega (arith, h))
    length_take (suc n) (x ∷ xs) h = ap suc (length_take n xs (omega (arith, h)))

pub equal_done : {g : Graph} (list others : List Shape) (r : BoolId) (i : ℕ) → length list ≤ i → map blank list ≡ map blank others → AreEqual g (take i list) (take i others) r → AreEqual g list others r
equal_done {g} list others r i l e are =
    let same = forms_long list others e in
    subst (λ xs. AreEqual g xs others r) (take_all i list l)
    (subst (λ ys. AreEqual g (take i list) ys r) (take_all i others (omega (arith, l, same))) are)
