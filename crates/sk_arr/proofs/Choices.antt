-- One of two shapes, part by part.
use Rattle.std.proofs.lemmas.List.{take_more, take_all}
use Rattle.std.proofs.Common.{◌≡◌, ℕ, zero, suc, ◌+◌, ◌<◌, ◌≤◌, arith, Bool, true, false, List, [], ◌∷◌, ◌++◌, length, map, take, get_or, None, IsTrue, refl, sym, ap, subst, ◌∙◌, if◌then◌else◌}
use Rattle.std.proofs.lemmas.List.Elements.{All-nil}
use Rattle.sk_dag.specs.declared.env.Env.{Env}
use Rattle.sk_dag.specs.declared.node.BoolId.{BoolId}
use Rattle.sk_dag.specs.declared.node.WordId.{WordId}
use Rattle.sk_dag.specs.declared.shape.Targets.{Targets}
use Rattle.sk_dag.specs.declared.shape.Seen.{Seen}
use Rattle.sk_dag.specs.declared.shape.Seen.TheVariants.{Bit as SeenBit, Int as SeenInt, Slot as SeenSlot, Array as SeenArray}
use Rattle.sk_dag.specs.declared.shape.Shape.{Shape}
use Rattle.sk_dag.specs.declared.shape.Shape.TheVariants as shape
use Rattle.sk_dag.specs.Graph.{Graph, Grows, HasBool, HasWord}
use Rattle.sk_dag.specs.Eval.{bool_value, word_value, Keeps}
use Rattle.sk_dag.specs.EvalShape.{shape_value}
use Rattle.sk_dag.proofs.EvalLemmas.{Grows-refl}
use Rattle.sk_arr.specs.Held.{held_in, AreMerged}
use Rattle.sk_arr.specs.Shapes.{blank, Alike, Stands, AllStand}
use Rattle.sk_arr.specs.Answers.{shapes_value, IsCopy, IsChoice, AreChoices}
use Rattle.sk_arr.proofs.Makers.{Keeps-refl}
use Rattle.sk_arr.proofs.Targets.{first_of, held_slot_first}
use Rattle.sk_arr.proofs.Forms.{form_bit, form_int, form_reference, form_array}
use Rattle.sk_arr.proofs.Standing.{bit_there, int_there, targets_there, parts_stand, alike_parts, Stands-keeps, AllStand-keeps, bit_stands, int_stands, reference_stands, targets_few, array_stands}
use Rattle.sk_arr.proofs.Values.{value_bit, value_int, value_reference, value_array, blank_bit, blank_int, blank_reference, blank_array, bit_passes, int_passes, reference_passes, targets_pass, array_passes, parts_pass, map_push, length_map, stand_none, stand_push, passes_push, passes_front, passes_last}

-- a function of a choice is a choice of what it makes
pub if_ap : {A B : Type 0} (f : A → B) (b : Bool) (x y : A) → f (if b then x else y) ≡ (if b then f x else f y)
if_ap f true x y = refl
if_ap f false x y = refl

if_both : {A : Type 0} (b : Bool) {x x' y y' : A} → x ≡ x' → y ≡ y' → (if b then x else y) ≡ (if b then x' else y')
if_both true p q = p
if_both false p q = q

pub choice_bit : {g : Graph} {c a b r : BoolId} → HasBool g.nodes r → ((h : Graph) → Grows g h → (e : Env) → bool_value h e r ≡ (if bool_value h e c then bool_value h e a else bool_value h e b)) → IsChoice g c (shape.Bit a) (shape.Bit b) (shape.Bit r)
choice_bit {g} {c} {a} {b} {r} there value = record {
  stands = bit_stands g r there;
  alike = blank_bit r ∙ sym (blank_bit a);
  named = λ test p q. bit_passes test r;
  value = λ h more e. value_bit h e r ∙ ap (λ v. SeenBit v) (value h more e) ∙ if_ap (λ v. SeenBit v) (bool_value h e c) (bool_value h e a) (bool_value h e b) ∙ if_both (bool_value h e c) (sym (value_bit h e a)) (sym (value_bit h e b));
}

pub choice_int : {g : Graph} {c : BoolId} {a b r : WordId} → HasWord g.nodes r → ((h : Graph) → Grows g h → (e : Env) → word_value h e r ≡ (if bool_value h e c then word_value h e a else word_value h e b)) → IsChoice g c (shape.Int a) (shape.Int b) (shape.Int r)
choice_int {g} {c} {a} {b} {r} there value = record {
  stands = int_stands g r there;
  alike = blank_int r ∙ sym (blank_int a);
  named = λ test p q. int_passes test r;
  value = λ h more e. value_int h e r ∙ ap (λ v. SeenInt v) (value h more e) ∙ if_ap (λ v. SeenInt v) (bool_value h e c) (word_value h e a) (word_value h e b) ∙ if_both (bool_value h e c) (sym (value_int h e a)) (sym (value_int h e b));
}

pub choice_reference : {old new : Graph} {c : BoolId} {a b r : Targets} → Keeps old new → Stands old (shape.Reference a) → Stands old (shape.Reference b) → AreMerged new c a.slots.items b.slots.items [] r.slots.items → IsChoice new c (shape.Reference a) (shape.Reference b) (shape.Reference r)
choice_reference {old} {new} {c} {a} {b} {r} keeps sa sb merged = record {
  stands = reference_stands new r merged.there few_of;
  alike = blank_reference r ∙ sym (blank_reference a);
  named = λ test p q. reference_passes test r (merged.named test (targets_pass test a p) (targets_pass test b q) (record { each = All-nil (λ t. IsTrue (test t.0)) }));
  value = λ h more e.
      value_reference h e r
      ∙ ap (λ s. SeenSlot s) (held_slot_first h e r.slots.items ∙ ap first_of (merged.held h more e))
      ∙ if_ap (λ l. SeenSlot (first_of l)) (bool_value h e c) (held_in h e a.slots.items) (held_in h e b.slots.items)
      ∙ if_both (bool_value h e c) (seen h e a) (seen h e b);
}
  where
    few_of : (e : Env) → length (held_in new e r.slots.items) ≤ 1
    few_of e = subst (λ l. length l ≤ 1) (sym (merged.held new (Grows-refl new) e)) (by (bool_value new e c))
      where
        by : (o : Bool) → length (if o then held_in new e a.slots.items else held_in new e b.slots.items) ≤ 1
        by true = targets_few new a (Stands-keeps keeps sa) e
        by false = targets_few new b (Stands-keeps keeps sb) e

    seen : (h : Graph) (e : Env) (t : Targets) → SeenSlot (first_of (held_in h e t.slots.items)) ≡ shape_value h e (shape.Reference t)
    seen h e t = ap (λ s. SeenSlot s) (sym (held_slot_first h e t.slots.items)) ∙ sym (value_reference h e t)

pub choice_array : {g : Graph} {c : BoolId} {ss ts rs : List Shape} → AreChoices g c ss ts rs → IsChoice g c (shape.Array ss) (shape.Array ts) (shape.Array rs)
choice_array {g} {c} {ss} {ts} {rs} are = record {
  stands = array_stands g rs are.stands;
  alike = blank_array rs ∙ ap (λ l. SeenArray l) are.alike ∙ sym (blank_array ss);
  named = λ test p q. array_passes test rs (are.named test (parts_pass test ss p) (parts_pass test ts q));
  value = λ h more e.
      value_array h e rs ∙ ap (λ l. SeenArray l) (are.value h more e)
      ∙ if_ap (λ l. SeenArray l) (bool_value h e c) (shapes_value h e ss) (shapes_value h e ts)
      ∙ if_both (bool_value h e c) (sym (value_array h e ss)) (sym (value_array h e ts));
}

pub choices_none : (g : Graph) (c : BoolId) → AreChoices g c [] [] []
choices_none g c = record { stands = stand_none g; alike = refl; named = λ test p q. p; value = λ h more e. by (bool_value h e c) [] }
  where
    by : (b : Bool) (vs : List Seen) → vs ≡ (if b then vs else vs)
    by true vs = refl
    by false vs = refl

pub choices_push : {mid new : Graph} {c : BoolId} (ss ts rs : List Shape) (a b r : Shape) → AreChoices mid c ss ts rs → Keeps mid new → IsChoice new c a b r → AreChoices new c (ss ++ a ∷ []) (ts ++ b ∷ []) (rs ++ r ∷ [])
choices_push {mid} {new} {c} ss ts rs a b r are keeps is = record {
  stands = stand_push rs r (AllStand-keeps keeps are.stands) is.stands;
  alike = map_push blank rs r ∙ (λ i. are.alike i ++ is.alike i ∷ []) ∙ sym (map_push blank ss a);
  named = λ test p q. passes_push rs r
      (are.named test (passes_front ss a p) (passes_front ts b q))
      (is.named test (passes_last ss a p) (passes_last ts b q));
  value = λ h more e. map_push (shape_value h e) rs r ∙ by h e (bool_value h e c) (are.value h (keeps.later h more) e) (is.value h more e);
}
  where
    by : (h : Graph) (e : Env) (o : Bool) → shapes_value h e rs ≡ (if o then shapes_value h e ss else shapes_value h e ts) → shape_value h e r ≡ (if o then shape_value h e a else shape_value h e b) → shapes_value h e rs ++ shape_value h e r ∷ [] ≡ (if o then shapes_value h e (ss ++ a ∷ []) else shapes_value h e (ts ++ b ∷ []))
    by h e true p q = (λ i. p i ++ q i ∷ []) ∙ sym (map_push (shape_value h e) ss a)
    by h e false p q = (λ i. p i ++ q i ∷ []) ∙ sym (map_push (shape_value h e) ts b)

-- where it is known which one it is
pub choice_first : {g : Graph} {c : BoolId} {a b r : Shape} → ((h : Graph) → Grows g h → (e : Env) → bool_value h e c ≡ true) → IsCopy g a r → IsChoice g c a b r
choice_first {g} {c} {a} {b} {r} known copy = record {
  stands = copy.stands;
  alike = copy.alike;
  named = λ test p q. copy.named test p;
  value = λ h more e. copy.value h e ∙ sym (ap (λ o. if o then shape_value h e a else shape_value h e b) (known h more e));
}

pub choice_second : {g : Graph} {c : BoolId} {a b r : Shape} → ((h : Graph) → Grows g h → (e : Env) → bool_value h e c ≡ false) → Alike a b → IsCopy g b r → IsChoice g c a b r
choice_second {g} {c} {a} {b} {r} known alike copy = record {
  stands = copy.stands;
  alike = copy.alike ∙ sym alike;
  named = λ test p q. copy.named test q;
  value = λ h more e. copy.value h e ∙ sym (ap (λ o. if o then shape_value h e a else shape_value h e b) (known h more e));
}

-- in the words of a match on the shapes
pub choice_bits_at : {g : Graph} {c a b r : BoolId} {s u : Shape} → s ≡ shape.Bit a → u ≡ shape.Bit b → HasBool g.nodes r → ((h : Graph) → Grows g h → (e : Env) → bool_value h e r ≡ (if bool_value h e c then bool_value h e a else bool_value h e b)) → IsChoice g c s u (shape.Bit r)
choice_bits_at {g} {c} {a} {b} {r} {s} {u} p q there value = subst (λ x. IsChoice g c x u (shape.Bit r)) (sym p) (subst (λ y. IsChoice g c (shape.Bit a) y (shape.Bit r)) (sym q) (choice_bit there value))

pub choice_ints_at : {g : Graph} {c : BoolId} {a b r : WordId} {s u : Shape} → s ≡ shape.Int a → u ≡ shape.Int b → HasWord g.nodes r → ((h : Graph) → Grows g h → (e : Env) → word_value h e r ≡ (if bool_value h e c then word_value h e a else word_value h e b)) → IsChoice g c s u (shape.Int r)
choice_ints_at {g} {c} {a} {b} {r} {s} {u} p q there value = subst (λ x. IsChoice g c x u (shape.Int r)) (sym p) (subst (λ y. IsChoice g c (shape.Int a) y (shape.Int r)) (sym q) (choice_int there value))

pub choice_targets_at : {old new : Graph} {c : BoolId} {a b r : Targets} {s u : Shape} → s ≡ shape.Reference a → u ≡ shape.Reference b → Keeps old new → Stands old s → Stands old u → AreMerged new c a.slots.items b.slots.items [] r.slots.items → IsChoice new c s u (shape.Reference r)
choice_targets_at {old} {new} {c} {a} {b} {r} {s} {u} p q k sa sb merged = subst (λ x. IsChoice new c x u (shape.Reference r)) (sym p) (subst (λ y. IsChoice new c (shape.Reference a) y (shape.Reference r)) (sym q) (choice_reference k (subst (Stands old) p sa) (subst (Stands old) q sb) merged))

pub choice_parts_at : {g : Graph} {c : BoolId} {ss ts rs : List Shape} {s u : Shape} → s ≡ shape.Array ss → u ≡ shape.Array ts → AreChoices g c ss ts rs → IsChoice g c s u (shape.Array rs)
choice_parts_at {g} {c} {ss} {ts} {rs} {s} {u} p q are = subst (λ x. IsChoice g c x u (shape.Array rs)) (sym p) (subst (λ y. IsChoice g c (shape.Array ss) y (shape.Array rs)) (sym q) (choice_array are))

pub choices_more : {mid new : Graph} {c : BoolId} (list others made : List Shape) (i : ℕ) (a b r : Shape) → i < length list → i < length others → a ≡ get_or list i a → b ≡ get_or others i b → AreChoices mid c (take i list) (take i others) made → Keeps mid new → IsChoice new c a b r → AreChoices new c (take (i + 1) list) (take (i + 1) others) (made ++ r ∷ [])
choices_more {mid} {new} {c} list others made i a b r l m p q are k is =
    let more : take (i + 1) list ≡ take i list ++ a ∷ [] = take_more list i a l ∙ ap (λ x. take i list ++ x ∷ []) (sym p) in
    let more' : take (i + 1) others ≡ take i others ++ b ∷ [] = take_more others i b m ∙ ap (λ x. take i others ++ x ∷ []) (sym q) in
    subst (λ xs. AreChoices new c xs (take (i + 1) others) (made ++ r ∷ [])) (sym more)
    (subst (λ ys. AreChoices new c (take i list ++ a ∷ []) ys (made ++ r ∷ [])) (sym more') (choices_push (take i list) (take i others) made a b r are k is))

-- lists of equal forms are equally long, and alike one by one
pub forms_long : (list others : List Shape) → map blank list ≡ map blank others → length list ≡ length others
forms_long list others e = sym (length_map blank list) ∙ ap length e ∙ length_map blank others

pub forms_alike : (list others : List Shape) (i : ℕ) (a b : Shape) → map blank list ≡ map blank others → i < length list → i < length others → a ≡ get_or list i a → b ≡ get_or others i b → Alike a b
forms_alike list others i a b e l m p q = ap blank p ∙ get_or_mapped list i a l ∙ ap (λ vs. get_or vs i (SeenSlot None)) e ∙ sym (get_or_mapped others i b m) ∙ sym (ap blank q)
  where
    get_or_mapped : (xs : List Shape) (k : ℕ) (d : Shape) → k < length xs → blank (get_or xs k d) ≡ get_or (map blank xs) k (SeenSlot None)
    get_or_mapped [] k d h = absurd (omega (arith, h))
    get_or_mapped (x ∷ xs) zero d h = refl
    get_or_mapped (x ∷ xs) (suc k) d h = get_or_mapped xs k d (omega (arith, h))

pub stand_at : {g : Graph} (ss : List Shape) (i : ℕ) (a : Shape) → i < length ss → a ≡ get_or ss i a → AllStand g ss → Stands g a
stand_at {g} ss i a l is h = subst (Stands g) (sym is) (h.each i a l)

pub choices_done : {g : Graph} {c : BoolId} (list others made : List Shape) (i : ℕ) → length list ≤ i → map blank list ≡ map blank others → AreChoices g c (take i list) (take i others) made → AreChoices g c list others made
choices_done {g} {c} list others made i l e are =
    let same = forms_long list others e in
    subst (λ xs. AreChoices g c xs others made) (take_all i list l)
    (subst (λ ys. AreChoices g c (take i list) ys made) (take_all i others (omega (arith, l, same))) are)

pub ruleset parts = (form_bit, form_int, form_reference, form_array, bit_there, int_there, targets_there)

pub ruleset known = (Keeps-refl)
