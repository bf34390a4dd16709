-- Reads by an index.
use Rattle.std.proofs.Common.{◌≡◌, ℕ, zero, suc, ◌+◌, ◌-◌, ◌<◌, ◌≤◌, Bool, true, false, true≢false, not, List, [], ◌∷◌, length, map, get_or, slice_get, Some, ℤ, pos, negsuc, All, ⊎_elim, refl, sym, ap, subst, ◌∙◌, arith, if◌then◌else◌}
use Rattle.std.specs.Prelude.{nat_lt, int_lt}
use Rattle.std.proofs.lemmas.Bool.{cases_lt, lt-ltb, ltb-true}
use Rattle.sk_dag.specs.declared.env.Env.{Env}
use Rattle.sk_dag.specs.declared.node.BoolId.{BoolId}
use Rattle.sk_dag.specs.declared.node.WordId.{WordId}
use Rattle.sk_dag.specs.declared.shape.Seen.{Seen}
use Rattle.sk_dag.specs.declared.shape.Shape.{Shape}
use Rattle.sk_dag.specs.Graph.{Graph, Grows, HasBool}
use Rattle.sk_dag.specs.Eval.{bool_value, word_value, Keeps}
use Rattle.sk_dag.specs.EvalShape.{shape_value}
use Rattle.sk_dag.proofs.EvalLemmas.{Keeps-trans}
use Rattle.sk_arr.specs.Places.{is_within, element_of}
use Rattle.sk_arr.specs.Shapes.{Alike, AllAlike, SlotsPass}
use Rattle.sk_arr.specs.Answers.{shapes_value, IsCopy, IsChoice, IsRead}
use Rattle.sk_arr.specs.Steps.{IsBefore, IsReadAmong, IsReadFrom}
use Rattle.sk_arr.proofs.Makers.{Keeps-refl}
use Rattle.sk_arr.proofs.Standing.{Stands-keeps}

slice_get_map : {A B : Type 0} (f : A → B) (xs : List A) (i : ℕ) (d : A) → i < length xs → slice_get (map f xs) i ≡ Some (f (get_or xs i d))
slice_get_map f [] i d l = absurd (omega (arith, l))
slice_get_map f (x ∷ xs) zero d l = refl
slice_get_map f (x ∷ xs) (suc i) d l = slice_get_map f xs i d (omega (arith, l))

all_alike_to : (list : List Shape) (k : ℕ) (a : Shape) → k < length list → a ≡ get_or list k a → AllAlike list → All (Alike a) list
all_alike_to list k a l is all = subst (λ s. All (Alike s) list) (sym is) ((all.each k a l).each)

one_choice : (o : Bool) (x y z : Seen) (b : Bool) → z ≡ (if b then x else y) → b ≡ o → z ≡ (if o then x else y)
one_choice o x y z b e q = e ∙ ap (λ c. if c then x else y) q

-- one element is read among itself
pub among_one : {g : Graph} {list : List Shape} {index : WordId} {a r : Shape} (k : ℕ) → k < length list → a ≡ get_or list k a → AllAlike list → IsCopy g a r → IsReadAmong g list index k 1 r
among_one {g} {list} {index} {a} {r} k within is all copy = record {
  stands = copy.stands;
  alike = record { each = λ j d l. copy.alike ∙ all_alike_to list k a within is all j d l };
  named = λ test p. copy.named test (subst (SlotsPass test) (sym is) (p.each k a within));
  value = λ h more e i low high w. at h e i (omega (arith, low, high));
  above = λ h more e i high w. at h e (k + 1 - 1) (omega arith);
}
  where
    at : (h : Graph) (e : Env) (i : ℕ) → i ≡ k → slice_get (shapes_value h e list) i ≡ Some (shape_value h e r)
    at h e i same =
        ap (slice_get (shapes_value h e list)) same
        ∙ slice_get_map (shape_value h e) list k a within
        ∙ ap (λ s. Some (shape_value h e s)) (sym is)
        ∙ ap (λ v. Some v) (sym (copy.value h e))

-- what is below a place, and what is not
below_place : (z : ℤ) (i place : ℕ) → z ≡ pos i → i < place → int_lt z (pos place) ≡ true
below_place z i place w l = ap (λ y. int_lt y (pos place)) w ∙ lt-ltb i place l

not_below_place : (z : ℤ) (i place : ℕ) → z ≡ pos i → place ≤ i → int_lt z (pos place) ≡ false
not_below_place z i place w l = ap (λ y. int_lt y (pos place)) w ∙ by (nat_lt i place) refl
  where
    by : (b : Bool) → nat_lt i place ≡ b → b ≡ false
    by false e = refl
    by true e = absurd (omega (arith, ltb-true i place e, l))

pub among_both_alike : {g h : Graph} {list : List Shape} {index : WordId} {low count more others : ℕ} {a b : Shape} → IsReadAmong g list index low count a → IsReadAmong h list index more others b → 1 ≤ length list → Alike a b
among_both_alike {g} {h} {list} {index} {low} {count} {more} {others} {a} {b} p q some = p.alike.each 0 a some ∙ sym (q.alike.each 0 a some)

-- of two halves
pub among_both : {old mid later new : Graph} {list : List Shape} {index : WordId} {low half count : ℕ} {test : BoolId} {a b r : Shape} → IsBefore old index (low + half) test → Keeps old mid → IsReadAmong mid list index low half a → Keeps mid later → IsReadAmong later list index (low + half) (count - half) b → Keeps later new → IsChoice new test a b r → 1 ≤ half → half < count → IsReadAmong new list index low count r
among_both {old} {mid} {later} {new} {list} {index} {low} {half} {count} {test} {a} {b} {r} before k first k' second k'' is some most = record {
  stands = is.stands;
  alike = record { each = λ j d l. is.alike ∙ first.alike.each j d l };
  named = λ t p. is.named t (first.named t p) (second.named t p);
  value = λ h more e i from to w.
      ⊎_elim
      (λ (here : i < low + half).
      first.value h (k'.later h (k''.later h more)) e i from here w
      ∙ ap (λ v. Some v) (sym (one_choice true (shape_value h e a) (shape_value h e b) (shape_value h e r) (bool_value h e test) (is.value h more e)
      (before.value h (k.later h (k'.later h (k''.later h more))) e ∙ below_place (word_value h e index) i (low + half) w here))))
      (λ (there : low + half ≤ i).
      second.value h (k''.later h more) e i there (omega (arith, to, most)) w
      ∙ ap (λ v. Some v) (sym (one_choice false (shape_value h e a) (shape_value h e b) (shape_value h e r) (bool_value h e test) (is.value h more e)
      (before.value h (k.later h (k'.later h (k''.later h more))) e ∙ not_below_place (word_value h e index) i (low + half) w there))))
      (cases_lt i (low + half));
  above = λ h more e i high w.
      let same : low + count - 1 ≡ low + half + (count - half) - 1 = omega (arith, most) in
      ap (slice_get (shapes_value h e list)) same
      ∙ second.above h (k''.later h more) e i (omega (arith, high, most)) w
      ∙ ap (λ v. Some v) (sym (one_choice false (shape_value h e a) (shape_value h e b) (shape_value h e r) (bool_value h e test) (is.value h more e)
      (before.value h (k.later h (k'.later h (k''.later h more))) e ∙ not_below_place (word_value h e index) i (low + half) w (omega (arith, high, most)))));
}

-- of the first half, where the index is always below the second
pub among_first : {old new : Graph} {list : List Shape} {index : WordId} {low half count : ℕ} {test : BoolId} {r : Shape} → IsBefore old index (low + half) test → ((h : Graph) → Grows old h → (e : Env) → bool_value h e test ≡ true) → Keeps old new → IsReadAmong new list index low half r → half < count → IsReadAmong new list index low count r
among_first {old} {new} {list} {index} {low} {half} {count} {test} {r} before always k first most = record {
  stands = first.stands;
  alike = first.alike;
  named = first.named;
  value = λ h more e i from to w.
      ⊎_elim
      (λ (here : i < low + half). first.value h more e i from here w)
      (λ (there : low + half ≤ i). absurd (never h more e i w there))
      (cases_lt i (low + half));
  above = λ h more e i high w. absurd (never h more e i w (omega (arith, high, most)));
}
  where
    never : (h : Graph) → Grows new h → (e : Env) (i : ℕ) → word_value h e index ≡ pos i → low + half ≤ i → ⊥
    never h more e i w there = true≢false (sym (always h (k.later h more) e) ∙ before.value h (k.later h more) e ∙ not_below_place (word_value h e index) i (low + half) w there)

-- of the second half, where the index is never below it
pub among_second : {old new : Graph} {list : List Shape} {index : WordId} {low half count : ℕ} {test : BoolId} {r : Shape} → IsBefore old index (low + half) test → ((h : Graph) → Grows old h → (e : Env) → bool_value h e test ≡ false) → Keeps old new → IsReadAmong new list index (low + half) (count - half) r → half < count → IsReadAmong new list index low count r
among_second {old} {new} {list} {index} {low} {half} {count} {test} {r} before never k second most = record {
  stands = second.stands;
  alike = second.alike;
  named = second.named;
  value = λ h more e i from to w.
      ⊎_elim
      (λ (here : i < low + half). absurd (true≢false (sym (below_place (word_value h e index) i (low + half) w here) ∙ sym (before.value h (k.later h more) e) ∙ never h (k.later h more) e)))
      (λ (there : low + half ≤ i). second.value h more e i there (omega (arith, to, most)) w)
      (cases_lt i (low + half));
  above = λ h more e i high w.
      let same : low + count - 1 ≡ low + half + (count - half) - 1 = omega (arith, most) in
      ap (slice_get (shapes_value h e list)) same ∙ second.above h more e i (omega (arith, high, most)) w;
}

-- among all
pub read_whole : {g : Graph} {list : List Shape} {index : WordId} {count : ℕ} {r : Shape} → IsReadAmong g list index 0 count r → count ≡ length list → IsReadFrom g list index r
read_whole {g} {list} {index} {count} {r} among all = record {
  stands = among.stands;
  alike = among.alike;
  named = among.named;
  value = λ h more e i l w. among.value h more e i (omega arith) (omega (arith, l, all)) w;
  last = λ h more e i l w.
      let same : length list - 1 ≡ 0 + count - 1 = omega (arith, all) in
      ap (slice_get (shapes_value h e list)) same ∙ among.above h more e i (omega (arith, l, all)) w;
}

pub read_done : {mid new : Graph} {list : List Shape} {index : WordId} {r : Shape} {outside : BoolId} → IsReadFrom mid list index r → Keeps mid new → HasBool new.nodes outside → ((h : Graph) → Grows new h → (e : Env) → bool_value h e outside ≡ not (is_within (length list) (word_value h e index))) → IsRead new list index r outside
read_done {mid} {new} {list} {index} {r} {outside} from k there left = record {
  stands = Stands-keeps k from.stands;
  there = there;
  alike = from.alike;
  named = from.named;
  left = left;
  value = λ h more e inside. by h (k.later h more) e (word_value h e index) refl (within (is_within (length list) (word_value h e index)) (sym (left h more e) ∙ inside));
}
  where
    within : (b : Bool) → not b ≡ false → b ≡ true
    within true e = refl
    within false e = sym e

    by : (h : Graph) → Grows mid h → (e : Env) (z : ℤ) → word_value h e index ≡ z → is_within (length list) z ≡ true → element_of (shapes_value h e list) z ≡ Some (shape_value h e r)
    by h more e (pos i) w t = from.value h more e i (ltb-true i (length list) t) w
    by h more e (negsuc i) w t = absurd (true≢false (sym t))

pub ruleset reads = (Keeps-refl, Keeps-trans)

pub ruleset whole = (Keeps-trans, read_done)
