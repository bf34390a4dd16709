-- Writes by an index, under a guard.
use Rattle.std.proofs.Common.{◌≡◌, ℕ, zero, suc, ◌+◌, ◌<◌, ◌≤◌, Bool, true, false, true≢false, not, ◌&&◌, List, [], ◌∷◌, ◌++◌, length, take, get_or, ℤ, pos, negsuc, refl, sym, ap, subst, ◌∙◌, arith, if◌then◌else◌}
use Rattle.std.specs.Prelude.{slice_set}
use Rattle.std.proofs.lemmas.List.{take_more, take_all}
use Rattle.std.specs.Ordering.{int_eq}
use Rattle.std.proofs.lemmas.Bool.Decides.{Decides-int_eq}
use Rattle.sk_dag.specs.declared.env.Env.{Env}
use Rattle.sk_dag.specs.declared.node.BoolId.{BoolId}
use Rattle.sk_dag.specs.declared.node.WordId.{WordId}
use Rattle.sk_dag.specs.declared.shape.Seen.{Seen}
use Rattle.sk_dag.specs.declared.shape.Shape.{Shape}
use Rattle.sk_dag.specs.Graph.{Graph, Grows, HasBool}
use Rattle.sk_dag.specs.Eval.{bool_value, word_value, Keeps}
use Rattle.sk_dag.specs.EvalShape.{shape_value}
use Rattle.sk_dag.proofs.EvalLemmas.{Keeps-trans}
use Rattle.sk_arr.specs.Places.{is_within, replaced_at}
use Rattle.sk_arr.specs.Shapes.{blank, Alike}
use Rattle.sk_arr.specs.Answers.{shapes_value, IsChoice, IsWritten}
use Rattle.sk_arr.specs.Steps.{IsWrittenAt, AreWritten}
use Rattle.sk_arr.proofs.Makers.{Keeps-refl}
use Rattle.sk_arr.proofs.Standing.{AllStand-keeps}
use Rattle.sk_arr.proofs.Values.{map_push, length_map, stand_none, stand_push, passes_push, passes_front, passes_last}

is_pos : (i n : ℕ) → int_eq (pos i) (pos n) ≡ true → i ≡ n
is_pos i n e = ap number ((Decides-int_eq (pos i) (pos n)).0 e)
  where
    number : ℤ → ℕ
    number (pos k) = k
    number (negsuc k) = 0

is_other : (z w : ℤ) → (z ≡ w → ⊥) → int_eq z w ≡ false
is_other z w h = by (int_eq z w) refl
  where
    by : (b : Bool) → int_eq z w ≡ b → b ≡ false
    by false e = refl
    by true e = absurd (h ((Decides-int_eq z w).0 e))

module _ (x v : Seen) where
  -- one element more: it is the one replaced where the index is its place
  set_push : (b : Bool) (xs : List Seen) (i : ℕ) → (b ≡ true → i ≡ length xs) → (b ≡ false → i ≡ length xs → ⊥) → slice_set (xs ++ x ∷ []) i v ≡ slice_set xs i v ++ (if b then v else x) ∷ []
  set_push true [] zero f g = refl
  set_push false [] zero f g = absurd (g refl refl)
  set_push true [] (suc i) f g = absurd (omega (arith, f refl))
  set_push false [] (suc i) f g = refl
  set_push b (y ∷ ys) zero f g = by b f
    where
      by : (b : Bool) → (b ≡ true → zero ≡ length (y ∷ ys)) → v ∷ (ys ++ x ∷ []) ≡ v ∷ (ys ++ (if b then v else x) ∷ [])
      by true h = absurd (omega (arith, h refl))
      by false h = refl
  set_push b (y ∷ ys) (suc i) f g = ap (λ l. y ∷ l) (set_push b ys i (λ e. omega (arith, f e)) (λ e s. g e (ap suc s)))

  pub replaced_push : (xs : List Seen) (z : ℤ) → replaced_at (xs ++ x ∷ []) z v ≡ replaced_at xs z v ++ (if int_eq z (pos (length xs)) then v else x) ∷ []
  replaced_push xs (pos i) = set_push (int_eq (pos i) (pos (length xs))) xs i (is_pos i (length xs)) (λ other same. true≢false (sym ((Decides-int_eq (pos i) (pos (length xs))).1 (ap (λ n. pos n) same)) ∙ other))
  replaced_push xs (negsuc i) = ap (λ b. xs ++ (if b then v else x) ∷ []) (sym (is_other (negsuc i) (pos (length xs)) (λ e. true≢false (ap is_negative (e)))))
    where
      is_negative : ℤ → Bool
      is_negative (pos n) = false
      is_negative (negsuc n) = true

pub written_at : {new : Graph} {guard test : BoolId} {index : WordId} {place : ℕ} {value old r : Shape} → ((h : Graph) → Grows new h → (e : Env) → bool_value h e test ≡ (bool_value h e guard && int_eq (word_value h e index) (pos place))) → IsChoice new test value old r → Alike value old → IsWrittenAt new guard index place value old r
written_at {new} {guard} {test} {index} {place} {value} {old} {r} tested is alike = record {
  stands = is.stands;
  alike = is.alike ∙ alike;
  named = is.named;
  written = λ h more e. is.value h more e ∙ ap (λ b. if b then shape_value h e value else shape_value h e old) (tested h more e);
}

pub written_none : (g : Graph) (guard : BoolId) (index : WordId) (value : Shape) → AreWritten g guard [] index value []
written_none g guard index value = record {
  stand = stand_none g;
  alike = refl;
  named = λ test p q. p;
  written = λ h more e. by (bool_value h e guard) (word_value h e index) (shape_value h e value);
}
  where
    by : (b : Bool) (z : ℤ) (v : Seen) → [] ≡ (if b then replaced_at [] z v else [])
    by true (pos i) v = refl
    by true (negsuc i) v = refl
    by false z v = refl

pub written_push : {mid new : Graph} {guard : BoolId} {index : WordId} {value : Shape} (ss rs : List Shape) (a r : Shape) (place : ℕ) → AreWritten mid guard ss index value rs → Keeps mid new → IsWrittenAt new guard index place value a r → place ≡ length ss → AreWritten new guard (ss ++ a ∷ []) index value (rs ++ r ∷ [])
written_push {mid} {new} {guard} {index} {value} ss rs a r place are k is at = record {
  stand = stand_push rs r (AllStand-keeps k are.stand) is.stands;
  alike = map_push blank rs r ∙ (λ i. are.alike i ++ is.alike i ∷ []) ∙ sym (map_push blank ss a);
  named = λ test p q. passes_push rs r (are.named test (passes_front ss a p) q) (is.named test q (passes_last ss a p));
  written = λ h more e. map_push (shape_value h e) rs r ∙ by h e (bool_value h e guard) (are.written h (k.later h more) e) (is.written h more e);
}
  where
    by : (h : Graph) (e : Env) (b : Bool) → shapes_value h e rs ≡ (if b then replaced_at (shapes_value h e ss) (word_value h e index) (shape_value h e value) else shapes_value h e ss)
        → shape_value h e r ≡ (if b && int_eq (word_value h e index) (pos place) then shape_value h e value else shape_value h e a)
        → shapes_value h e rs ++ shape_value h e r ∷ [] ≡ (if b then replaced_at (shapes_value h e (ss ++ a ∷ [])) (word_value h e index) (shape_value h e value) else shapes_value h e (ss ++ a ∷ []))
    by h e false p q = (λ i. p i ++ q i ∷ []) ∙ sym (map_push (shape_value h e) ss a)
    by h e true p q =
        (λ i. p i ++ q i ∷ [])
        ∙ ap (λ n. replaced_at (shapes_value h e ss) (word_value h e index) (shape_value h e value) ++ (if int_eq (word_value h e index) (pos n) then shape_value h e value else shape_value h e a) ∷ []) (at ∙ sym (length_map (shape_value h e) ss))
        ∙ sym (replaced_push (shape_value h e a) (shape_value h e value) (shapes_value h e ss) (word_value h e index))
        ∙ ap (λ l. replaced_at l (word_value h e index) (shape_value h e value)) (sym (map_push (shape_value h e) ss a))

pub written_more : {mid new : Graph} {guard : BoolId} {index : WordId} {value : Shape} (list made : List Shape) (i place : ℕ) (a r : Shape) → i < length list → a ≡ get_or list i a → place ≡ i → AreWritten mid guard (take i list) index value made → Keeps mid new → IsWrittenAt new guard index place value a r → AreWritten new guard (take (i + 1) list) index value (made ++ r ∷ [])
written_more {mid} {new} {guard} {index} {value} list made i place a r l is at are k one =
    let more : take (i + 1) list ≡ take i list ++ a ∷ [] = take_more list i a l ∙ ap (λ x. take i list ++ x ∷ []) (sym is) in
    subst (λ xs. AreWritten new guard xs index value (made ++ r ∷ [])) (sym more)
    (written_push (take i list) made a r place are k one (at ∙ sym (length_take i list (omega (arith, l)))))
  where
    length_take : (n : ℕ) (xs : List Shape) → n ≤ length xs → length (take n xs) ≡ n
    length_take zero xs h = refl
    length_take (suc n) [] h = absurd (omega (arith, h))
    length_take (suc n) (x ∷ xs) h = ap suc (length_take n xs (omega (arith, h)))

pub written_whole : {g : Graph} {guard : BoolId} {index : WordId} {value : Shape} (list made : List Shape) (i : ℕ) → length list ≤ i → AreWritten g guard (take i list) index value made → AreWritten g guard list index value made
written_whole {g} {guard} {index} {value} list made i l are = subst (λ xs. AreWritten g guard xs index value made) (take_all i list l) are

pub written_done : {mid new : Graph} {guard : BoolId} {list made : List Shape} {index : WordId} {value : Shape} {outside : BoolId} → AreWritten mid guard list index value made → Keeps mid new → HasBool new.nodes outside → ((h : Graph) → Grows new h → (e : Env) → bool_value h e outside ≡ not (is_within (length list) (word_value h e index))) → IsWritten new guard list index value made outside
written_done {made = made} are k there left = record {
  stand = AllStand-keeps k are.stand;
  there = there;
  alike = are.alike;
  named = are.named;
  left = left;
  written = λ h more e. are.written h (k.later h more) e;
}

pub ruleset writes = (Keeps-refl, Keeps-trans, written_at)

pub ruleset whole = (Keeps-trans, written_done)
