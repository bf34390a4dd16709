-- Shifts of bits.
use Rattle.std.proofs.Common.{◌≡◌, ℕ, zero, suc, ◌+◌, ◌-◌, ◌<◌, ◌≤◌, min, Bool, true, false, List, [], ◌∷◌, ◌++◌, length, map, take, drop, slice_get, Some, pos, All, ⊎_elim, refl, sym, ap, subst, ◌∙◌, arith, append_assoc, append-nil, if◌then◌else◌}
use Rattle.std.specs.Prelude.{reverse, replicate, int_lt}
use Rattle.std.proofs.Math.Seq.{take-append_seam}
use Rattle.std.proofs.lemmas.Bool.{cases_lt}
use Rattle.std.proofs.lemmas.Option.{same_Some}
use Rattle.std.proofs.lemmas.List.{reverse-reverse, reverse-append, length-reverse, take-append-drop, length-drop, drop_all, drop-map}
use Rattle.std.proofs.lemmas.List.Elements.{All-drop, All-head, All-tail}
use Rattle.sk_dag.specs.declared.env.Env.{Env}
use Rattle.sk_dag.specs.declared.node.BoolId.{BoolId}
use Rattle.sk_dag.specs.declared.node.WordId.{WordId}
use Rattle.sk_dag.specs.declared.shape.Seen.{Seen}
use Rattle.sk_dag.specs.declared.shape.Seen.TheVariants.{Bit as SeenBit}
use Rattle.sk_dag.specs.declared.shape.Shape.{Shape}
use Rattle.sk_dag.specs.declared.shape.Shape.TheVariants as shape
use Rattle.sk_dag.specs.Graph.{Graph, Grows, HasBool}
use Rattle.sk_dag.specs.Eval.{bool_value, word_value, Keeps}
use Rattle.sk_dag.specs.EvalShape.{shape_value}
use Rattle.sk_dag.proofs.EvalLemmas.{Keeps-trans}
use Rattle.sk_model.specs.Operators.{moved_up, moved_down}
use Rattle.sk_arr.specs.Shapes.{blank, AllAlike, Stands, AllStand}
use Rattle.sk_arr.specs.Forms.{IsBit}
use Rattle.sk_arr.specs.Answers.{shapes_value, AreCopies}
use Rattle.sk_arr.specs.Steps.{IsReadFrom}
use Rattle.sk_arr.specs.Bits.{seen_bits, AreBits, ordered, IsRow, IsMoved, IsShifted}
use Rattle.sk_arr.proofs.Makers.{Keeps-refl}
use Rattle.sk_arr.proofs.Standing.{AllStand-keeps, bit_stands}
use Rattle.sk_arr.proofs.Values.{value_bit, map_push, length_map, all_push, stand_none, stand_push}
use Rattle.sk_arr.proofs.BitLaws.{is_bit, bits_none, bits_push, bit_alike, bits_alike, bits_all_alike, bits_long}

-- ---- orders

module _ {A : Type 0} where
  pub reverse_one : (x : A) (xs : List A) → reverse (x ∷ xs) ≡ reverse xs ++ x ∷ []
  reverse_one x xs = reverse-append (x ∷ []) xs

  pub ordered_twice : (turn : Bool) (xs : List A) → ordered turn (ordered turn xs) ≡ xs
  ordered_twice true xs = reverse-reverse xs
  ordered_twice false xs = refl

  pub length_ordered : (turn : Bool) (xs : List A) → length (ordered turn xs) ≡ length xs
  length_ordered true xs = length-reverse xs
  length_ordered false xs = refl

  all_reversed : (P : A → Type 0) (xs : List A) → All P xs → All P (reverse xs)
  all_reversed P [] h = h
  all_reversed P (x ∷ xs) h = subst (All P) (sym (reverse_one x xs)) (all_push P (reverse xs) x (all_reversed P xs (All-tail P x xs h)) (All-head P x xs h))

  pub all_ordered : (P : A → Type 0) (turn : Bool) (xs : List A) → All P xs → All P (ordered turn xs)
  all_ordered P true xs h = all_reversed P xs h
  all_ordered P false xs h = h

  map_reversed : {B : Type 0} (f : A → B) (xs : List A) → map f (reverse xs) ≡ reverse (map f xs)
  map_reversed f [] = refl
  map_reversed f (x ∷ xs) = ap (map f) (reverse_one x xs) ∙ map_push f (reverse xs) x ∙ ap (λ l. l ++ f x ∷ []) (map_reversed f xs) ∙ sym (reverse_one_mapped f x xs)
    where
      reverse_one_mapped : {B : Type 0} (f : A → B) (x : A) (xs : List A) → reverse (f x ∷ map f xs) ≡ reverse (map f xs) ++ f x ∷ []
      reverse_one_mapped f x xs = reverse-append (f x ∷ []) (map f xs)

  pub map_ordered : {B : Type 0} (f : A → B) (turn : Bool) (xs : List A) → map f (ordered turn xs) ≡ ordered turn (map f xs)
  map_ordered f true xs = map_reversed f xs
  map_ordered f false xs = refl

  replicate_push : (n : ℕ) (x : A) → replicate n x ++ x ∷ [] ≡ x ∷ replicate n x
  replicate_push zero x = refl
  replicate_push (suc n) x = ap (λ l. x ∷ l) (replicate_push n x)

  reverse_replicate : (n : ℕ) (x : A) → reverse (replicate n x) ≡ replicate n x
  reverse_replicate zero x = refl
  reverse_replicate (suc n) x = reverse_one x (replicate n x) ∙ ap (λ l. l ++ x ∷ []) (reverse_replicate n x) ∙ replicate_push n x

  -- the first ones are the last ones of the list turned
  reverse_drop : (n : ℕ) (xs : List A) → reverse (drop n (reverse xs)) ≡ take (length xs - n) xs
  reverse_drop n xs =
      let back = reverse (drop n (reverse xs)) in
      let front = reverse (take n (reverse xs)) in
      let whole : back ++ front ≡ xs = sym (reverse-append (take n (reverse xs)) (drop n (reverse xs))) ∙ ap reverse (take-append-drop n (reverse xs)) ∙ reverse-reverse xs in
      let long : length back ≡ length xs - n = length-reverse (drop n (reverse xs)) ∙ length-drop n (reverse xs) ∙ ap (λ k. k - n) (length-reverse xs) in
      sym (take-append_seam back front) ∙ (λ i. take (long i) (whole i))

-- a move to higher places is a move to lower ones of the list turned
pub moved_either : (left : Bool) (n : ℕ) (xs : List Bool) → ordered left (moved_down n (ordered left xs)) ≡ (if left then moved_up n xs else moved_down n xs)
moved_either false n xs = refl
moved_either true n xs =
    reverse-append (drop n (reverse xs)) (replicate (min n (length (reverse xs))) false)
    ∙ (λ i. reverse_replicate (min n (length (reverse xs))) false i ++ reverse_drop n xs i)
    ∙ ap (λ k. replicate (min n k) false ++ take (length xs - n) xs) (length-reverse xs)

-- ---- moves to lower places

-- the first of these bits, false where there is none
abbrev pub first_bit : List Bool → Bool
first_bit [] = false
first_bit (b ∷ bs) = b

moved_none : (n : ℕ) → moved_down n [] ≡ []
moved_none n =
    let z : min n 0 ≡ 0 = omega arith in
    let none : drop n [] ≡ [] = drop_all n [] (omega arith) in
    (λ i. none i ++ replicate (z i) false)

drop_first : (n : ℕ) (xs : List Bool) → n < length xs → drop n xs ≡ first_bit (drop n xs) ∷ drop (suc n) xs
drop_first n [] l = absurd (omega (arith, l))
drop_first zero (x ∷ xs) l = refl
drop_first (suc n) (x ∷ xs) l = drop_first n xs (omega (arith, l))

-- the bits moved are the one that reaches the first place, and then the others moved
moved_one : (n : ℕ) (x : Bool) (xs : List Bool) → moved_down n (x ∷ xs) ≡ first_bit (drop n (x ∷ xs)) ∷ moved_down n xs
moved_one zero x xs = let a : min 0 (suc (length xs)) ≡ min 0 (length xs) = omega arith in ap (λ k. (x ∷ xs) ++ replicate k false) a
moved_one (suc n) x xs = ⊎_elim
    (λ (l : n < length xs).
    let a : min (suc n) (suc (length xs)) ≡ suc n = omega (arith, l) in
    let b : min (suc n) (length xs) ≡ suc n = omega (arith, l) in
    (λ i. drop_first n xs l i ++ replicate (a i) false) ∙ ap (λ k. first_bit (drop n xs) ∷ (drop (suc n) xs ++ replicate k false)) (sym b))
    (λ (g : length xs ≤ n).
    let a : min (suc n) (suc (length xs)) ≡ suc (length xs) = omega (arith, g) in
    let b : min (suc n) (length xs) ≡ length xs = omega (arith, g) in
    let none : drop n xs ≡ [] = drop_all n xs g in
    let none' : drop (suc n) xs ≡ [] = drop_all (suc n) xs (omega (arith, g)) in
    (λ i. none i ++ replicate (a i) false) ∙ sym (λ i. first_bit (none i) ∷ (none' i ++ replicate (b i) false)))
    (cases_lt n (length xs))

drop_front : {A : Type 0} (n : ℕ) (xs ys : List A) → n ≤ length xs → drop n (xs ++ ys) ≡ drop n xs ++ ys
drop_front zero xs ys l = refl
drop_front (suc n) [] ys l = absurd (omega (arith, l))
drop_front (suc n) (x ∷ xs) ys l = drop_front n xs ys (omega (arith, l))

-- what is read from bits and one behind them that is false
at_end : (zs : List Bool) (n : ℕ) (v : Seen) → (n < length zs + 1 → slice_get (seen_bits (zs ++ false ∷ [])) n ≡ Some v) → (length zs + 1 ≤ n → slice_get (seen_bits (zs ++ false ∷ [])) (length zs) ≡ Some v) → v ≡ SeenBit (first_bit (drop n zs))
at_end [] zero v f g = sym (same_Some (SeenBit false) v (f (omega arith)))
at_end [] (suc n) v f g = sym (same_Some (SeenBit false) v (g (omega arith)))
at_end (z ∷ zs) zero v f g = sym (same_Some (SeenBit z) v (f (omega arith)))
at_end (z ∷ zs) (suc n) v f g = at_end zs n v (λ l. f (omega (arith, l))) (λ l. g (omega (arith, l)))

-- so many bits of a row, moved to lower places
pub record IsMovedSoFar (g : Graph) (row : List Shape) (by : WordId) (place : ℕ) (made : List Shape) : Type 0 where
  pub stand : AllStand g made
  pub bits : AreBits made
  pub long : length made ≡ place
  pub value : (h : Graph) → Grows g h → (e : Env) (n : ℕ) (xs : List Bool) → word_value h e by ≡ pos n → shapes_value h e row ≡ seen_bits (xs ++ false ∷ []) → shapes_value h e made ++ seen_bits (moved_down n (drop place xs)) ≡ seen_bits (moved_down n xs)

-- what the row has from a place on
pub tail_stands : {g : Graph} (row : List Shape) (place : ℕ) → AllStand g row → AllStand g (drop place row)
tail_stands {g} row place h = record { each = All-drop (Stands g) place row h.each }

pub tail_alike : (row : List Shape) (place : ℕ) → AreBits row → AllAlike (drop place row)
tail_alike row place bits = bits_all_alike (drop place row) (record { each = All-drop IsBit place row bits.each })

pub moved_begin : (g : Graph) (row : List Shape) (by : WordId) → IsMovedSoFar g row by 0 []
moved_begin g row by = record { stand = stand_none g; bits = bits_none; long = refl; value = λ h more e n xs w is. refl }

pub row_long : (h : Graph) (e : Env) (row : List Shape) (xs : List Bool) → shapes_value h e row ≡ seen_bits (xs ++ false ∷ []) → length row ≡ length xs + 1
row_long h e row xs is = sym (bits_long h e row (xs ++ false ∷ []) is) ∙ long_push xs
  where
    long_push : (xs : List Bool) → length (xs ++ false ∷ []) ≡ length xs + 1
    long_push [] = refl
    long_push (x ∷ xs) = omega (arith, long_push xs)

pub moved_more : {mid new : Graph} {row made : List Shape} {by : WordId} (place : ℕ) (r : Shape) → IsMovedSoFar mid row by place made → Keeps mid new → AreBits row → place + 1 < length row → IsReadFrom new (drop place row) by r → IsMovedSoFar new row by (place + 1) (made ++ r ∷ [])
moved_more {mid} {new} {row} {made} {by} place r are k bits within is = record {
  stand = stand_push made r (AllStand-keeps k are.stand) is.stands;
  bits = bits_push made r are.bits (bit_alike (is.alike.each 0 r some) (All-drop IsBit place row bits.each 0 r some));
  long = long_push made r ∙ ap (λ n. n + 1) are.long;
  value = λ h more e n xs w same. step h more e n xs w same ∙ are.value h (k.later h more) e n xs w same;
}
  where
    some : 0 < length (drop place row)
    some = omega (arith, length-drop place row, within)

    long_push : (ss : List Shape) (s : Shape) → length (ss ++ s ∷ []) ≡ length ss + 1
    long_push [] s = refl
    long_push (t ∷ ss) s = omega (arith, long_push ss s)

    window : (h : Graph) (e : Env) (xs : List Bool) → place ≤ length xs → shapes_value h e row ≡ seen_bits (xs ++ false ∷ []) → shapes_value h e (drop place row) ≡ seen_bits (drop place xs ++ false ∷ [])
    window h e xs l same = sym (drop-map (shape_value h e) place row) ∙ ap (drop place) same ∙ drop-map (λ b. SeenBit b) place (xs ++ false ∷ []) ∙ ap seen_bits (drop_front place xs (false ∷ []) l)

    step : (h : Graph) → Grows new h → (e : Env) (n : ℕ) (xs : List Bool) → word_value h e by ≡ pos n → shapes_value h e row ≡ seen_bits (xs ++ false ∷ []) → shapes_value h e (made ++ r ∷ []) ++ seen_bits (moved_down n (drop (place + 1) xs)) ≡ shapes_value h e made ++ seen_bits (moved_down n (drop place xs))
    step h more e n xs w same =
        let long = row_long h e row xs same in
        let l : place < length xs = omega (arith, long, within) in
        let rest = drop place xs in
        let seen = window h e xs (omega (arith, l)) same in
        let tall : length (drop place row) ≡ length rest + 1 = omega (arith, length-drop place row, length-drop place xs, long, l) in
        let before : length (drop place row) - 1 ≡ length rest = omega (arith, tall) in
        let reached : shape_value h e r ≡ SeenBit (first_bit (drop n rest)) = at_end rest n (shape_value h e r)
        (λ m. ap (λ vs. slice_get vs n) (sym seen) ∙ is.value h more e n (omega (arith, m, tall)) w)
        (λ m. (λ i. slice_get (sym seen i) (sym before i)) ∙ is.last h more e n (omega (arith, m, tall)) w) in
        let next : place + 1 ≡ suc place = omega arith in
        let open_one : rest ≡ first_bit rest ∷ drop (place + 1) xs = drop_first place xs l ∙ ap (λ m. first_bit rest ∷ drop m xs) (sym next) in
        let moved : moved_down n rest ≡ first_bit (drop n rest) ∷ moved_down n (drop (place + 1) xs) =
        ap (moved_down n) open_one ∙ moved_one n (first_bit rest) (drop (place + 1) xs) ∙ ap (λ l. first_bit (drop n l) ∷ moved_down n (drop (place + 1) xs)) (sym open_one) in
        let tail = seen_bits (moved_down n (drop (place + 1) xs)) in
        ap (λ l. l ++ tail) (map_push (shape_value h e) made r ∙ ap (λ v. shapes_value h e made ++ v ∷ []) reached)
        ∙ append_assoc (shapes_value h e made) (SeenBit (first_bit (drop n rest)) ∷ []) tail
        ∙ ap (λ l. shapes_value h e made ++ seen_bits l) (sym moved)

pub moved_done : {g : Graph} {row made : List Shape} {by : WordId} {place : ℕ} → IsMovedSoFar g row by place made → suc place ≡ length row → IsMoved g row by made
moved_done {g} {row} {made} {by} {place} are whole = record {
  stand = are.stand;
  bits = are.bits;
  long = ap suc are.long ∙ whole;
  value = λ h more e n xs w same.
      let none : drop place xs ≡ [] = drop_all place xs (omega (arith, whole, row_long h e row xs same)) in
      sym (append-nil (shapes_value h e made))
      ∙ ap (λ l. shapes_value h e made ++ seen_bits l) (sym (ap (moved_down n) none ∙ moved_none n))
      ∙ are.value h more e n xs w same;
}

-- ---- rows and shifts

pub row_is : {old new : Graph} {left : Bool} {a copied turned row : List Shape} {no : BoolId} → Keeps old new → HasBool new.nodes no → ((h : Graph) → Grows new h → (e : Env) → bool_value h e no ≡ false) → AllStand old a → AreBits a → ((g : Graph) → AllStand g a → AreCopies g a copied) → turned ≡ ordered left copied → row ≡ turned ++ shape.Bit no ∷ [] → IsRow new left a row
row_is {old} {new} {left} {a} {copied} {turned} {row} {no} k there value stand bits copies order pushed = record {
  stand = subst (AllStand new) (sym whole) (stand_push (ordered left copied) (shape.Bit no) (record { each = all_ordered (Stands new) left copied are.stands.each }) (bit_stands new no there));
  bits = subst AreBits (sym whole) (bits_push (ordered left copied) (shape.Bit no) (record { each = all_ordered IsBit left copied (bits_alike a copied are.alike bits).each }) (is_bit no));
  long = ap length whole ∙ long_push (ordered left copied) (shape.Bit no) ∙ ap suc (length_ordered left copied ∙ sym (length_map blank copied) ∙ ap length are.alike ∙ length_map blank a);
  value = λ h more e.
      ap (map (shape_value h e)) whole
      ∙ map_push (shape_value h e) (ordered left copied) (shape.Bit no)
      ∙ (λ i. (map_ordered (shape_value h e) left copied ∙ ap (ordered left) (are.value h e)) i ++ (value_bit h e no ∙ ap (λ b. SeenBit b) (value h more e)) i ∷ []);
}
  where
    are : AreCopies new a copied
    are = copies new (AllStand-keeps k stand)

    whole : row ≡ ordered left copied ++ shape.Bit no ∷ []
    whole = pushed ∙ ap (λ l. l ++ shape.Bit no ∷ []) order

    long_push : (ss : List Shape) (s : Shape) → length (ss ++ s ∷ []) ≡ suc (length ss)
    long_push [] s = refl
    long_push (t ∷ ss) s = ap suc (long_push ss s)

pub row_some : {g : Graph} {left : Bool} {a row : List Shape} → IsRow g left a row → 0 < length row
row_some is = omega (arith, is.long)

pub shifted : {first mid new : Graph} {left : Bool} {a row lower made : List Shape} {by : WordId} {outside : BoolId} → IsRow first left a row → Keeps first mid → IsMoved mid row by lower → Keeps mid new → HasBool new.nodes outside → ((h : Graph) → Grows new h → (e : Env) → bool_value h e outside ≡ int_lt (word_value h e by) (pos 0)) → made ≡ ordered left lower → IsShifted new left a by made outside
shifted {first} {mid} {new} {left} {a} {row} {lower} {made} {by} {outside} is k moved k' there negative order = record {
  stand = subst (AllStand new) (sym order) (record { each = all_ordered (Stands new) left lower (AllStand-keeps k' moved.stand).each });
  there = there;
  bits = subst AreBits (sym order) (record { each = all_ordered IsBit left lower moved.bits.each });
  long = ap length order ∙ length_ordered left lower ∙ omega (arith, moved.long, is.long);
  negative = negative;
  value = λ h more e n xs w same.
      let seen : shapes_value h e row ≡ seen_bits (ordered left xs ++ false ∷ []) =
      is.value h (k.later h (k'.later h more)) e
      ∙ ap (λ l. ordered left l ++ SeenBit false ∷ []) same
      ∙ ap (λ l. l ++ SeenBit false ∷ []) (sym (map_ordered (λ b. SeenBit b) left xs))
      ∙ sym (map_push (λ b. SeenBit b) (ordered left xs) false) in
      ap (map (shape_value h e)) order
      ∙ map_ordered (shape_value h e) left lower
      ∙ ap (ordered left) (moved.value h (k'.later h more) e n (ordered left xs) w seen)
      ∙ sym (map_ordered (λ b. SeenBit b) left (moved_down n (ordered left xs)))
      ∙ ap seen_bits (moved_either left n xs);
}

-- ---- the other order

pub turned_none : (list made : List Shape) → made ≡ [] → made ++ reverse list ≡ reverse list
turned_none list made none = ap (λ l. l ++ reverse list) none

pub turned_more : {whole rest : List Shape} (made after : List Shape) (last : Shape) → rest ≡ after ++ last ∷ [] → made ++ reverse rest ≡ whole → (made ++ last ∷ []) ++ reverse after ≡ whole
turned_more {whole} {rest} made after last taken so_far =
    append_assoc made (last ∷ []) (reverse after)
    ∙ ap (λ l. made ++ l) (sym (ap reverse taken ∙ reverse-append after (last ∷ [])))
    ∙ so_far

pub turned_less : {rest : List Shape} (after : List Shape) (last : Shape) → rest ≡ after ++ last ∷ [] → length after < length rest
turned_less {rest} after last taken = let e : length rest ≡ length (after ++ last ∷ []) = ap length taken in omega (arith, e, one_more after)
  where
    one_more : (ss : List Shape) → length (ss ++ last ∷ []) ≡ suc (length ss)
    one_more [] = refl
    one_more (s ∷ ss) = ap suc (one_more ss)

pub turned_done : {whole made rest : List Shape} → rest ≡ [] → made ++ reverse rest ≡ whole → made ≡ whole
turned_done {whole} {made} {rest} none so_far = sym (append-nil made) ∙ ap (λ l. made ++ reverse l) (sym none) ∙ so_far

pub ruleset turns = (turned_none, turned_done)

pub ruleset rows = (Keeps-refl, Keeps-trans, row_is)

pub ruleset moves = (Keeps-refl, Keeps-trans, moved_begin)

pub ruleset whole = (Keeps-refl, Keeps-trans, shifted, row_some)
