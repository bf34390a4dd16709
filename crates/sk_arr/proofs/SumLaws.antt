-- A sum of bits as a ripple of carries.
use Rattle.std.proofs.Common.{◌≡◌, ℕ, ◌+◌, ◌*◌, ◌/◌, ◌%◌, ◌<◌, Bool, true, false, List, [], ◌∷◌, ◌++◌, length, drop, get_or, refl, sym, ap, ◌∙◌, arith, append_assoc, append-nil, if◌then◌else◌}
use Rattle.std.specs.Prelude.{◌==◌}
use Rattle.std.proofs.lemmas.List.{drop_all, drop_more}
use Rattle.sk_dag.specs.declared.env.Env.{Env}
use Rattle.sk_dag.specs.declared.node.BoolId.{BoolId}
use Rattle.sk_dag.specs.declared.shape.Seen.TheVariants.{Bit as SeenBit}
use Rattle.sk_dag.specs.declared.shape.Shape.{Shape}
use Rattle.sk_dag.specs.declared.shape.Shape.TheVariants as shape
use Rattle.sk_dag.specs.Graph.{Graph, Grows, HasBool}
use Rattle.sk_dag.specs.Eval.{bool_value, Keeps}
use Rattle.sk_dag.specs.EvalShape.{shape_value}
use Rattle.sk_dag.proofs.EvalLemmas.{Keeps-trans}
use Rattle.sk_model.specs.Operators.{number_of, lowest, sum_of}
use Rattle.sk_arr.specs.Shapes.{AllStand}
use Rattle.sk_arr.specs.Answers.{shapes_value}
use Rattle.sk_arr.specs.Bits.{seen_bits, AreBits, xor, carried, IsAddedBit, IsSum}
use Rattle.sk_arr.proofs.Makers.{Keeps-refl}
use Rattle.sk_arr.proofs.Standing.{AllStand-keeps, bit_stands, bit_there}
use Rattle.sk_arr.proofs.Values.{value_bit, map_push, stand_none, stand_push}
use Rattle.sk_arr.proofs.BitLaws.{is_bit, bits_none, bits_push, bits_long, bit_at, bit_value}

abbrev pub one : Bool → ℕ
one b = if b then 1 else 0

-- the bits of the sum of two numbers and a carry
abbrev pub rest_of : List Bool → List Bool → Bool → List Bool
rest_of xs ys c = lowest (length xs) (number_of xs + number_of ys + one c)

low : (n k : ℕ) → (n + 2 * k) % 2 ≡ n % 2
low n k = omega arith

high : (n k : ℕ) → (n + 2 * k) / 2 ≡ k + n / 2
high n k = omega arith

low_bit : (x y c : Bool) → ((one x + one y + one c) % 2 == 1) ≡ xor (xor x y) c
low_bit true true true = refl
low_bit true true false = refl
low_bit true false true = refl
low_bit true false false = refl
low_bit false true true = refl
low_bit false true false = refl
low_bit false false true = refl
low_bit false false false = refl

high_bit : (x y c : Bool) → (one x + one y + one c) / 2 ≡ one (carried x y c)
high_bit true true true = refl
high_bit true true false = refl
high_bit true false true = refl
high_bit true false false = refl
high_bit false true true = refl
high_bit false true false = refl
high_bit false false true = refl
high_bit false false false = refl

-- one bit more
rest_more : (x y c : Bool) (xs ys : List Bool) → rest_of (x ∷ xs) (y ∷ ys) c ≡ xor (xor x y) c ∷ rest_of xs ys (carried x y c)
rest_more x y c xs ys =
    let k = number_of xs + number_of ys in
    let e : number_of (x ∷ xs) + number_of (y ∷ ys) + one c ≡ one x + one y + one c + 2 * k = omega arith in
    let l : ((number_of (x ∷ xs) + number_of (y ∷ ys) + one c) % 2 == 1) ≡ xor (xor x y) c = ap (λ m. m % 2 == 1) e ∙ ap (λ m. m == 1) (low (one x + one y + one c) k) ∙ low_bit x y c in
    let u : (number_of (x ∷ xs) + number_of (y ∷ ys) + one c) / 2 ≡ k + one (carried x y c) = ap (λ m. m / 2) e ∙ high (one x + one y + one c) k ∙ ap (λ m. k + m) (high_bit x y c) in
    (λ i. l i ∷ lowest (length xs) (u i))

-- the lowest bits of a sum so far, and what is carried on
pub record IsSumSoFar (g : Graph) (a b : List Shape) (i : ℕ) (made : List Shape) (carry : BoolId) : Type 0 where
  pub stand : AllStand g made
  pub there : HasBool g.nodes carry
  pub bits : AreBits made
  pub long : length made ≡ i
  pub value : (h : Graph) → Grows g h → (e : Env) (xs ys : List Bool) → shapes_value h e a ≡ seen_bits xs → shapes_value h e b ≡ seen_bits ys → shapes_value h e made ++ seen_bits (rest_of (drop i xs) (drop i ys) (bool_value h e carry)) ≡ seen_bits (sum_of xs ys)

pub sum_none : {g : Graph} (a b : List Shape) {carry : BoolId} → HasBool g.nodes carry → ((h : Graph) → Grows g h → (e : Env) → bool_value h e carry ≡ false) → IsSumSoFar g a b 0 [] carry
sum_none {g} a b {carry} there value = record {
  stand = stand_none g;
  there = there;
  bits = bits_none;
  long = refl;
  value = λ h more e xs ys p q.
      ap (λ c. seen_bits (rest_of xs ys c)) (value h more e)
      ∙ ap (λ n. seen_bits (lowest (length xs) n)) (omega arith);
}

pub added_bit : {new : Graph} {a b : Shape} {p q carry sum next : BoolId} → a ≡ shape.Bit p → b ≡ shape.Bit q → HasBool new.nodes sum → HasBool new.nodes next
    → ((h : Graph) → Grows new h → (e : Env) → bool_value h e sum ≡ xor (xor (bool_value h e p) (bool_value h e q)) (bool_value h e carry))
    → ((h : Graph) → Grows new h → (e : Env) → bool_value h e next ≡ carried (bool_value h e p) (bool_value h e q) (bool_value h e carry))
    → IsAddedBit new a b carry sum next
added_bit {new} {a} {b} {p} {q} {carry} {sum} {next} ap' bq sum_there next_there summed carries = record {
  sum_there = sum_there;
  next_there = next_there;
  sum_value = λ h more e x y s t. summed h more e ∙ (λ i. xor (xor (bit_value h e a p x ap' s i) (bit_value h e b q y bq t i)) (bool_value h e carry));
  next_value = λ h more e x y s t. carries h more e ∙ (λ i. carried (bit_value h e a p x ap' s i) (bit_value h e b q y bq t i) (bool_value h e carry));
}

pub sum_more : {mid new : Graph} {a b made : List Shape} {i : ℕ} {x y : Shape} {c sum next : BoolId} → IsSumSoFar mid a b i made c → Keeps mid new → IsAddedBit new x y c sum next → i < length a → i < length b → x ≡ get_or a i x → y ≡ get_or b i y → IsSumSoFar new a b (i + 1) (made ++ shape.Bit sum ∷ []) next
sum_more {mid} {new} {a} {b} {made} {i} {x} {y} {c} {sum} {next} is k added la lb ax by' = record {
  stand = stand_push made (shape.Bit sum) (AllStand-keeps k is.stand) (bit_stands new sum added.sum_there);
  there = added.next_there;
  bits = bits_push made (shape.Bit sum) is.bits (is_bit sum);
  long = long_push made (shape.Bit sum) ∙ ap (λ n. n + 1) is.long;
  value = λ h more e xs ys s t.
      let u = get_or xs i false in
      let v = get_or ys i false in
      let w = bool_value h e c in
      let seen = bit_at h e a xs i x la ax s in
      let seen' = bit_at h e b ys i y lb by' t in
      let lx : i < length xs = omega (arith, la, bits_long h e a xs s) in
      let ly : i < length ys = omega (arith, lb, bits_long h e b ys t) in
      let tail = rest_of (drop (i + 1) xs) (drop (i + 1) ys) (bool_value h e next) in
      let opened : rest_of (drop i xs) (drop i ys) w ≡ bool_value h e sum ∷ tail =
      (λ j. rest_of (drop_more xs i false lx j) (drop_more ys i false ly j) w)
      ∙ rest_more u v w (drop (i + 1) xs) (drop (i + 1) ys)
      ∙ (λ j. sym (added.sum_value h more e u v seen seen') j ∷ rest_of (drop (i + 1) xs) (drop (i + 1) ys) (sym (added.next_value h more e u v seen seen') j)) in
      ap (λ l. l ++ seen_bits tail) (map_push (shape_value h e) made (shape.Bit sum) ∙ ap (λ z. shapes_value h e made ++ z ∷ []) (value_bit h e sum))
      ∙ append_assoc (shapes_value h e made) (SeenBit (bool_value h e sum) ∷ []) (seen_bits tail)
      ∙ ap (λ l. shapes_value h e made ++ seen_bits l) (sym opened)
      ∙ is.value h (k.later h more) e xs ys s t;
}
  where
    long_push : (ss : List Shape) (s : Shape) → length (ss ++ s ∷ []) ≡ length ss + 1
    long_push [] s = refl
    long_push (r ∷ ss) s = omega (arith, long_push ss s)

pub sum_done : {g : Graph} {a b made : List Shape} {i : ℕ} {carry : BoolId} → IsSumSoFar g a b i made carry → i ≡ length a → IsSum g a b made
sum_done {g} {a} {b} {made} {i} {carry} is whole = record {
  stand = is.stand;
  bits = is.bits;
  long = is.long ∙ whole;
  value = λ h more e xs ys p q.
      let none : drop i xs ≡ [] = drop_all i xs (omega (arith, whole, bits_long h e a xs p)) in
      sym (append-nil (shapes_value h e made))
      ∙ ap (λ l. shapes_value h e made ++ seen_bits (rest_of l (drop i ys) (bool_value h e carry))) (sym none)
      ∙ is.value h more e xs ys p q;
}

pub ruleset adding = (Keeps-refl, Keeps-trans)

pub ruleset bits = (Keeps-refl, Keeps-trans, bit_there, added_bit)
