-- Operators on arrays of bits that go bit by bit.
use Rattle.std.proofs.Common.{◌≡◌, ℕ, ◌+◌, ◌<◌, Bool, true, false, true≢false, not, List, [], ◌∷◌, ◌++◌, map, length, drop, get_or, refl, sym, ap, subst, ◌∙◌, arith, append_assoc, append-nil, if◌then◌else◌}
use Rattle.std.proofs.lemmas.List.{drop_all, drop_more}
use Rattle.sk_base.specs.declared.span.Span.{Span}
use Rattle.sk_dag.specs.declared.env.Env.{Env}
use Rattle.sk_dag.specs.declared.node.BoolId.{BoolId}
use Rattle.sk_dag.specs.declared.shape.Shape.{Shape}
use Rattle.sk_dag.specs.declared.shape.Shape.TheVariants as shape
use Rattle.sk_dag.specs.declared.shape.Seen.TheVariants.{Bit as SeenBit}
use Rattle.sk_dag.specs.Graph.{Graph, Grows, HasBool}
use Rattle.sk_dag.specs.Eval.{bool_value, Keeps}
use Rattle.sk_dag.specs.EvalShape.{shape_value}
use Rattle.sk_dag.proofs.EvalLemmas.{Keeps-trans}
use Rattle.sk_arr.specs.Forms.{IsBit}
use Rattle.sk_arr.specs.Shapes.{AllStand}
use Rattle.sk_arr.specs.Answers.{shapes_value}
use Rattle.sk_arr.specs.Bits.{seen_bits, AreBits}
use Rattle.sk_arr.proofs.Makers.{Keeps-refl}
use Rattle.sk_arr.proofs.Standing.{AllStand-keeps, bit_stands}
use Rattle.sk_arr.proofs.Values.{value_bit, map_push, stand_none, stand_push}
use Rattle.sk_arr.proofs.BitLaws.{is_bit, bits_none, bits_push, bits_long, bit_at, bit_value}
use Rattle.sk_prog.specs.declared.expr.BinOp.{BinOp}
use Rattle.sk_prog.specs.declared.expr.BinOp.TheVariants as op
use Rattle.sk_prog.specs.declared.expr.UnOp.{UnOp}
use Rattle.sk_prog.specs.declared.expr.UnOp.TheVariants as unary
use Rattle.sk_model.specs.Step.{pure}
use Rattle.sk_model.specs.Operators.{array_of, operand, either_bit, pairwise, bits_operator, on_operand, on_operands, unary_operator}
use Rattle.sk_sym_operators.specs.Worth.{worth, answered, bits_in}
use Rattle.sk_sym_operators.specs.Bitwise.{is_bitwise, bitwise, IsPair, ArePairs, IsNegation, AreNegations}
use Rattle.sk_sym_operators.proofs.Operating.{lifted, OnForms, UnaryOf}
use Rattle.sk_sym_operators.proofs.BitRows.{seen_as, row_computed, row_operand}

-- ---- one bit

pub is_either : (p q : Bool) → (if p then not q else q) ≡ either_bit p q
is_either true true = refl
is_either true false = refl
is_either false true = refl
is_either false false = refl

pub pair_is : {g : Graph} {f : Bool → Bool → Bool} {a b : Shape} {x y r : BoolId} → a ≡ shape.Bit x → b ≡ shape.Bit y → HasBool g.nodes r → ((h : Graph) → Grows g h → (e : Env) → bool_value h e r ≡ f (bool_value h e x) (bool_value h e y)) → IsPair g f a b r
pair_is {f = f} {a = a} {b = b} {x = x} {y = y} p q there known = record {
  there = there;
  value = λ h more e u v s t. known h more e ∙ (λ i. f (bit_value h e a x u p s i) (bit_value h e b y v q t i));
}

pub negation_is : {g : Graph} {a : Shape} {x r : BoolId} → a ≡ shape.Bit x → HasBool g.nodes r → ((h : Graph) → Grows g h → (e : Env) → bool_value h e r ≡ not (bool_value h e x)) → IsNegation g a r
negation_is {a = a} {x = x} p there known = record {
  there = there;
  value = λ h more e u s. known h more e ∙ ap not (bit_value h e a x u p s);
}

-- an element of a list of bits
pub bit_there : (list : List Shape) (i : ℕ) (s : Shape) → i < length list → s ≡ get_or list i s → AreBits list → IsBit s
bit_there list i s l at are = subst IsBit (sym at) (are.each i s l)

-- ---- those so far

pub record ArePairsSoFar (g : Graph) (f : Bool → Bool → Bool) (a b : List Shape) (i : ℕ) (made : List Shape) : Type 0 where
  pub stand : AllStand g made
  pub bits : AreBits made
  pub value : (h : Graph) → Grows g h → (e : Env) (xs ys : List Bool) → shapes_value h e a ≡ seen_bits xs → shapes_value h e b ≡ seen_bits ys → shapes_value h e made ++ seen_bits (pairwise f (drop i xs) (drop i ys)) ≡ seen_bits (pairwise f xs ys)

pub pairs_none : (g : Graph) (f : Bool → Bool → Bool) (a b : List Shape) → ArePairsSoFar g f a b 0 []
pairs_none g f a b = record {
  stand = stand_none g;
  bits = bits_none;
  value = λ h more e xs ys p q. refl;
}

pub pairs_more : {mid new : Graph} {f : Bool → Bool → Bool} {a b made : List Shape} {i : ℕ} {x y : Shape} {r : BoolId} → ArePairsSoFar mid f a b i made → Keeps mid new → IsPair new f x y r → i < length a → i < length b → x ≡ get_or a i x → y ≡ get_or b i y → ArePairsSoFar new f a b (i + 1) (made ++ shape.Bit r ∷ [])
pairs_more {mid} {new} {f} {a} {b} {made} {i} {x} {y} {r} is k pair la lb at at' = record {
  stand = stand_push made (shape.Bit r) (AllStand-keeps k is.stand) (bit_stands new r pair.there);
  bits = bits_push made (shape.Bit r) is.bits (is_bit r);
  value = λ h more e xs ys s t.
      let u = get_or xs i false in
      let v = get_or ys i false in
      let seen = bit_at h e a xs i x la at s in
      let seen' = bit_at h e b ys i y lb at' t in
      let lx : i < length xs = omega (arith, la, bits_long h e a xs s) in
      let ly : i < length ys = omega (arith, lb, bits_long h e b ys t) in
      let tail = pairwise f (drop (i + 1) xs) (drop (i + 1) ys) in
      let opened : pairwise f (drop i xs) (drop i ys) ≡ bool_value h e r ∷ tail =
      (λ j. pairwise f (drop_more xs i false lx j) (drop_more ys i false ly j))
      ∙ ap (λ z. z ∷ tail) (sym (pair.value h more e u v seen seen')) in
      ap (λ l. l ++ seen_bits tail) (map_push (shape_value h e) made (shape.Bit r) ∙ ap (λ z. shapes_value h e made ++ z ∷ []) (value_bit h e r))
      ∙ append_assoc (shapes_value h e made) (SeenBit (bool_value h e r) ∷ []) (seen_bits tail)
      ∙ ap (λ l. shapes_value h e made ++ seen_bits l) (sym opened)
      ∙ is.value h (k.later h more) e xs ys s t;
}

pub pairs_done : {g : Graph} {f : Bool → Bool → Bool} {a b made : List Shape} {i : ℕ} → ArePairsSoFar g f a b i made → i ≡ length a → ArePairs g f a b made
pairs_done {g} {f} {a} {b} {made} {i} is whole = record {
  stand = is.stand;
  bits = is.bits;
  value = λ h more e xs ys p q.
      let none : drop i xs ≡ [] = drop_all i xs (omega (arith, whole, bits_long h e a xs p)) in
      sym (append-nil (shapes_value h e made))
      ∙ ap (λ l. shapes_value h e made ++ seen_bits (pairwise f l (drop i ys))) (sym none)
      ∙ is.value h more e xs ys p q;
}

pub pairs_of : {g : Graph} {f : Bool → Bool → Bool} {a a' b b' made : List Shape} → a ≡ a' → b ≡ b' → ArePairs g f a b made → ArePairs g f a' b' made
pairs_of {g} {f} {a} {a'} {b} {b'} {made} p q is = subst (λ l. ArePairs g f a' l made) q (subst (λ l. ArePairs g f l b made) p is)

pub record AreNegationsSoFar (g : Graph) (a : List Shape) (i : ℕ) (made : List Shape) : Type 0 where
  pub stand : AllStand g made
  pub bits : AreBits made
  pub value : (h : Graph) → Grows g h → (e : Env) (xs : List Bool) → shapes_value h e a ≡ seen_bits xs → shapes_value h e made ++ seen_bits (map not (drop i xs)) ≡ seen_bits (map not xs)

pub negations_none : (g : Graph) (a : List Shape) → AreNegationsSoFar g a 0 []
negations_none g a = record {
  stand = stand_none g;
  bits = bits_none;
  value = λ h more e xs p. refl;
}

pub negations_more : {mid new : Graph} {a made : List Shape} {i : ℕ} {x : Shape} {r : BoolId} → AreNegationsSoFar mid a i made → Keeps mid new → IsNegation new x r → i < length a → x ≡ get_or a i x → AreNegationsSoFar new a (i + 1) (made ++ shape.Bit r ∷ [])
negations_more {mid} {new} {a} {made} {i} {x} {r} is k one la at = record {
  stand = stand_push made (shape.Bit r) (AllStand-keeps k is.stand) (bit_stands new r one.there);
  bits = bits_push made (shape.Bit r) is.bits (is_bit r);
  value = λ h more e xs s.
      let u = get_or xs i false in
      let seen = bit_at h e a xs i x la at s in
      let lx : i < length xs = omega (arith, la, bits_long h e a xs s) in
      let tail = map not (drop (i + 1) xs) in
      let opened : map not (drop i xs) ≡ bool_value h e r ∷ tail = ap (map not) (drop_more xs i false lx) ∙ ap (λ z. z ∷ tail) (sym (one.value h more e u seen)) in
      ap (λ l. l ++ seen_bits tail) (map_push (shape_value h e) made (shape.Bit r) ∙ ap (λ z. shapes_value h e made ++ z ∷ []) (value_bit h e r))
      ∙ append_assoc (shapes_value h e made) (SeenBit (bool_value h e r) ∷ []) (seen_bits tail)
      ∙ ap (λ l. shapes_value h e made ++ seen_bits l) (sym opened)
      ∙ is.value h (k.later h more) e xs s;
}

pub negations_done : {g : Graph} {a made : List Shape} {i : ℕ} → AreNegationsSoFar g a i made → i ≡ length a → AreNegations g a made
negations_done {g} {a} {made} {i} is whole = record {
  stand = is.stand;
  bits = is.bits;
  value = λ h more e xs p.
      let none : drop i xs ≡ [] = drop_all i xs (omega (arith, whole, bits_long h e a xs p)) in
      sym (append-nil (shapes_value h e made))
      ∙ ap (λ l. shapes_value h e made ++ seen_bits (map not l)) (sym none)
      ∙ is.value h more e xs p;
}

pub negations_of : {g : Graph} {a a' made : List Shape} → a ≡ a' → AreNegations g a made → AreNegations g a' made
negations_of {g} {made = made} = subst (λ l. AreNegations g l made)

pub ruleset going = (Keeps-refl, Keeps-trans)

-- ---- the operators

operator_as : (span : Span) (o : BinOp) (xs ys : List Bool) → is_bitwise o ≡ true → bits_operator span o xs ys ≡ pure (array_of (pairwise (bitwise o) xs ys))
operator_as span op.And xs ys is = refl
operator_as span op.Or xs ys is = refl
operator_as span op.Xor xs ys is = refl
operator_as span _ xs ys is = absurd (true≢false (sym is))

pub joined : {d g : Graph} {x y made : List Shape} {a b : Shape} {fails : BoolId} (w : ℕ) (o : BinOp) → is_bitwise o ≡ true → a ≡ shape.Array x → b ≡ shape.Array y → AreBits x → AreBits y → ArePairs d (bitwise o) x y made → Keeps d g → HasBool g.nodes fails → ((h : Graph) → Grows g h → (e : Env) → bool_value h e fails ≡ false) → OnForms g w o a b (shape.Array made) fails
joined {d} {g} {x} {y} {made} {a} {b} {fails} w o goes p q xs ys is keeps there never =
    lifted (a ∷ b ∷ []) (λ h e holds span. on_operands w span o (operand (worth holds h e a)) (operand (worth holds h e b)))
    (λ h more e holds live span.
    (λ i. on_operands w span o (row_operand holds h e a x p i) (row_operand holds h e b y q i))
    ∙ operator_as span o (bits_in h e x) (bits_in h e y) goes
    ∙ sym (ap (λ t. answered span t (array_of (pairwise (bitwise o) (bits_in h e x) (bits_in h e y)))) (never h more e)))
    (row_computed (λ h e. pairwise (bitwise o) (bits_in h e x) (bits_in h e y)) (AllStand-keeps keeps is.stand) is.bits there
    (λ h more e no_failure. is.value h (keeps.later h more) e (bits_in h e x) (bits_in h e y) (seen_as h e x xs) (seen_as h e y ys)))

pub negated : {d g : Graph} {x made : List Shape} {a : Shape} {fails : BoolId} (w : ℕ) → a ≡ shape.Array x → AreBits x → AreNegations d x made → Keeps d g → HasBool g.nodes fails → ((h : Graph) → Grows g h → (e : Env) → bool_value h e fails ≡ false) → UnaryOf g w unary.Flip a (shape.Array made) fails
negated {d} {g} {x} {made} {a} {fails} w p xs is keeps there never =
    lifted (a ∷ []) (λ h e holds span. unary_operator w span unary.Flip (worth holds h e a))
    (λ h more e holds live span.
    ap (on_operand w span unary.Flip) (row_operand holds h e a x p)
    ∙ sym (ap (λ t. answered span t (array_of (map not (bits_in h e x)))) (never h more e)))
    (row_computed (λ h e. map not (bits_in h e x)) (AllStand-keeps keeps is.stand) is.bits there
    (λ h more e no_failure. is.value h (keeps.later h more) e (bits_in h e x) (seen_as h e x xs)))

-- in the words of a match on the operator, and on the shape
pub at_operator : {g : Graph} {o k : UnOp} {a r : Shape} {fails : BoolId} (w : ℕ) → o ≡ k → UnaryOf g w k a r fails → UnaryOf g w o a r fails
at_operator {g} {o} {k} {a} {r} {fails} w same = subst (λ k. UnaryOf g w k a r fails) (sym same)

pub at_shape : {g : Graph} {a a' r : Shape} {fails : BoolId} (w : ℕ) → a ≡ a' → UnaryOf g w unary.Flip a' r fails → UnaryOf g w unary.Flip a r fails
at_shape {g} {a} {a'} {r} {fails} w same = subst (λ s. UnaryOf g w unary.Flip s r fails) (sym same)
