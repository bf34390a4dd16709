-- Operators on shapes, from those on their nodes.
use Rattle.std.proofs.Common.{◌≡◌, ◌≢◌, ℕ, pos, Bool, true, false, not, List, [], ◌∷◌, map, refl, sym, ap, subst, ◌∙◌, if◌then◌else◌, neg_ℤ, zero, suc, ◌<◌, ◌≤◌, ◌-◌, ◌^◌, arith}
use Rattle.sk_base.specs.declared.span.Span.{Span}
use Rattle.std.proofs.lemmas.Int.{ints}
use Rattle.sk_base.specs.Word.{wrapped, half, IsWord}
use Rattle.sk_simplify.proofs.RuleLemmas.{zero_word}
use Rattle.sk_arr.proofs.Makers.{Keeps-refl}
use Rattle.sk_dag.specs.declared.node.Node.{Node}
use Rattle.sk_dag.specs.declared.env.Env.{Env}
use Rattle.sk_dag.specs.declared.node.BoolId.{BoolId}
use Rattle.sk_dag.specs.declared.node.WordId.{WordId}
use Rattle.sk_dag.specs.declared.shape.Shape.{Shape}
use Rattle.sk_dag.specs.declared.shape.Shape.TheVariants as shape
use Rattle.sk_dag.specs.Graph.{Graph, Grows, IsWellFormed}
use Rattle.sk_dag.specs.Eval.{bool_value, word_value, Keeps}
use Rattle.sk_dag.specs.EvalShape.{shape_value}
use Rattle.sk_arr.specs.Answers.{shapes_value, IsEquality}
use Rattle.sk_arr.proofs.Values.{value_bit, value_int, value_array}
use Rattle.sk_prog.specs.declared.expr.BinOp.{BinOp}
use Rattle.sk_prog.specs.declared.expr.BinOp.TheVariants as op
use Rattle.sk_prog.specs.declared.expr.UnOp.{UnOp}
use Rattle.sk_prog.specs.declared.expr.UnOp.TheVariants as unary
use Rattle.sk_prog.specs.declared.value.Value.{Value}
use Rattle.sk_prog.specs.declared.value.Value.TheVariants as value
use Rattle.sk_model.specs.Step.{Comp, pure}
use Rattle.sk_model.specs.Values.{equal}
use Rattle.sk_model.specs.Operators.{operand, on_operands, operator, unary_operator, to_int}
use Rattle.sk_heap_laws.specs.Values.{place_of, value_of, AllLive}
use Rattle.sk_heap_laws.proofs.Parts.{of_bit, of_int, of_array, live_head, live_tail}
use Rattle.sk_heap_laws.proofs.Equals.{equal_is}
use Rattle.sk_sym_operators.specs.Worth.{worth}
use Rattle.sk_sym_operators.specs.Answers.{IsComputed, IsOperated}
use Rattle.sk_sym_operators.proofs.Computing.{OnWords, OnBits, IsBitOf, IsWordOf}

module _ (holds : ℕ → Bool) (h : Graph) (e : Env) {s : Shape} where
  pub worth_bit : (a : BoolId) → s ≡ shape.Bit a → worth holds h e s ≡ value.Bit (bool_value h e a)
  worth_bit a is = ap (worth holds h e) is ∙ ap (value_of (place_of holds)) (value_bit h e a) ∙ of_bit (place_of holds) (bool_value h e a)

  pub worth_int : (a : WordId) → s ≡ shape.Int a → worth holds h e s ≡ value.Int (word_value h e a)
  worth_int a is = ap (worth holds h e) is ∙ ap (value_of (place_of holds)) (value_int h e a) ∙ of_int (place_of holds) (word_value h e a)

  pub worth_array : (ss : List Shape) → s ≡ shape.Array ss → worth holds h e s ≡ value.Array (map (value_of (place_of holds)) (shapes_value h e ss))
  worth_array ss is = ap (worth holds h e) is ∙ ap (value_of (place_of holds)) (value_array h e ss) ∙ of_array (place_of holds) (shapes_value h e ss)

-- what names no slot may be answered for any shapes
pub lifted : {g : Graph} {m : Graph → Env → Span → Comp Value} {r : Shape} {fails : BoolId} (args : List Shape) (m' : Graph → Env → (ℕ → Bool) → Span → Comp Value) → ((h : Graph) → Grows g h → (e : Env) (holds : ℕ → Bool) → AllLive holds (shapes_value h e args) → (span : Span) → m' h e holds span ≡ m h e span) → IsComputed g m r fails → IsOperated g args m' r fails
lifted args m' same is = record {
  stands = is.stands;
  there = is.there;
  named = λ test h. is.unnamed test;
  live = λ h more e holds live never. is.live h e holds;
  value = λ h more e holds live span. same h more e holds live span ∙ is.value h more e (place_of holds) span;
}

pub operated_as : {g : Graph} {args : List Shape} {r : Shape} {fails : BoolId} (m m' : Graph → Env → (ℕ → Bool) → Span → Comp Value) → ((h : Graph) (e : Env) (holds : ℕ → Bool) (span : Span) → m' h e holds span ≡ m h e holds span) → IsOperated g args m r fails → IsOperated g args m' r fails
operated_as m m' same is = record {
  stands = is.stands;
  there = is.there;
  named = is.named;
  live = is.live;
  value = λ h more e holds live span. same h e holds span ∙ is.value h more e holds live span;
}

-- ---- operators that do not compare

abbrev pub OnForms : Graph → ℕ → BinOp → Shape → Shape → Shape → BoolId → Type 0
OnForms g w o a b r fails = IsOperated g (a ∷ b ∷ []) (λ h e holds span. on_operands w span o (operand (worth holds h e a)) (operand (worth holds h e b))) r fails

abbrev pub Operates : Graph → ℕ → BinOp → Shape → Shape → Shape → BoolId → Type 0
Operates g w o a b r fails = IsOperated g (a ∷ b ∷ []) (λ h e holds span. operator w span o (worth holds h e a) (worth holds h e b)) r fails

operator_is : (w : ℕ) (span : Span) (o : BinOp) (v u : Value) → o ≢ op.Eq → o ≢ op.Ne → operator w span o v u ≡ on_operands w span o (operand v) (operand u)
operator_is w span op.Eq v u p q = absurd (p refl)
operator_is w span op.Ne v u p q = absurd (q refl)
operator_is w span _ v u p q = refl

pub others_operate : {g : Graph} {o : BinOp} {r : Shape} {fails : BoolId} (w : ℕ) (a b : Shape) → o ≢ op.Eq → o ≢ op.Ne → OnForms g w o a b r fails → Operates g w o a b r fails
others_operate {g} {o} w a b p q = operated_as
    (λ h e holds span. on_operands w span o (operand (worth holds h e a)) (operand (worth holds h e b)))
    (λ h e holds span. operator w span o (worth holds h e a) (worth holds h e b))
    (λ h e holds span. operator_is w span o (worth holds h e a) (worth holds h e b) p q)

pub on_two_words : {g : Graph} {a b r : Shape} {fails : BoolId} (w : ℕ) (o : BinOp) (x y : WordId) → a ≡ shape.Int x → b ≡ shape.Int y → OnWords g w o x y r fails → OnForms g w o a b r fails
on_two_words {g} {a} {b} w o x y p q = lifted (a ∷ b ∷ [])
    (λ h e holds span. on_operands w span o (operand (worth holds h e a)) (operand (worth holds h e b)))
    (λ h more e holds live span. λ i. on_operands w span o (operand (worth_int holds h e x p i)) (operand (worth_int holds h e y q i)))

pub on_two_bits : {g : Graph} {a b r : Shape} {fails : BoolId} (w : ℕ) (o : BinOp) (x y : BoolId) → a ≡ shape.Bit x → b ≡ shape.Bit y → OnBits g o x y r fails → OnForms g w o a b r fails
on_two_bits {g} {a} {b} w o x y p q = lifted (a ∷ b ∷ [])
    (λ h e holds span. on_operands w span o (operand (worth holds h e a)) (operand (worth holds h e b)))
    (λ h more e holds live span. λ i. on_operands w span o (operand (worth_bit holds h e x p i)) (operand (worth_bit holds h e y q i)))

-- ---- comparisons

both_ways : (a b : Bool) → (a ≡ true → b ≡ true) → (b ≡ true → a ≡ true) → a ≡ b
both_ways true b f k = sym (f refl)
both_ways false true f k = k refl
both_ways false false f k = refl

module _ {d g : Graph} {a b : Shape} (r : BoolId) (is : IsEquality d a b r) (keeps : Keeps d g) where
  pub compared : (h : Graph) → Grows g h → (e : Env) (holds : ℕ → Bool) → AllLive holds (shapes_value h e (a ∷ b ∷ [])) → bool_value h e r ≡ equal (worth holds h e a) (worth holds h e b)
  compared h more e holds live =
      let first = live_head holds (shape_value h e a) (shapes_value h e (b ∷ [])) live in
      let second = live_head holds (shape_value h e b) [] (live_tail holds (shape_value h e a) (shapes_value h e (b ∷ [])) live) in
      let seen = is.value h (keeps.later h more) e in
      let same = equal_is holds (shape_value h e a) (shape_value h e b) first second in
      both_ways (bool_value h e r) (equal (worth holds h e a) (worth holds h e b)) (λ t. same.1 (seen.0 t)) (λ t. seen.1 (same.0 t))

  pub equals : {o : BinOp} {made : Shape} {fails : BoolId} (w : ℕ) → o ≡ op.Eq → IsBitOf g r made fails → Operates g w o a b made fails
  equals {o} {made} {fails} w same of = subst (λ p. Operates g w p a b made fails) (sym same)
      (lifted (a ∷ b ∷ []) (λ h e holds span. operator w span op.Eq (worth holds h e a) (worth holds h e b))
      (λ h more e holds live span. ap (λ t. pure (value.Bit t)) (sym (compared h more e holds live))) of)

  pub differs : {o : BinOp} {made : Shape} {fails : BoolId} (w : ℕ) (n : BoolId) → o ≡ op.Ne → ((h : Graph) → Grows g h → (e : Env) → bool_value h e n ≡ not (bool_value h e r)) → IsBitOf g n made fails → Operates g w o a b made fails
  differs {o} {made} {fails} w n same flipped of = subst (λ p. Operates g w p a b made fails) (sym same)
      (lifted (a ∷ b ∷ []) (λ h e holds span. operator w span op.Ne (worth holds h e a) (worth holds h e b))
      (λ h more e holds live span. ap (λ t. pure (value.Bit t)) (ap not (sym (compared h more e holds live)) ∙ sym (flipped h more e))) of)

-- ---- operators on one shape

abbrev pub UnaryOf : Graph → ℕ → UnOp → Shape → Shape → BoolId → Type 0
UnaryOf g w o a r fails = IsOperated g (a ∷ []) (λ h e holds span. unary_operator w span o (worth holds h e a)) r fails

module _ {d g : Graph} {o : UnOp} {a made : Shape} {fails : BoolId} (w : ℕ) where
  pub not_is : (x r : BoolId) → o ≡ unary.Not → a ≡ shape.Bit x → ((h : Graph) → Grows d h → (e : Env) → bool_value h e r ≡ not (bool_value h e x)) → Keeps d g → IsBitOf g r made fails → UnaryOf g w o a made fails
  not_is x r same is known keeps of = subst (λ p. UnaryOf g w p a made fails) (sym same)
      (lifted (a ∷ []) (λ h e holds span. unary_operator w span unary.Not (worth holds h e a))
      (λ h more e holds live span. ap (unary_operator w span unary.Not) (worth_bit holds h e x is) ∙ ap (λ b. pure (value.Bit b)) (sym (known h (keeps.later h more) e))) of)

  pub flip_is : (x r : BoolId) → o ≡ unary.Flip → a ≡ shape.Bit x → ((h : Graph) → Grows d h → (e : Env) → bool_value h e r ≡ not (bool_value h e x)) → Keeps d g → IsBitOf g r made fails → UnaryOf g w o a made fails
  flip_is x r same is known keeps of = subst (λ p. UnaryOf g w p a made fails) (sym same)
      (lifted (a ∷ []) (λ h e holds span. unary_operator w span unary.Flip (worth holds h e a))
      (λ h more e holds live span. ap (unary_operator w span unary.Flip) (worth_bit holds h e x is) ∙ ap (λ b. pure (value.Bit b)) (sym (known h (keeps.later h more) e))) of)

  pub neg_is : (x r : WordId) → o ≡ unary.Neg → a ≡ shape.Int x → ((h : Graph) → Grows d h → (e : Env) → word_value h e r ≡ wrapped w (neg_ℤ (word_value h e x))) → Keeps d g → IsWordOf g r made fails → UnaryOf g w o a made fails
  neg_is x r same is known keeps of = subst (λ p. UnaryOf g w p a made fails) (sym same)
      (lifted (a ∷ []) (λ h e holds span. unary_operator w span unary.Neg (worth holds h e a))
      (λ h more e holds live span. ap (unary_operator w span unary.Neg) (worth_int holds h e x is) ∙ ap (λ z. pure (value.Int z)) (sym (known h (keeps.later h more) e))) of)

pub coerced : {d g : Graph} {a made : Shape} {fails : BoolId} (x : BoolId) (r : WordId) → a ≡ shape.Bit x → ((h : Graph) → Grows d h → (e : Env) → word_value h e r ≡ pos (if bool_value h e x then 1 else 0)) → Keeps d g → IsWordOf g r made fails → IsOperated g (a ∷ []) (λ h e holds span. to_int span (worth holds h e a)) made fails
coerced {a = a} x r is known keeps = lifted (a ∷ []) (λ h e holds span. to_int span (worth holds h e a))
    (λ h more e holds live span. ap (to_int span) (worth_bit holds h e x is) ∙ ap (λ z. pure (value.Int z)) (sym (known h (keeps.later h more) e)))

pub one_word : {w : ℕ} {nodes : List Node} → IsWellFormed w nodes → IsWord w (pos 1)
one_word {w} h = record { low = omega (arith, ints); high = omega (arith, ints, more w h.bits_low) }
  where
    more : (w : ℕ) → 2 ≤ w → 1 < half w
    more zero l = absurd (omega (arith, l))
    more (suc zero) l = absurd (omega (arith, l))
    more (suc (suc k)) l = let is : suc (suc k) - 1 ≡ suc k = omega arith in subst (λ n. 1 < 2 ^ n) (sym is) (two k)
      where
        two : (k : ℕ) → 1 < 2 ^ suc k
        two zero = omega arith
        two (suc k) = let less : 1 < 2 ^ suc k = two k in omega (arith, less)

pub picked : (b : Bool) → (if b then pos 1 else pos 0) ≡ pos (if b then 1 else 0)
picked true = refl
picked false = refl

pub ruleset digits = (Keeps-refl, zero_word, one_word)

pub digit_is : {a b g : Graph} (x : BoolId) (one nought r : WordId) → ((h : Graph) → Grows a h → (e : Env) → word_value h e one ≡ pos 1) → Keeps a b → ((h : Graph) → Grows b h → (e : Env) → word_value h e nought ≡ pos 0) → Keeps b g → ((h : Graph) → Grows g h → (e : Env) → word_value h e r ≡ (if bool_value h e x then word_value h e one else word_value h e nought)) → (h : Graph) → Grows g h → (e : Env) → word_value h e r ≡ pos (if bool_value h e x then 1 else 0)
digit_is x one nought r first k second l mixed h more e =
    mixed h more e
    ∙ (λ i. if bool_value h e x then first h (k.later h (l.later h more)) e i else second h (l.later h more) e i)
    ∙ picked (bool_value h e x)
