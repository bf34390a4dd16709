-- What names no slot: bits and words, with a flag for failure.
use Rattle.std.proofs.Common.{◌≡◌, ℕ, ℤ, pos, negsuc, zero, suc, Bool, true, false, true≢false, refl, sym, ap, subst, ◌∙◌, if◌then◌else◌, ◌+ℤ◌, ◌-ℤ◌, ◌*ℤ◌, int_lt, int_le, ◌&&◌, ◌||◌, not}
use Rattle.std.proofs.lemmas.Bool.Decides.{Decides-int_eq}
use Rattle.std.specs.Ordering.{int_eq}
use Rattle.sk_base.specs.declared.span.Span.{Span}
use Rattle.sk_dag.specs.declared.env.Env.{Env}
use Rattle.sk_dag.specs.declared.node.BoolId.{BoolId}
use Rattle.sk_dag.specs.declared.node.WordId.{WordId}
use Rattle.sk_dag.specs.declared.shape.Shape.{Shape}
use Rattle.sk_dag.specs.declared.shape.Shape.TheVariants as shape
use Rattle.sk_dag.specs.Graph.{Graph, Grows, HasBool, HasWord, BoolSort, WordSort}
use Rattle.sk_dag.specs.Eval.{bool_value, word_value, Keeps}
use Rattle.sk_simplify.proofs.RuleLemmas.{zero_word}
use Rattle.sk_arr.proofs.Standing.{bit_stands, int_stands}
use Rattle.sk_arr.proofs.Values.{value_bit, value_int, bit_passes, int_passes}
use Rattle.sk_base.specs.Word.{wrapped}
use Rattle.sk_prog.specs.declared.expr.BinOp.{BinOp}
use Rattle.sk_prog.specs.declared.expr.BinOp.TheVariants as op
use Rattle.sk_prog.specs.declared.value.Value.{Value}
use Rattle.sk_prog.specs.declared.value.Value.TheVariants as value
use Rattle.sk_model.specs.Step.{Comp, pure, fail}
use Rattle.sk_model.specs.Operators.{divided, number_operator, bit_operator, either_bit}
use Rattle.sk_heap_laws.specs.Values.{value_of, IsLive}
use Rattle.sk_heap_laws.proofs.Parts.{of_bit, of_int, live_bit, live_int}
use Rattle.sk_sym_operators.specs.Worth.{answered}
use Rattle.sk_sym_operators.specs.Answers.{IsComputed}

module _ {g : Graph} {fails : BoolId} where
  -- a word, where it does not fail
  pub word_computed : {r : WordId} → HasWord g.nodes r → HasBool g.nodes fails → IsComputed g (λ h e span. answered span (bool_value h e fails) (value.Int (word_value h e r))) (shape.Int r) fails
  word_computed {r} there flag = record {
    stands = int_stands g r there;
    there = flag;
    unnamed = λ test. int_passes test r;
    live = λ h e holds. subst (IsLive holds) (sym (value_int h e r)) (live_int holds (word_value h e r));
    value = λ h more e place span. ap (answered span (bool_value h e fails)) (sym (of_int place (word_value h e r)) ∙ sym (ap (value_of place) (value_int h e r)));
  }

  pub bit_computed : {r : BoolId} → HasBool g.nodes r → HasBool g.nodes fails → IsComputed g (λ h e span. answered span (bool_value h e fails) (value.Bit (bool_value h e r))) (shape.Bit r) fails
  bit_computed {r} there flag = record {
    stands = bit_stands g r there;
    there = flag;
    unnamed = λ test. bit_passes test r;
    live = λ h e holds. subst (IsLive holds) (sym (value_bit h e r)) (live_bit holds (bool_value h e r));
    value = λ h more e place span. ap (answered span (bool_value h e fails)) (sym (of_bit place (bool_value h e r)) ∙ sym (ap (value_of place) (value_bit h e r)));
  }

-- other words for what is done
pub computed_as : {g : Graph} {r : Shape} {fails : BoolId} (m m' : Graph → Env → Span → Comp Value) → ((h : Graph) → Grows g h → (e : Env) (span : Span) → m' h e span ≡ m h e span) → IsComputed g m r fails → IsComputed g m' r fails
computed_as m m' same is = record {
  stands = is.stands;
  there = is.there;
  unnamed = is.unnamed;
  live = is.live;
  value = λ h more e place span. same h more e span ∙ is.value h more e place span;
}

-- what always fails
pub always_fails : {g : Graph} {fails : BoolId} → HasBool g.nodes fails → ((h : Graph) → Grows g h → (e : Env) → bool_value h e fails ≡ true) → IsComputed g (λ h e span. fail span) (shape.Bit fails) fails
always_fails {g} {fails} there always = computed_as (λ h e span. answered span (bool_value h e fails) (value.Bit (bool_value h e fails))) (λ h e span. fail span)
    (λ h more e span. sym (ap (λ b. answered span b (value.Bit (bool_value h e fails))) (always h more e))) (bit_computed there there)

module _ {a g : Graph} {made : Shape} {fails : BoolId} where
  -- a word that is known, which never fails
  pub word_law : (r : WordId) (z : Graph → Env → ℤ) → ((h : Graph) → Grows a h → (e : Env) → word_value h e r ≡ z h e) → IsComputed g (λ h e span. pure (value.Int (word_value h e r))) made fails → Keeps a g → IsComputed g (λ h e span. pure (value.Int (z h e))) made fails
  word_law r z known is keeps = computed_as (λ h e span. pure (value.Int (word_value h e r))) (λ h e span. pure (value.Int (z h e))) (λ h more e span. ap (λ x. pure (value.Int x)) (sym (known h (keeps.later h more) e))) is

  pub bit_law : (r : BoolId) (z : Graph → Env → Bool) → ((h : Graph) → Grows a h → (e : Env) → bool_value h e r ≡ z h e) → IsComputed g (λ h e span. pure (value.Bit (bool_value h e r))) made fails → Keeps a g → IsComputed g (λ h e span. pure (value.Bit (z h e))) made fails
  bit_law r z known is keeps = computed_as (λ h e span. pure (value.Bit (bool_value h e r))) (λ h e span. pure (value.Bit (z h e))) (λ h more e span. ap (λ x. pure (value.Bit x)) (sym (known h (keeps.later h more) e))) is

module _ {a g : Graph} {r : WordId} {fails : BoolId} (there : HasWord a.nodes r) (flag : HasBool g.nodes fails) (keeps : Keeps a g) where
  -- what never fails
  pub surely_word : ((h : Graph) → Grows g h → (e : Env) → bool_value h e fails ≡ false) → IsComputed g (λ h e span. pure (value.Int (word_value h e r))) (shape.Int r) fails
  surely_word never = computed_as (λ h e span. answered span (bool_value h e fails) (value.Int (word_value h e r))) (λ h e span. pure (value.Int (word_value h e r)))
      (λ h more e span. ap (λ b. answered span b (value.Int (word_value h e r))) (sym (never h more e))) (word_computed (keeps.sorts r.index WordSort there) flag)

module _ {a g : Graph} {r fails : BoolId} (there : HasBool a.nodes r) (flag : HasBool g.nodes fails) (keeps : Keeps a g) where
  pub surely_bit : ((h : Graph) → Grows g h → (e : Env) → bool_value h e fails ≡ false) → IsComputed g (λ h e span. pure (value.Bit (bool_value h e r))) (shape.Bit r) fails
  surely_bit never = computed_as (λ h e span. answered span (bool_value h e fails) (value.Bit (bool_value h e r))) (λ h e span. pure (value.Bit (bool_value h e r)))
      (λ h more e span. ap (λ b. answered span b (value.Bit (bool_value h e r))) (sym (never h more e))) (bit_computed (keeps.sorts r.index BoolSort there) flag)

abbrev is_zero : ℤ → Bool
is_zero (pos zero) = true
is_zero (pos (suc n)) = false
is_zero (negsuc n) = false

apart : (n : ℤ) → is_zero n ≡ false → n ≡ pos 0 → ⊥
apart n h e = true≢false (sym (ap is_zero e) ∙ h)

differs : (n : ℤ) → (n ≡ pos 0 → ⊥) → int_eq n (pos 0) ≡ false
differs n h = by (int_eq n (pos 0)) refl
  where
    by : (b : Bool) → int_eq n (pos 0) ≡ b → b ≡ false
    by true e = absurd (h ((Decides-int_eq n (pos 0)).0 e))
    by false e = refl

-- a word that is known, unless the divisor is 0
pub divided_law : {a b g : Graph} {fails : BoolId} (r y nought : WordId) (z : Graph → Env → ℤ) → HasWord a.nodes r → ((h : Graph) → Grows a h → (e : Env) → word_value h e r ≡ (if int_eq (word_value h e y) (pos 0) then pos 0 else z h e)) → ((h : Graph) → Grows b h → (e : Env) → word_value h e nought ≡ pos 0) → Keeps a b → Keeps b g → HasBool g.nodes fails → ((h : Graph) → Grows g h → (e : Env) → bool_value h e fails ≡ int_eq (word_value h e y) (word_value h e nought)) → IsComputed g (λ h e span. divided span (word_value h e y) (z h e)) (shape.Int r) fails
divided_law {a} {b} {g} {fails} r y nought z there known none first second flag test =
    computed_as (λ h e span. answered span (bool_value h e fails) (value.Int (word_value h e r))) (λ h e span. divided span (word_value h e y) (z h e))
    (λ h more e span. by h e span (word_value h e y)
    (test h more e ∙ ap (int_eq (word_value h e y)) (none h (second.later h more) e))
    (known h (first.later h (second.later h more)) e))
    (word_computed (second.sorts r.index WordSort (first.sorts r.index WordSort there)) flag)
  where
    by : (h : Graph) (e : Env) (span : Span) (n : ℤ) → bool_value h e fails ≡ int_eq n (pos 0) → word_value h e r ≡ (if int_eq n (pos 0) then pos 0 else z h e) → divided span n (z h e) ≡ answered span (bool_value h e fails) (value.Int (word_value h e r))
    by h e span (pos zero) p q = sym (ap (λ b. answered span b (value.Int (word_value h e r))) p)
    by h e span (pos (suc n)) p q = sym (λ i. answered span ((p ∙ differs (pos (suc n)) (apart (pos (suc n)) refl)) i) (value.Int ((q ∙ ap (λ b. if b then pos 0 else z h e) (differs (pos (suc n)) (apart (pos (suc n)) refl))) i)))
    by h e span (negsuc n) p q = sym (λ i. answered span ((p ∙ differs (negsuc n) (apart (negsuc n) refl)) i) (value.Int ((q ∙ ap (λ b. if b then pos 0 else z h e) (differs (negsuc n) (apart (negsuc n) refl))) i)))

-- ---- the operators one by one, in the words of a match on the operator

abbrev pub OnWords : Graph → ℕ → BinOp → WordId → WordId → Shape → BoolId → Type 0
OnWords g w o x y made fails = IsComputed g (λ h e span. number_operator w span o (word_value h e x) (word_value h e y)) made fails

abbrev pub OnBits : Graph → BinOp → BoolId → BoolId → Shape → BoolId → Type 0
OnBits g o x y made fails = IsComputed g (λ h e span. bit_operator span o (bool_value h e x) (bool_value h e y)) made fails

abbrev pub IsWordOf : Graph → WordId → Shape → BoolId → Type 0
IsWordOf g r made fails = IsComputed g (λ h e span. pure (value.Int (word_value h e r))) made fails

abbrev pub IsBitOf : Graph → BoolId → Shape → BoolId → Type 0
IsBitOf g r made fails = IsComputed g (λ h e span. pure (value.Bit (bool_value h e r))) made fails

pub op_is : {g : Graph} {o : BinOp} {made : Shape} {fails : BoolId} (w : ℕ) (x y : WordId) (o' : BinOp) → o ≡ o' → OnWords g w o' x y made fails → OnWords g w o x y made fails
op_is {g} {o} {made} {fails} w x y o' is h = subst (λ p. OnWords g w p x y made fails) (sym is) h

bit_op_is : {g : Graph} {o : BinOp} {made : Shape} {fails : BoolId} (x y : BoolId) (o' : BinOp) → o ≡ o' → OnBits g o' x y made fails → OnBits g o x y made fails
bit_op_is {g} {o} {made} {fails} x y o' is h = subst (λ p. OnBits g p x y made fails) (sym is) h

module _ {a g : Graph} {o : BinOp} {made : Shape} {fails : BoolId} where
  module _ (w : ℕ) (x y : WordId) where
    pub add_is : (r : WordId) → o ≡ op.Add → ((h : Graph) → Grows a h → (e : Env) → word_value h e r ≡ wrapped w (word_value h e x +ℤ word_value h e y)) → Keeps a g → IsWordOf g r made fails → OnWords g w o x y made fails
    add_is r is known keeps of = op_is w x y op.Add is (word_law r (λ h e. wrapped w (word_value h e x +ℤ word_value h e y)) known of keeps)

    pub sub_is : (r : WordId) → o ≡ op.Sub → ((h : Graph) → Grows a h → (e : Env) → word_value h e r ≡ wrapped w (word_value h e x -ℤ word_value h e y)) → Keeps a g → IsWordOf g r made fails → OnWords g w o x y made fails
    sub_is r is known keeps of = op_is w x y op.Sub is (word_law r (λ h e. wrapped w (word_value h e x -ℤ word_value h e y)) known of keeps)

    pub mul_is : (r : WordId) → o ≡ op.Mul → ((h : Graph) → Grows a h → (e : Env) → word_value h e r ≡ wrapped w (word_value h e x *ℤ word_value h e y)) → Keeps a g → IsWordOf g r made fails → OnWords g w o x y made fails
    mul_is r is known keeps of = op_is w x y op.Mul is (word_law r (λ h e. wrapped w (word_value h e x *ℤ word_value h e y)) known of keeps)

    pub lt_is : (r : BoolId) → o ≡ op.Lt → ((h : Graph) → Grows a h → (e : Env) → bool_value h e r ≡ int_lt (word_value h e x) (word_value h e y)) → Keeps a g → IsBitOf g r made fails → OnWords g w o x y made fails
    lt_is r is known keeps of = op_is w x y op.Lt is (bit_law r (λ h e. int_lt (word_value h e x) (word_value h e y)) known of keeps)

    pub le_is : (r : BoolId) → o ≡ op.Le → ((h : Graph) → Grows a h → (e : Env) → bool_value h e r ≡ int_le (word_value h e x) (word_value h e y)) → Keeps a g → IsBitOf g r made fails → OnWords g w o x y made fails
    le_is r is known keeps of = op_is w x y op.Le is (bit_law r (λ h e. int_le (word_value h e x) (word_value h e y)) known of keeps)

    pub gt_is : (r : BoolId) → o ≡ op.Gt → ((h : Graph) → Grows a h → (e : Env) → bool_value h e r ≡ int_lt (word_value h e y) (word_value h e x)) → Keeps a g → IsBitOf g r made fails → OnWords g w o x y made fails
    gt_is r is known keeps of = op_is w x y op.Gt is (bit_law r (λ h e. int_lt (word_value h e y) (word_value h e x)) known of keeps)

    pub ge_is : (r : BoolId) → o ≡ op.Ge → ((h : Graph) → Grows a h → (e : Env) → bool_value h e r ≡ int_le (word_value h e y) (word_value h e x)) → Keeps a g → IsBitOf g r made fails → OnWords g w o x y made fails
    ge_is r is known keeps of = op_is w x y op.Ge is (bit_law r (λ h e. int_le (word_value h e y) (word_value h e x)) known of keeps)

  module _ (x y r : BoolId) where
    pub and_is : o ≡ op.And → ((h : Graph) → Grows a h → (e : Env) → bool_value h e r ≡ (bool_value h e x && bool_value h e y)) → Keeps a g → IsBitOf g r made fails → OnBits g o x y made fails
    and_is is known keeps of = bit_op_is x y op.And is (bit_law r (λ h e. bool_value h e x && bool_value h e y) known of keeps)

    pub or_is : o ≡ op.Or → ((h : Graph) → Grows a h → (e : Env) → bool_value h e r ≡ (bool_value h e x || bool_value h e y)) → Keeps a g → IsBitOf g r made fails → OnBits g o x y made fails
    or_is is known keeps of = bit_op_is x y op.Or is (bit_law r (λ h e. bool_value h e x || bool_value h e y) known of keeps)

    pub xor_is : o ≡ op.Xor → ((h : Graph) → Grows a h → (e : Env) → bool_value h e r ≡ (if bool_value h e x then not (bool_value h e y) else bool_value h e y)) → Keeps a g → IsBitOf g r made fails → OnBits g o x y made fails
    xor_is is known keeps of = bit_op_is x y op.Xor is (bit_law r (λ h e. either_bit (bool_value h e x) (bool_value h e y)) (λ h more e. known h more e ∙ either (bool_value h e x) (bool_value h e y)) of keeps)
      where
        either : (p q : Bool) → (if p then not q else q) ≡ either_bit p q
        either true true = refl
        either true false = refl
        either false true = refl
        either false false = refl

pub ruleset dividing = (zero_word)
