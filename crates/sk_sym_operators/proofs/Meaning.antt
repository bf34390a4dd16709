-- Operators on shapes of forms for which they have no meaning: they fail.
use Rattle.std.proofs.Common.{◌≡◌, ◌≢◌, ℕ, ℤ, pos, Bool, true, false, true≢false, List, [], ◌∷◌, map, All, Option, Some, None, refl, sym, ap, subst, ◌∙◌}
use Rattle.std.proofs.lemmas.List.Elements.{All-head, All-tail}
use Rattle.sk_base.specs.declared.span.Span.{Span}
use Rattle.sk_dag.specs.declared.env.Env.{Env}
use Rattle.sk_dag.specs.declared.node.BoolId.{BoolId}
use Rattle.sk_dag.specs.declared.node.WordId.{WordId}
use Rattle.sk_dag.specs.declared.shape.Targets.{Targets}
use Rattle.sk_dag.specs.declared.shape.Shape.{Shape}
use Rattle.sk_dag.specs.declared.shape.Shape.TheVariants as shape
use Rattle.sk_dag.specs.declared.shape.Seen.{Seen}
use Rattle.sk_dag.specs.declared.shape.Seen.TheOpen as N
use Rattle.sk_dag.specs.declared.shape.Seen.TheFolds.{fold-Seen, fold-roll-Seen}
use Rattle.sk_dag.specs.declared.shape.Seen.TheVariants as seen
use Rattle.sk_dag.specs.Graph.{Graph, Grows, HasBool}
use Rattle.sk_dag.specs.Eval.{bool_value, word_value}
use Rattle.sk_dag.specs.EvalShape.{shape_value, held_slot}
use Rattle.sk_arr.specs.Shapes.{blank, Alike}
use Rattle.sk_arr.specs.Answers.{shapes_value, IsEquality}
use Rattle.sk_arr.proofs.Parts.{shape_law}
use Rattle.sk_arr.proofs.Values.{value_bit, value_int, value_reference, value_array, blank_bit, blank_int, blank_reference, blank_array}
use Rattle.sk_prog.specs.declared.expr.BinOp.{BinOp}
use Rattle.sk_prog.specs.declared.expr.BinOp.TheVariants as op
use Rattle.sk_prog.specs.declared.expr.UnOp.TheVariants as unary
use Rattle.sk_prog.specs.declared.value.Value.{Value}
use Rattle.sk_prog.specs.declared.value.Value.TheVariants as value
use Rattle.sk_model.specs.Step.{Comp, fail}
use Rattle.sk_model.specs.Operators.{Operand, Number, OneBit, Bits, Reference, operand, number_operator, bit_operator, on_operand, on_operands, unary_operator, to_int}
use Rattle.sk_heap_laws.specs.Values.{place_of, value_of}
use Rattle.sk_heap_laws.proofs.Parts.{of_null, of_slot}
use Rattle.sk_sym_operators.specs.Worth.{worth, bits_in}
use Rattle.sk_sym_operators.specs.Bitwise.{is_bitwise, bitwise}
use Rattle.sk_sym_operators.specs.Answers.{IsComputed, IsOperated}
use Rattle.sk_sym_operators.proofs.Computing.{computed_as, OnWords, OnBits}
use Rattle.sk_sym_operators.proofs.Operating.{worth_bit, worth_int, worth_array, lifted, OnForms, UnaryOf}
use Rattle.sk_sym_operators.proofs.BitRows.{row_operand}

abbrev pub Fails : Graph → Shape → BoolId → Type 0
Fails g r fails = IsComputed g (λ h e span. fail span) r fails

-- what fails may be answered for any shapes
pub without : {g : Graph} {r : Shape} {fails : BoolId} (args : List Shape) (m : Graph → Env → (ℕ → Bool) → Span → Comp Value) → ((h : Graph) (e : Env) (holds : ℕ → Bool) (span : Span) → m h e holds span ≡ fail span) → Fails g r fails → IsOperated g args m r fails
without args m none = lifted args m (λ h more e holds live span. none h e holds span)

-- ---- what an operator sees of shapes

abbrev is_number : Operand → Bool
is_number (Number n) = true
is_number _ = false

abbrev is_one : Operand → Bool
is_one (OneBit b) = true
is_one _ = false

abbrev is_row : Operand → Bool
is_row (Bits bs) = true
is_row _ = false

-- what a reference is worth
pub reference_law : (P : Value → Type 0) → P value.Null → ((n : ℕ) → P (value.Place n)) → (holds : ℕ → Bool) (h : Graph) (e : Env) (t : Targets) → P (worth holds h e (shape.Reference t))
reference_law P null place holds h e t = subst (λ v. P (value_of (place_of holds) v)) (sym (value_reference h e t)) (by (held_slot h e t.slots.items))
  where
    by : (s : Option ℕ) → P (value_of (place_of holds) (seen.Slot s))
    by None = subst P (sym (of_null (place_of holds))) null
    by (Some n) = subst P (sym (of_slot (place_of holds) n)) (place (place_of holds n))

module _ (holds : ℕ → Bool) (h : Graph) (e : Env) where
  abbrev see : Shape → Operand
  see s = operand (worth holds h e s)

  see_bit : (a : BoolId) → see (shape.Bit a) ≡ OneBit (bool_value h e a)
  see_bit a = ap operand (worth_bit holds h e a refl)

  see_int : (a : WordId) → see (shape.Int a) ≡ Number (word_value h e a)
  see_int a = ap operand (worth_int holds h e a refl)

  see_reference : (t : Targets) → see (shape.Reference t) ≡ Reference
  see_reference = reference_law (λ v. operand v ≡ Reference) refl (λ n. refl) holds h e

  see_array : (ss : List Shape) → see (shape.Array ss) ≡ Bits (bits_in h e ss)
  see_array ss = row_operand holds h e (shape.Array ss) ss refl

  no_number : (s : Shape) → ((a : WordId) → s ≡ shape.Int a → ⊥) → is_number (see s) ≡ false
  no_number = shape_law (λ s. ((a : WordId) → s ≡ shape.Int a → ⊥) → is_number (see s) ≡ false)
      (λ a other. ap is_number (see_bit a))
      (λ a other. absurd (other a refl))
      (λ t other. ap is_number (see_reference t))
      (λ ss below other. ap is_number (see_array ss))

  no_bit : (s : Shape) → ((a : BoolId) → s ≡ shape.Bit a → ⊥) → is_one (see s) ≡ false
  no_bit = shape_law (λ s. ((a : BoolId) → s ≡ shape.Bit a → ⊥) → is_one (see s) ≡ false)
      (λ a other. absurd (other a refl))
      (λ a other. ap is_one (see_int a))
      (λ t other. ap is_one (see_reference t))
      (λ ss below other. ap is_one (see_array ss))

  no_row : (s : Shape) → ((ss : List Shape) → s ≡ shape.Array ss → ⊥) → is_row (see s) ≡ false
  no_row = shape_law (λ s. ((ss : List Shape) → s ≡ shape.Array ss → ⊥) → is_row (see s) ≡ false)
      (λ a other. ap is_row (see_bit a))
      (λ a other. ap is_row (see_int a))
      (λ t other. ap is_row (see_reference t))
      (λ ss below other. absurd (other ss refl))

-- ---- operators without a meaning

module _ (w : ℕ) (span : Span) where
  not_number : (o : BinOp) (n : ℤ) (v : Operand) → is_number v ≡ false → on_operands w span o (Number n) v ≡ fail span
  not_number o n (Number m) is = absurd (true≢false is)
  not_number o n (OneBit b) is = refl
  not_number o n (Bits bs) is = refl
  not_number o n Reference is = refl

  not_one : (o : BinOp) (b : Bool) (v : Operand) → is_one v ≡ false → on_operands w span o (OneBit b) v ≡ fail span
  not_one o b (Number m) is = refl
  not_one o b (OneBit c) is = absurd (true≢false is)
  not_one o b (Bits bs) is = refl
  not_one o b Reference is = refl

  not_row : (o : BinOp) (bs : List Bool) (v : Operand) → is_row v ≡ false → is_number v ≡ false → on_operands w span o (Bits bs) v ≡ fail span
  not_row o bs (Number m) is neither = absurd (true≢false neither)
  not_row o bs (OneBit c) is neither = refl
  not_row o bs (Bits cs) is neither = absurd (true≢false is)
  not_row o bs Reference is neither = refl

  of_reference : (o : BinOp) (v : Operand) → on_operands w span o Reference v ≡ fail span
  of_reference o (Number m) = refl
  of_reference o (OneBit c) = refl
  of_reference o (Bits cs) = refl
  of_reference o Reference = refl

  not_shift : (o : BinOp) (bs : List Bool) (n : ℤ) → o ≢ op.Shl → o ≢ op.Shr → on_operands w span o (Bits bs) (Number n) ≡ fail span
  not_shift op.Shl bs n p q = absurd (p refl)
  not_shift op.Shr bs n p q = absurd (q refl)
  not_shift _ bs n p q = refl

  not_each : (o : BinOp) (bs cs : List Bool) → is_bitwise o ≡ false → o ≢ op.Add → on_operands w span o (Bits bs) (Bits cs) ≡ fail span
  not_each op.And bs cs is p = absurd (true≢false is)
  not_each op.Or bs cs is p = absurd (true≢false is)
  not_each op.Xor bs cs is p = absurd (true≢false is)
  not_each op.Add bs cs is p = absurd (p refl)
  not_each _ bs cs is p = refl

  not_ring : (o : BinOp) (m n : ℤ) → o ≢ op.Div → o ≢ op.Rem → o ≢ op.Add → o ≢ op.Sub → o ≢ op.Mul → o ≢ op.Lt → o ≢ op.Le → o ≢ op.Gt → o ≢ op.Ge → number_operator w span o m n ≡ fail span
  not_ring op.Div m n a b c d e f g h i = absurd (a refl)
  not_ring op.Rem m n a b c d e f g h i = absurd (b refl)
  not_ring op.Add m n a b c d e f g h i = absurd (c refl)
  not_ring op.Sub m n a b c d e f g h i = absurd (d refl)
  not_ring op.Mul m n a b c d e f g h i = absurd (e refl)
  not_ring op.Lt m n a b c d e f g h i = absurd (f refl)
  not_ring op.Le m n a b c d e f g h i = absurd (g refl)
  not_ring op.Gt m n a b c d e f g h i = absurd (h refl)
  not_ring op.Ge m n a b c d e f g h i = absurd (i refl)
  not_ring _ m n a b c d e f g h i = refl

  not_gate : (o : BinOp) (a b : Bool) → o ≢ op.And → o ≢ op.Or → o ≢ op.Xor → bit_operator span o a b ≡ fail span
  not_gate op.And a b p q r = absurd (p refl)
  not_gate op.Or a b p q r = absurd (q refl)
  not_gate op.Xor a b p q r = absurd (r refl)
  not_gate _ a b p q r = refl

  not_opposite : (v : Operand) → is_one v ≡ false → on_operand w span unary.Not v ≡ fail span
  not_opposite (OneBit b) is = absurd (true≢false is)
  not_opposite (Number n) is = refl
  not_opposite (Bits bs) is = refl
  not_opposite Reference is = refl

  not_negative : (v : Operand) → is_number v ≡ false → on_operand w span unary.Neg v ≡ fail span
  not_negative (OneBit b) is = refl
  not_negative (Number n) is = absurd (true≢false is)
  not_negative (Bits bs) is = refl
  not_negative Reference is = refl

  not_flip : (v : Operand) → is_one v ≡ false → is_row v ≡ false → on_operand w span unary.Flip v ≡ fail span
  not_flip (OneBit b) is neither = absurd (true≢false is)
  not_flip (Number n) is neither = refl
  not_flip (Bits bs) is neither = absurd (true≢false neither)
  not_flip Reference is neither = refl

pub not_bitwise : (o : BinOp) (a b : Bool) → o ≢ op.And → o ≢ op.Or → o ≢ op.Xor → bitwise o a b ≡ false
not_bitwise op.And a b p q r = absurd (p refl)
not_bitwise op.Or a b p q r = absurd (q refl)
not_bitwise op.Xor a b p q r = absurd (r refl)
not_bitwise _ a b p q r = refl

-- ---- in the words of the calls

module _ {g : Graph} {r : Shape} {fails : BoolId} (w : ℕ) where
  pub word_and_other : (o : BinOp) {b : Shape} (x : WordId) → ((a : WordId) → b ≡ shape.Int a → ⊥) → Fails g r fails → OnForms g w o (shape.Int x) b r fails
  word_and_other o {b} x other = without (shape.Int x ∷ b ∷ []) (λ h e holds span. on_operands w span o (operand (worth holds h e (shape.Int x))) (operand (worth holds h e b)))
      (λ h e holds span. ap (λ v. on_operands w span o v (operand (worth holds h e b))) (see_int holds h e x)
      ∙ not_number w span o (word_value h e x) (operand (worth holds h e b)) (no_number holds h e b other))

  pub bit_and_other : (o : BinOp) {b : Shape} (x : BoolId) → ((a : BoolId) → b ≡ shape.Bit a → ⊥) → Fails g r fails → OnForms g w o (shape.Bit x) b r fails
  bit_and_other o {b} x other = without (shape.Bit x ∷ b ∷ []) (λ h e holds span. on_operands w span o (operand (worth holds h e (shape.Bit x))) (operand (worth holds h e b)))
      (λ h e holds span. ap (λ v. on_operands w span o v (operand (worth holds h e b))) (see_bit holds h e x)
      ∙ not_one w span o (bool_value h e x) (operand (worth holds h e b)) (no_bit holds h e b other))

  pub row_and_other : (o : BinOp) {b : Shape} (x : List Shape) → ((ss : List Shape) → b ≡ shape.Array ss → ⊥) → ((a : WordId) → b ≡ shape.Int a → ⊥) → Fails g r fails → OnForms g w o (shape.Array x) b r fails
  row_and_other o {b} x other neither = without (shape.Array x ∷ b ∷ []) (λ h e holds span. on_operands w span o (operand (worth holds h e (shape.Array x))) (operand (worth holds h e b)))
      (λ h e holds span. ap (λ v. on_operands w span o v (operand (worth holds h e b))) (see_array holds h e x)
      ∙ not_row w span o (bits_in h e x) (operand (worth holds h e b)) (no_row holds h e b other) (no_number holds h e b neither))

  pub reference_and : (o : BinOp) {b : Shape} (t : Targets) → Fails g r fails → OnForms g w o (shape.Reference t) b r fails
  reference_and o {b} t = without (shape.Reference t ∷ b ∷ []) (λ h e holds span. on_operands w span o (operand (worth holds h e (shape.Reference t))) (operand (worth holds h e b)))
      (λ h e holds span. ap (λ v. on_operands w span o v (operand (worth holds h e b))) (see_reference holds h e t)
      ∙ of_reference w span o (operand (worth holds h e b)))

  pub no_count : {o : BinOp} (x : List Shape) (by : WordId) → o ≢ op.Shl → o ≢ op.Shr → Fails g r fails → OnForms g w o (shape.Array x) (shape.Int by) r fails
  no_count {o} x by p q = without (shape.Array x ∷ shape.Int by ∷ []) (λ h e holds span. on_operands w span o (operand (worth holds h e (shape.Array x))) (operand (worth holds h e (shape.Int by))))
      (λ h e holds span. (λ i. on_operands w span o (see_array holds h e x i) (see_int holds h e by i)) ∙ not_shift w span o (bits_in h e x) (word_value h e by) p q)

  pub no_pairs : {o : BinOp} (x y : List Shape) → is_bitwise o ≡ false → o ≢ op.Add → Fails g r fails → OnForms g w o (shape.Array x) (shape.Array y) r fails
  no_pairs {o} x y is p = without (shape.Array x ∷ shape.Array y ∷ []) (λ h e holds span. on_operands w span o (operand (worth holds h e (shape.Array x))) (operand (worth holds h e (shape.Array y))))
      (λ h e holds span. (λ i. on_operands w span o (see_array holds h e x i) (see_array holds h e y i)) ∙ not_each w span o (bits_in h e x) (bits_in h e y) is p)

  pub no_words : {o : BinOp} (x y : WordId) → o ≢ op.Div → o ≢ op.Rem → o ≢ op.Add → o ≢ op.Sub → o ≢ op.Mul → o ≢ op.Lt → o ≢ op.Le → o ≢ op.Gt → o ≢ op.Ge → Fails g r fails → OnWords g w o x y r fails
  no_words {o} x y a b c d e f k l m = computed_as (λ h e span. fail span) (λ h e span. number_operator w span o (word_value h e x) (word_value h e y))
      (λ h more v span. not_ring w span o (word_value h v x) (word_value h v y) a b c d e f k l m)

  pub no_opposite : (a : Shape) → ((x : BoolId) → a ≡ shape.Bit x → ⊥) → Fails g r fails → UnaryOf g w unary.Not a r fails
  no_opposite a other = without (a ∷ []) (λ h e holds span. unary_operator w span unary.Not (worth holds h e a))
      (λ h e holds span. not_opposite w span (operand (worth holds h e a)) (no_bit holds h e a other))

  pub no_negative : (a : Shape) → ((x : WordId) → a ≡ shape.Int x → ⊥) → Fails g r fails → UnaryOf g w unary.Neg a r fails
  no_negative a other = without (a ∷ []) (λ h e holds span. unary_operator w span unary.Neg (worth holds h e a))
      (λ h e holds span. not_negative w span (operand (worth holds h e a)) (no_number holds h e a other))

  pub no_flip : (a : Shape) → ((x : BoolId) → a ≡ shape.Bit x → ⊥) → ((ss : List Shape) → a ≡ shape.Array ss → ⊥) → Fails g r fails → UnaryOf g w unary.Flip a r fails
  no_flip a other neither = without (a ∷ []) (λ h e holds span. unary_operator w span unary.Flip (worth holds h e a))
      (λ h e holds span. not_flip w span (operand (worth holds h e a)) (no_bit holds h e a other) (no_row holds h e a neither))

pub no_gate : {g : Graph} {r : Shape} {fails : BoolId} {o : BinOp} (x y : BoolId) → o ≢ op.And → o ≢ op.Or → o ≢ op.Xor → Fails g r fails → OnBits g o x y r fails
no_gate {o = o} x y p q k = computed_as (λ h e span. fail span) (λ h e span. bit_operator span o (bool_value h e x) (bool_value h e y))
    (λ h more e span. not_gate 0 span o (bool_value h e x) (bool_value h e y) p q k)

pub no_digit : {g : Graph} {r : Shape} {fails : BoolId} (a : Shape) → ((x : BoolId) → a ≡ shape.Bit x → ⊥) → Fails g r fails → IsOperated g (a ∷ []) (λ h e holds span. to_int span (worth holds h e a)) r fails
no_digit a other = without (a ∷ []) (λ h e holds span. to_int span (worth holds h e a)) (λ h e holds span. by h e holds span a other)
  where
    by : (h : Graph) (e : Env) (holds : ℕ → Bool) (span : Span) (s : Shape) → ((x : BoolId) → s ≡ shape.Bit x → ⊥) → to_int span (worth holds h e s) ≡ fail span
    by h e holds span = shape_law (λ s. ((x : BoolId) → s ≡ shape.Bit x → ⊥) → to_int span (worth holds h e s) ≡ fail span)
        (λ x other. absurd (other x refl))
        (λ x other. ap (to_int span) (worth_int holds h e x refl))
        (λ t other. reference_law (λ v. to_int span v ≡ fail span) refl (λ n. refl) holds h e t)
        (λ ss below other. ap (to_int span) (worth_array holds h e ss refl))

-- in the words of a match on the shape
pub at_bit : {g : Graph} {a a' r : Shape} {fails : BoolId} → a ≡ a' → IsOperated g (a' ∷ []) (λ h e holds span. to_int span (worth holds h e a')) r fails → IsOperated g (a ∷ []) (λ h e holds span. to_int span (worth holds h e a)) r fails
at_bit {g} {a} {a'} {r} {fails} same = subst (λ s. IsOperated g (s ∷ []) (λ h e holds span. to_int span (worth holds h e s)) r fails) (sym same)

-- ---- shapes of different forms

abbrev form_step : N.Seen-F Seen → Seen
form_step (N.Bit b) = seen.Bit false
form_step (N.Int z) = seen.Int (pos 0)
form_step (N.Slot s) = seen.Slot None
form_step (N.Array vs) = seen.Array vs

-- the form of what is seen of a shape
abbrev form : Seen → Seen
form = fold-Seen Seen form_step

form_bit : (b : Bool) → form (seen.Bit b) ≡ seen.Bit false
form_bit b = ap form (sym (seen.rolls-Bit b)) ∙ fold-roll-Seen Seen form_step (N.Bit b)

form_int : (z : ℤ) → form (seen.Int z) ≡ seen.Int (pos 0)
form_int z = ap form (sym (seen.rolls-Int z)) ∙ fold-roll-Seen Seen form_step (N.Int z)

form_slot : (s : Option ℕ) → form (seen.Slot s) ≡ seen.Slot None
form_slot s = ap form (sym (seen.rolls-Slot s)) ∙ fold-roll-Seen Seen form_step (N.Slot s)

form_array : (vs : List Seen) → form (seen.Array vs) ≡ seen.Array (map form vs)
form_array vs = ap form (sym (seen.rolls-Array vs)) ∙ fold-roll-Seen Seen form_step (N.Array vs)

module _ (h : Graph) (e : Env) where
  forms_are : (ss : List Shape) → All (λ s. form (shape_value h e s) ≡ blank s) ss → map form (shapes_value h e ss) ≡ map blank ss
  forms_are [] below = refl
  forms_are (s ∷ ss) below = λ i. All-head (λ s. form (shape_value h e s) ≡ blank s) s ss below i ∷ forms_are ss (All-tail (λ s. form (shape_value h e s) ≡ blank s) s ss below) i

  form_is : (s : Shape) → form (shape_value h e s) ≡ blank s
  form_is = shape_law (λ s. form (shape_value h e s) ≡ blank s)
      (λ a. ap form (value_bit h e a) ∙ form_bit (bool_value h e a) ∙ sym (blank_bit a))
      (λ a. ap form (value_int h e a) ∙ form_int (word_value h e a) ∙ sym (blank_int a))
      (λ t. ap form (value_reference h e t) ∙ form_slot (held_slot h e t.slots.items) ∙ sym (blank_reference t))
      (λ ss below. ap form (value_array h e ss) ∙ form_array (shapes_value h e ss) ∙ ap (λ l. seen.Array l) (forms_are ss below) ∙ sym (blank_array ss))

-- they are never equal
pub unlike : {g : Graph} {a b : Shape} {r : BoolId} → (Alike a b → ⊥) → HasBool g.nodes r → ((h : Graph) → Grows g h → (e : Env) → bool_value h e r ≡ false) → IsEquality g a b r
unlike {a = a} {b = b} other there never = record {
  there = there;
  value = λ h more e. (
    λ yes. absurd (true≢false (sym yes ∙ never h more e)),
    λ same. absurd (other (sym (form_is h e a) ∙ ap form same ∙ form_is h e b)),
  );
}
