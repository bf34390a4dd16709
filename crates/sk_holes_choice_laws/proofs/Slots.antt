-- What a run does says nothing of slots that are not there: a slot that is not there is as one that is blank.
use Rattle.std.proofs.Common.{◌≡◌, ℕ, zero, suc, ◌+◌, ◌-◌, ℤ, pos, negsuc, Bool, true, false, List, [], ◌∷◌, ◌++◌, length, take, drop, Option, Some, None, refl, sym, ap, subst, ◌∙◌}
use Rattle.std.specs.Prelude.{slice_index_or, slice_set, replicate, nat_le, min, ◌^◌, if◌then◌else◌}
use Rattle.sk_base.specs.declared.span.Span.{Span}
use Rattle.sk_prog.specs.declared.value.Value.{Value}
use Rattle.sk_prog.specs.declared.value.Value.TheVariants as value
use Rattle.sk_prog.specs.declared.expr.UnOp.{UnOp}
use Rattle.sk_prog.specs.declared.expr.UnOp.TheVariants as unary
use Rattle.sk_prog.specs.declared.expr.BinOp.{BinOp}
use Rattle.sk_prog.specs.declared.expr.BinOp.TheVariants as op
use Rattle.sk_prog.specs.declared.prog.ParamDef.{ParamDef}
use Rattle.sk_model.specs.Step.{State, Step, Goes, Fails, Skips, Comp, and_then, ◌>>=◌, pure, fail, skip}
use Rattle.sk_model.specs.Values.{elements, element, replaced}
use Rattle.sk_model.specs.Operators.{Operand, Number, OneBit, Bits, Reference, operand, divided, number_operator, bit_operator, bits_operator, shift, on_operands, operator, on_operand, unary_operator, to_int}
use Rattle.sk_model.specs.Heap.{blank, read, written, write, read_field, write_field, Root, Variable, Field, Location, read_root, write_root, write_whole, store}
use Rattle.sk_model.specs.Eval.{or_fail, indexed, sliced, choose, binary, add_index}
use Rattle.sk_model.specs.Exec.{Flow, pay}
use Rattle.sk_model.specs.Run.{refs_from}

-- States

abbrev pub SameSlots : List Value → List Value → Type 0
SameSlots xs ys = (i : ℕ) → slice_index_or xs i blank ≡ slice_index_or ys i blank

-- the same but for blank slots at the end
pub record Alike (s t : State) : Type 0 where
  pub heap : s.heap ≡ t.heap
  pub cost : s.cost ≡ t.cost
  pub slots : SameSlots s.slots t.slots

abbrev pub AlikeStep : {A : Type 0} → Step A → Step A → Type 0
AlikeStep (Goes a s) (Goes b t) = (a ≡ b) × Alike s t
AlikeStep (Fails x) (Fails y) = x ≡ y
AlikeStep (Skips x) (Skips y) = x ≡ y
AlikeStep _ _ = ⊥

abbrev pub Follows : {A : Type 0} → Comp A → Comp A → Type 0
Follows m n = (s t : State) → Alike s t → AlikeStep (m s) (n t)

abbrev pub Still : {A : Type 0} → Comp A → Type 0
Still m = Follows m m

pub pure_still : {A : Type 0} (a : A) → Still (pure a)
pure_still a s t e = (refl, e)

pub fail_still : (A : Type 0) (span : Span) → Still (fail {A = A} span)
fail_still A span s t e = refl

pub skip_still : (A : Type 0) (span : Span) → Still (skip {A = A} span)
skip_still A span s t e = refl

pub then_follows : {A B : Type 0} (x y : Step A) (k l : A → Comp B) → AlikeStep x y → ((a : A) → Follows (k a) (l a)) → AlikeStep (and_then x k) (and_then y l)
then_follows (Goes a s) (Goes b t) k l r g = subst (λ c. AlikeStep (k a s) (l c t)) r.0 (g a s t r.1)
then_follows (Fails x) (Fails y) k l r g = r
then_follows (Skips x) (Skips y) k l r g = r
then_follows (Goes a s) (Fails y) k l r g = absurd r
then_follows (Goes a s) (Skips y) k l r g = absurd r
then_follows (Fails x) (Goes b t) k l r g = absurd r
then_follows (Fails x) (Skips y) k l r g = absurd r
then_follows (Skips x) (Goes b t) k l r g = absurd r
then_follows (Skips x) (Fails y) k l r g = absurd r

pub bind : {A B : Type 0} (m n : Comp A) (k l : A → Comp B) → Follows m n → ((a : A) → Follows (k a) (l a)) → Follows (m >>= k) (n >>= l)
bind m n k l h g s t e = then_follows (m s) (n t) k l (h s t e) g

-- Slots

abbrev over : ℕ → ℕ → Value → Value → Value
over zero zero v w = v
over zero (suc i) v w = w
over (suc n) zero v w = w
over (suc n) (suc i) v w = over n i v w

index_written : (xs : List Value) (n i : ℕ) (v : Value) → slice_index_or (written xs n v) i blank ≡ over n i v (slice_index_or xs i blank)
index_written [] zero zero v = refl
index_written [] zero (suc i) v = refl
index_written [] (suc n) zero v = refl
index_written [] (suc n) (suc i) v = index_written [] n i v
index_written (w ∷ ws) zero zero v = refl
index_written (w ∷ ws) zero (suc i) v = refl
index_written (w ∷ ws) (suc n) zero v = refl
index_written (w ∷ ws) (suc n) (suc i) v = index_written ws n i v

pub written_same : (xs ys : List Value) (n : ℕ) (v : Value) → SameSlots xs ys → SameSlots (written xs n v) (written ys n v)
written_same xs ys n v h i = index_written xs n i v ∙ ap (over n i v) (h i) ∙ sym (index_written ys n i v)

index_padded : (xs : List Value) (k i : ℕ) → slice_index_or (xs ++ replicate k blank) i blank ≡ slice_index_or xs i blank
index_padded [] zero i = refl
index_padded [] (suc k) zero = refl
index_padded [] (suc k) (suc i) = index_padded [] k i
index_padded (x ∷ xs) k zero = refl
index_padded (x ∷ xs) k (suc i) = index_padded xs k i

pub padded_same : (xs : List Value) (j k : ℕ) → SameSlots (xs ++ replicate j blank) (xs ++ replicate k blank)
padded_same xs j k i = index_padded xs j i ∙ sym (index_padded xs k i)

pub refs_same : (n : ℕ) (ps : List ParamDef) (xs ys : List Value) → SameSlots xs ys → refs_from n ps xs ≡ refs_from n ps ys
refs_same n [] xs ys h = refl
refs_same n (p ∷ ps) xs ys h = λ i. if p.by_ref then h n i ∷ refs_same (n + 1) ps xs ys h i else refs_same (n + 1) ps xs ys h i

-- Variables and records

pub read_still : (slot : ℕ) → Still (read slot)
read_still slot s t e = (e.slots slot, e)

pub write_still : (slot : ℕ) (v : Value) → Still (write slot v)
write_still slot v s t e = (refl, record { heap = e.heap; cost = e.cost; slots = written_same s.slots t.slots slot v e.slots })

pub read_field_still : (span : Span) (field : ℕ) (v : Value) → Still (read_field span field v)
read_field_still span field (value.Place p) = λ s t e. (ap (λ h. slice_index_or (slice_index_or h p []) field blank) e.heap, e)
read_field_still span field (value.Bit b) = fail_still Value span
read_field_still span field (value.Int n) = fail_still Value span
read_field_still span field value.Null = fail_still Value span
read_field_still span field (value.Array' shape vs) = fail_still Value span

write_field_still : (span : Span) (field : ℕ) (v r : Value) → Still (write_field span field v r)
write_field_still span field v (value.Place p) = λ s t e. (refl, record { heap = ap (λ h. slice_set h p (slice_set (slice_index_or h p []) field v)) e.heap; cost = e.cost; slots = e.slots })
write_field_still span field v (value.Bit b) = fail_still (Unit {0}) span
write_field_still span field v (value.Int n) = fail_still (Unit {0}) span
write_field_still span field v value.Null = fail_still (Unit {0}) span
write_field_still span field v (value.Array' shape vs) = fail_still (Unit {0}) span

read_root_still : (span : Span) (root : Root) → Still (read_root span root)
read_root_still span (Variable slot) = read_still slot
read_root_still span (Field r field) = read_field_still span field r

write_root_still : (span : Span) (root : Root) (v : Value) → Still (write_root span root v)
write_root_still span (Variable slot) v = write_still slot v
write_root_still span (Field r field) v = write_field_still span field v r

write_whole_still : (span : Span) (root : Root) (o : Option Value) → Still (write_whole span root o)
write_whole_still span root None = fail_still (Unit {0}) span
write_whole_still span root (Some v) = write_root_still span root v

pub store_still : (span : Span) (location : Location) (v : Value) → Still (store span location v)
store_still span location v = bind (read_root span location.root) (read_root span location.root) (λ whole. write_whole span location.root (replaced location.indexes whole v)) (λ whole. write_whole span location.root (replaced location.indexes whole v)) (read_root_still span location.root) (λ whole. write_whole_still span location.root (replaced location.indexes whole v))

-- Operators

divided_still : (span : Span) (y z : ℤ) → Still (divided span y z)
divided_still span (pos zero) z = fail_still Value span
divided_still span (pos (suc n)) z = pure_still (value.Int z)
divided_still span (negsuc n) z = pure_still (value.Int z)

number_still : (w : ℕ) (span : Span) (o : BinOp) (x y : ℤ) → Still (number_operator w span o x y)
number_still w span op.Mul x y = pure_still _
number_still w span op.Div x y = divided_still span y _
number_still w span op.Rem x y = divided_still span y _
number_still w span op.Add x y = pure_still _
number_still w span op.Sub x y = pure_still _
number_still w span op.Shl x y = fail_still Value span
number_still w span op.Shr x y = fail_still Value span
number_still w span op.Lt x y = pure_still _
number_still w span op.Le x y = pure_still _
number_still w span op.Gt x y = pure_still _
number_still w span op.Ge x y = pure_still _
number_still w span op.Eq x y = fail_still Value span
number_still w span op.Ne x y = fail_still Value span
number_still w span op.And x y = fail_still Value span
number_still w span op.Xor x y = fail_still Value span
number_still w span op.Or x y = fail_still Value span
number_still w span op.AndThen x y = fail_still Value span
number_still w span op.OrElse x y = fail_still Value span

bit_still : (span : Span) (o : BinOp) (a b : Bool) → Still (bit_operator span o a b)
bit_still span op.Mul a b = fail_still Value span
bit_still span op.Div a b = fail_still Value span
bit_still span op.Rem a b = fail_still Value span
bit_still span op.Add a b = fail_still Value span
bit_still span op.Sub a b = fail_still Value span
bit_still span op.Shl a b = fail_still Value span
bit_still span op.Shr a b = fail_still Value span
bit_still span op.Lt a b = fail_still Value span
bit_still span op.Le a b = fail_still Value span
bit_still span op.Gt a b = fail_still Value span
bit_still span op.Ge a b = fail_still Value span
bit_still span op.Eq a b = fail_still Value span
bit_still span op.Ne a b = fail_still Value span
bit_still span op.And a b = pure_still _
bit_still span op.Xor a b = pure_still _
bit_still span op.Or a b = pure_still _
bit_still span op.AndThen a b = fail_still Value span
bit_still span op.OrElse a b = fail_still Value span

bits_still : (span : Span) (o : BinOp) (a b : List Bool) → Still (bits_operator span o a b)
bits_still span op.Mul a b = fail_still Value span
bits_still span op.Div a b = fail_still Value span
bits_still span op.Rem a b = fail_still Value span
bits_still span op.Add a b = pure_still _
bits_still span op.Sub a b = fail_still Value span
bits_still span op.Shl a b = fail_still Value span
bits_still span op.Shr a b = fail_still Value span
bits_still span op.Lt a b = fail_still Value span
bits_still span op.Le a b = fail_still Value span
bits_still span op.Gt a b = fail_still Value span
bits_still span op.Ge a b = fail_still Value span
bits_still span op.Eq a b = fail_still Value span
bits_still span op.Ne a b = fail_still Value span
bits_still span op.And a b = pure_still _
bits_still span op.Xor a b = pure_still _
bits_still span op.Or a b = pure_still _
bits_still span op.AndThen a b = fail_still Value span
bits_still span op.OrElse a b = fail_still Value span

shift_still : (span : Span) (o : BinOp) (a : List Bool) (n : ℤ) → Still (shift span o a n)
shift_still span op.Mul a n = fail_still Value span
shift_still span op.Div a n = fail_still Value span
shift_still span op.Rem a n = fail_still Value span
shift_still span op.Add a n = fail_still Value span
shift_still span op.Sub a n = fail_still Value span
shift_still span op.Shl a (pos n) = pure_still _
shift_still span op.Shl a (negsuc n) = fail_still Value span
shift_still span op.Shr a (pos n) = pure_still _
shift_still span op.Shr a (negsuc n) = fail_still Value span
shift_still span op.Lt a n = fail_still Value span
shift_still span op.Le a n = fail_still Value span
shift_still span op.Gt a n = fail_still Value span
shift_still span op.Ge a n = fail_still Value span
shift_still span op.Eq a n = fail_still Value span
shift_still span op.Ne a n = fail_still Value span
shift_still span op.And a n = fail_still Value span
shift_still span op.Xor a n = fail_still Value span
shift_still span op.Or a n = fail_still Value span
shift_still span op.AndThen a n = fail_still Value span
shift_still span op.OrElse a n = fail_still Value span

operands_still : (w : ℕ) (span : Span) (o : BinOp) (x y : Operand) → Still (on_operands w span o x y)
operands_still w span o (Number x) (Number y) = number_still w span o x y
operands_still w span o (Number x) (OneBit y) = fail_still Value span
operands_still w span o (Number x) (Bits y) = fail_still Value span
operands_still w span o (Number x) Reference = fail_still Value span
operands_still w span o (OneBit x) (Number y) = fail_still Value span
operands_still w span o (OneBit x) (OneBit y) = bit_still span o x y
operands_still w span o (OneBit x) (Bits y) = fail_still Value span
operands_still w span o (OneBit x) Reference = fail_still Value span
operands_still w span o (Bits x) (Number y) = shift_still span o x y
operands_still w span o (Bits x) (OneBit y) = fail_still Value span
operands_still w span o (Bits x) (Bits y) = bits_still span o x y
operands_still w span o (Bits x) Reference = fail_still Value span
operands_still w span o Reference (Number y) = fail_still Value span
operands_still w span o Reference (OneBit y) = fail_still Value span
operands_still w span o Reference (Bits y) = fail_still Value span
operands_still w span o Reference Reference = fail_still Value span

pub operator_still : (w : ℕ) (span : Span) (o : BinOp) (v x : Value) → Still (operator w span o v x)
operator_still w span op.Mul v x = operands_still w span op.Mul (operand v) (operand x)
operator_still w span op.Div v x = operands_still w span op.Div (operand v) (operand x)
operator_still w span op.Rem v x = operands_still w span op.Rem (operand v) (operand x)
operator_still w span op.Add v x = operands_still w span op.Add (operand v) (operand x)
operator_still w span op.Sub v x = operands_still w span op.Sub (operand v) (operand x)
operator_still w span op.Shl v x = operands_still w span op.Shl (operand v) (operand x)
operator_still w span op.Shr v x = operands_still w span op.Shr (operand v) (operand x)
operator_still w span op.Lt v x = operands_still w span op.Lt (operand v) (operand x)
operator_still w span op.Le v x = operands_still w span op.Le (operand v) (operand x)
operator_still w span op.Gt v x = operands_still w span op.Gt (operand v) (operand x)
operator_still w span op.Ge v x = operands_still w span op.Ge (operand v) (operand x)
operator_still w span op.Eq v x = pure_still _
operator_still w span op.Ne v x = pure_still _
operator_still w span op.And v x = operands_still w span op.And (operand v) (operand x)
operator_still w span op.Xor v x = operands_still w span op.Xor (operand v) (operand x)
operator_still w span op.Or v x = operands_still w span op.Or (operand v) (operand x)
operator_still w span op.AndThen v x = operands_still w span op.AndThen (operand v) (operand x)
operator_still w span op.OrElse v x = operands_still w span op.OrElse (operand v) (operand x)

operand_still : (w : ℕ) (span : Span) (o : UnOp) (x : Operand) → Still (on_operand w span o x)
operand_still w span unary.Not (Number x) = fail_still Value span
operand_still w span unary.Not (OneBit x) = pure_still _
operand_still w span unary.Not (Bits x) = fail_still Value span
operand_still w span unary.Not Reference = fail_still Value span
operand_still w span unary.Flip (Number x) = fail_still Value span
operand_still w span unary.Flip (OneBit x) = pure_still _
operand_still w span unary.Flip (Bits x) = pure_still _
operand_still w span unary.Flip Reference = fail_still Value span
operand_still w span unary.Neg (Number x) = pure_still _
operand_still w span unary.Neg (OneBit x) = fail_still Value span
operand_still w span unary.Neg (Bits x) = fail_still Value span
operand_still w span unary.Neg Reference = fail_still Value span

pub unary_still : (w : ℕ) (span : Span) (o : UnOp) (v : Value) → Still (unary_operator w span o v)
unary_still w span o v = operand_still w span o (operand v)

pub to_int_still : (span : Span) (v : Value) → Still (to_int span v)
to_int_still span (value.Bit b) = pure_still _
to_int_still span (value.Int n) = fail_still Value span
to_int_still span value.Null = fail_still Value span
to_int_still span (value.Place p) = fail_still Value span
to_int_still span (value.Array' shape vs) = fail_still Value span

or_fail_still : (span : Span) (o : Option Value) → Still (or_fail span o)
or_fail_still span None = fail_still Value span
or_fail_still span (Some v) = pure_still v

pub indexed_still : (span : Span) (v w : Value) → Still (indexed span v w)
indexed_still span v (value.Bit b) = fail_still Value span
indexed_still span v (value.Int n) = or_fail_still span (element v n)
indexed_still span v value.Null = fail_still Value span
indexed_still span v (value.Place p) = fail_still Value span
indexed_still span v (value.Array' shape vs) = fail_still Value span

if_still : {A : Type 0} (b : Bool) (m n : Comp A) → Still m → Still n → Still (if b then m else n)
if_still true m n h k = h
if_still false m n h k = k

pub sliced_still : (span : Span) (n : ℕ) (v w : Value) → Still (sliced span n v w)
sliced_still span k v (value.Bit b) = fail_still Value span
sliced_still span k v (value.Int (pos n)) = if_still (nat_le (n + k) (length (elements v))) (pure (value.Array (take k (drop n (elements v))))) (fail span) (pure_still _) (fail_still Value span)
sliced_still span k v (value.Int (negsuc n)) = fail_still Value span
sliced_still span k v value.Null = fail_still Value span
sliced_still span k v (value.Place p) = fail_still Value span
sliced_still span k v (value.Array' shape vs) = fail_still Value span

pub add_index_still : (span : Span) (l : Location) (v : Value) → Still (add_index span l v)
add_index_still span l (value.Bit b) = fail_still Location span
add_index_still span l (value.Int n) = pure_still _
add_index_still span l value.Null = fail_still Location span
add_index_still span l (value.Place p) = fail_still Location span
add_index_still span l (value.Array' shape vs) = fail_still Location span

pub choose_follows : (A : Type 0) (span : Span) (a b c d : Comp A) → Follows a c → Follows b d → (v : Value) → Follows (choose span a b v) (choose span c d v)
choose_follows A span a b c d h k (value.Bit true) = h
choose_follows A span a b c d h k (value.Bit false) = k
choose_follows A span a b c d h k (value.Int n) = fail_still A span
choose_follows A span a b c d h k value.Null = fail_still A span
choose_follows A span a b c d h k (value.Place p) = fail_still A span
choose_follows A span a b c d h k (value.Array' shape vs) = fail_still A span

pub pay_still : (span : Span) (v : Value) → Still (pay span v)
pay_still span (value.Int (pos n)) = λ s t e. (refl, record { heap = e.heap; cost = ap (λ c. min (c + n) (2 ^ 64 - 1)) e.cost; slots = e.slots })
pay_still span (value.Int (negsuc n)) = fail_still Flow span
pay_still span (value.Bit b) = fail_still Flow span
pay_still span value.Null = fail_still Flow span
pay_still span (value.Place p) = fail_still Flow span
pay_still span (value.Array' shape vs) = fail_still Flow span

pub binary_follows : (w : ℕ) (span : Span) (o : BinOp) (a b c d : Comp Value) → Follows a c → Follows b d → Follows (binary w span o a b) (binary w span o c d)
binary_follows w span op.Mul a b c d h k = bind a c (λ v. b >>= operator w span op.Mul v) (λ v. d >>= operator w span op.Mul v) h (λ v. bind b d (operator w span op.Mul v) (operator w span op.Mul v) k (λ x. operator_still w span op.Mul v x))
binary_follows w span op.Div a b c d h k = bind a c (λ v. b >>= operator w span op.Div v) (λ v. d >>= operator w span op.Div v) h (λ v. bind b d (operator w span op.Div v) (operator w span op.Div v) k (λ x. operator_still w span op.Div v x))
binary_follows w span op.Rem a b c d h k = bind a c (λ v. b >>= operator w span op.Rem v) (λ v. d >>= operator w span op.Rem v) h (λ v. bind b d (operator w span op.Rem v) (operator w span op.Rem v) k (λ x. operator_still w span op.Rem v x))
binary_follows w span op.Add a b c d h k = bind a c (λ v. b >>= operator w span op.Add v) (λ v. d >>= operator w span op.Add v) h (λ v. bind b d (operator w span op.Add v) (operator w span op.Add v) k (λ x. operator_still w span op.Add v x))
binary_follows w span op.Sub a b c d h k = bind a c (λ v. b >>= operator w span op.Sub v) (λ v. d >>= operator w span op.Sub v) h (λ v. bind b d (operator w span op.Sub v) (operator w span op.Sub v) k (λ x. operator_still w span op.Sub v x))
binary_follows w span op.Shl a b c d h k = bind a c (λ v. b >>= operator w span op.Shl v) (λ v. d >>= operator w span op.Shl v) h (λ v. bind b d (operator w span op.Shl v) (operator w span op.Shl v) k (λ x. operator_still w span op.Shl v x))
binary_follows w span op.Shr a b c d h k = bind a c (λ v. b >>= operator w span op.Shr v) (λ v. d >>= operator w span op.Shr v) h (λ v. bind b d (operator w span op.Shr v) (operator w span op.Shr v) k (λ x. operator_still w span op.Shr v x))
binary_follows w span op.Lt a b c d h k = bind a c (λ v. b >>= operator w span op.Lt v) (λ v. d >>= operator w span op.Lt v) h (λ v. bind b d (operator w span op.Lt v) (operator w span op.Lt v) k (λ x. operator_still w span op.Lt v x))
binary_follows w span op.Le a b c d h k = bind a c (λ v. b >>= operator w span op.Le v) (λ v. d >>= operator w span op.Le v) h (λ v. bind b d (operator w span op.Le v) (operator w span op.Le v) k (λ x. operator_still w span op.Le v x))
binary_follows w span op.Gt a b c d h k = bind a c (λ v. b >>= operator w span op.Gt v) (λ v. d >>= operator w span op.Gt v) h (λ v. bind b d (operator w span op.Gt v) (operator w span op.Gt v) k (λ x. operator_still w span op.Gt v x))
binary_follows w span op.Ge a b c d h k = bind a c (λ v. b >>= operator w span op.Ge v) (λ v. d >>= operator w span op.Ge v) h (λ v. bind b d (operator w span op.Ge v) (operator w span op.Ge v) k (λ x. operator_still w span op.Ge v x))
binary_follows w span op.Eq a b c d h k = bind a c (λ v. b >>= operator w span op.Eq v) (λ v. d >>= operator w span op.Eq v) h (λ v. bind b d (operator w span op.Eq v) (operator w span op.Eq v) k (λ x. operator_still w span op.Eq v x))
binary_follows w span op.Ne a b c d h k = bind a c (λ v. b >>= operator w span op.Ne v) (λ v. d >>= operator w span op.Ne v) h (λ v. bind b d (operator w span op.Ne v) (operator w span op.Ne v) k (λ x. operator_still w span op.Ne v x))
binary_follows w span op.And a b c d h k = bind a c (λ v. b >>= operator w span op.And v) (λ v. d >>= operator w span op.And v) h (λ v. bind b d (operator w span op.And v) (operator w span op.And v) k (λ x. operator_still w span op.And v x))
binary_follows w span op.Xor a b c d h k = bind a c (λ v. b >>= operator w span op.Xor v) (λ v. d >>= operator w span op.Xor v) h (λ v. bind b d (operator w span op.Xor v) (operator w span op.Xor v) k (λ x. operator_still w span op.Xor v x))
binary_follows w span op.Or a b c d h k = bind a c (λ v. b >>= operator w span op.Or v) (λ v. d >>= operator w span op.Or v) h (λ v. bind b d (operator w span op.Or v) (operator w span op.Or v) k (λ x. operator_still w span op.Or v x))
binary_follows w span op.AndThen a b c d h k = bind a c (choose span b (pure (value.Bit false))) (choose span d (pure (value.Bit false))) h (choose_follows Value span b (pure (value.Bit false)) d (pure (value.Bit false)) k (pure_still _))
binary_follows w span op.OrElse a b c d h k = bind a c (choose span (pure (value.Bit true)) b) (choose span (pure (value.Bit true)) d) h (choose_follows Value span (pure (value.Bit true)) b (pure (value.Bit true)) d (pure_still _) k)
