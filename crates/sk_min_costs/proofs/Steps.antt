-- What leaves the cost as it is.
use Rattle.std.proofs.Common.{◌≡◌, ℕ, zero, pos, Bool, true, false, ◌+◌, List, length, take, drop, Option, Some, None, refl, subst}
use Rattle.std.specs.Prelude.{ℤ, nat_le, int_div, int_rem, if◌then◌else◌}
use Rattle.sk_base.specs.declared.span.Span.{Span}
use Rattle.sk_base.specs.Word.{wrapped}
use Rattle.sk_prog.specs.declared.value.Value.{Value}
use Rattle.sk_prog.specs.declared.value.Value.TheVariants as value
use Rattle.sk_prog.specs.declared.expr.UnOp.{UnOp}
use Rattle.sk_prog.specs.declared.expr.UnOp.TheVariants as unary
use Rattle.sk_prog.specs.declared.expr.BinOp.{BinOp}
use Rattle.sk_prog.specs.declared.expr.BinOp.TheVariants as op
use Rattle.sk_model.specs.Step.{State, Step, Goes, Fails, Skips, Comp, and_then, ◌>>=◌, pure, fail}
use Rattle.sk_model.specs.Heap.{Root, Variable, Field, Location, read, write, read_root, read_field, write_field, write_whole, store}
use Rattle.sk_model.specs.Values.{elements, element, replaced}
use Rattle.sk_model.specs.Operators.{Operand, Number, OneBit, Bits, operand, divided, number_operator, bit_operator, bits_operator, shift, on_operands, operator, on_operand, unary_operator, to_int}
use Rattle.sk_model.specs.Eval.{or_fail, indexed, sliced, choose, add_index}

abbrev pub Kept : {A : Type 0} → ℕ → Step A → Type 0
Kept c (Goes a s) = s.cost ≡ c
Kept c (Fails span) = Unit {0}
Kept c (Skips span) = Unit {0}

-- where it goes on, the cost is what it was
pub record Costless {A : Type 0} (m : Comp A) : Type 0 where
  pub each : (s : State) → Kept s.cost (m s)

pub then_costless : {A B : Type 0} {m : Comp A} {k : A → Comp B} → Costless m → ((a : A) → Costless (k a)) → Costless (m >>= k)
then_costless {A} {B} {m} {k} h g = record { each = λ s. by s.cost (m s) (h.each s) }
  where
    by : (c : ℕ) (x : Step A) → Kept c x → Kept c (and_then x k)
    by c (Goes a t) e = subst (λ n. Kept n (k a t)) e ((g a).each t)
    by c (Fails span) e = tt
    by c (Skips span) e = tt

pub pure_costless : {A : Type 0} (a : A) → Costless (pure a)
pure_costless a = record { each = λ s. refl }

pub fail_costless : {A : Type 0} (span : Span) → Costless (fail {A = A} span)
fail_costless span = record { each = λ s. tt }

pub choose_costless : {A : Type 0} {a b : Comp A} (span : Span) → Costless a → Costless b → (v : Value) → Costless (choose span a b v)
choose_costless span h g (value.Bit true) = record { each = h.each }
choose_costless span h g (value.Bit false) = record { each = g.each }
choose_costless span h g (value.Int n) = record { each = λ s. tt }
choose_costless span h g (value.Array' shape vs) = record { each = λ s. tt }
choose_costless span h g value.Null = record { each = λ s. tt }
choose_costless span h g (value.Place p) = record { each = λ s. tt }

-- Variables and records

pub read_costless : (slot : ℕ) → Costless (read slot)
read_costless slot = record { each = λ s. refl }

pub write_costless : (slot : ℕ) (v : Value) → Costless (write slot v)
write_costless slot v = record { each = λ s. refl }

pub read_field_costless : (span : Span) (field : ℕ) (v : Value) → Costless (read_field span field v)
read_field_costless span field (value.Place p) = record { each = λ s. refl }
read_field_costless span field v = record { each = λ s. tt }

write_field_costless : (span : Span) (field : ℕ) (v reference : Value) → Costless (write_field span field v reference)
write_field_costless span field v (value.Place p) = record { each = λ s. refl }
write_field_costless span field v reference = record { each = λ s. tt }

read_root_costless : (span : Span) (root : Root) → Costless (read_root span root)
read_root_costless span (Variable slot) = read_costless slot
read_root_costless span (Field reference field) = read_field_costless span field reference

write_whole_costless : (span : Span) (root : Root) (v : Option Value) → Costless (write_whole span root v)
write_whole_costless span root None = fail_costless span
write_whole_costless span (Variable slot) (Some v) = write_costless slot v
write_whole_costless span (Field reference field) (Some v) = write_field_costless span field v reference

pub store_costless : (span : Span) (location : Location) (v : Value) → Costless (store span location v)
store_costless span location v = then_costless (read_root_costless span location.root) (λ whole. write_whole_costless span location.root (replaced location.indexes whole v))

pub add_index_costless : (span : Span) (location : Location) (v : Value) → Costless (add_index span location v)
add_index_costless span location (value.Int i) = record { each = λ s. refl }
add_index_costless span location v = record { each = λ s. tt }

-- Arrays

pub or_fail_costless : (span : Span) (v : Option Value) → Costless (or_fail span v)
or_fail_costless span None = fail_costless span
or_fail_costless span (Some v) = pure_costless v

pub indexed_costless : (span : Span) (v w : Value) → Costless (indexed span v w)
indexed_costless span v (value.Int i) = or_fail_costless span (element v i)
indexed_costless span v w = record { each = λ s. tt }

pub if_costless : {A : Type 0} {m n : Comp A} (b : Bool) → Costless m → Costless n → Costless (if b then m else n)
if_costless true h g = h
if_costless false h g = g

pub sliced_costless : (span : Span) (n : ℕ) (v w : Value) → Costless (sliced span n v w)
sliced_costless span n v (value.Int (pos i)) = if_costless (nat_le (i + n) (length (elements v))) (pure_costless (value.Array (take n (drop i (elements v))))) (fail_costless span)
sliced_costless span n v w = record { each = λ s. tt }

-- Operators

divided_costless : (span : Span) (y z : ℤ) → Costless (divided span y z)
divided_costless span (pos zero) z = fail_costless span
divided_costless span y z = record { each = λ s. refl }

number_costless : (width : ℕ) (span : Span) (o : BinOp) (x y : ℤ) → Costless (number_operator width span o x y)
number_costless width span op.Add x y = record { each = λ s. refl }
number_costless width span op.Sub x y = record { each = λ s. refl }
number_costless width span op.Mul x y = record { each = λ s. refl }
number_costless width span op.Div x y = divided_costless span y (wrapped width (int_div x y))
number_costless width span op.Rem x y = divided_costless span y (wrapped width (int_rem x y))
number_costless width span op.Lt x y = record { each = λ s. refl }
number_costless width span op.Le x y = record { each = λ s. refl }
number_costless width span op.Gt x y = record { each = λ s. refl }
number_costless width span op.Ge x y = record { each = λ s. refl }
number_costless width span o x y = record { each = λ s. tt }

bit_costless : (span : Span) (o : BinOp) (a b : Bool) → Costless (bit_operator span o a b)
bit_costless span op.And a b = record { each = λ s. refl }
bit_costless span op.Or a b = record { each = λ s. refl }
bit_costless span op.Xor a b = record { each = λ s. refl }
bit_costless span o a b = record { each = λ s. tt }

bits_costless : (span : Span) (o : BinOp) (a b : List Bool) → Costless (bits_operator span o a b)
bits_costless span op.Add a b = record { each = λ s. refl }
bits_costless span op.And a b = record { each = λ s. refl }
bits_costless span op.Or a b = record { each = λ s. refl }
bits_costless span op.Xor a b = record { each = λ s. refl }
bits_costless span o a b = record { each = λ s. tt }

shift_costless : (span : Span) (o : BinOp) (a : List Bool) (n : ℤ) → Costless (shift span o a n)
shift_costless span op.Shl a (pos n) = record { each = λ s. refl }
shift_costless span op.Shr a (pos n) = record { each = λ s. refl }
shift_costless span o a n = record { each = λ s. tt }

operands_costless : (width : ℕ) (span : Span) (o : BinOp) (a b : Operand) → Costless (on_operands width span o a b)
operands_costless width span o (Number x) (Number y) = number_costless width span o x y
operands_costless width span o (OneBit a) (OneBit b) = bit_costless span o a b
operands_costless width span o (Bits a) (Bits b) = bits_costless span o a b
operands_costless width span o (Bits a) (Number n) = shift_costless span o a n
operands_costless width span o a b = record { each = λ s. tt }

pub operator_costless : (width : ℕ) (span : Span) (o : BinOp) (v w : Value) → Costless (operator width span o v w)
operator_costless width span op.Eq v w = record { each = λ s. refl }
operator_costless width span op.Ne v w = record { each = λ s. refl }
operator_costless width span o v w = operands_costless width span o (operand v) (operand w)

operand_costless : (width : ℕ) (span : Span) (o : UnOp) (a : Operand) → Costless (on_operand width span o a)
operand_costless width span unary.Not (OneBit b) = record { each = λ s. refl }
operand_costless width span unary.Flip (OneBit b) = record { each = λ s. refl }
operand_costless width span unary.Flip (Bits a) = record { each = λ s. refl }
operand_costless width span unary.Neg (Number n) = record { each = λ s. refl }
operand_costless width span o a = record { each = λ s. tt }

pub unary_costless : (width : ℕ) (span : Span) (o : UnOp) (v : Value) → Costless (unary_operator width span o v)
unary_costless width span o v = operand_costless width span o (operand v)

pub to_int_costless : (span : Span) (v : Value) → Costless (to_int span v)
to_int_costless span (value.Bit b) = record { each = λ s. refl }
to_int_costless span v = record { each = λ s. tt }
