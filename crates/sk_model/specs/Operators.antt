-- What the operators do with values. `int` results wrap to the width of `int`. `/` and `%` truncate toward
-- zero, and a zero divisor fails. An array of bits is a number whose bit 0 is the element 0: `+` of two is
-- modulo 2 to their length, `&`, `|`, `^` and `~` go bit by bit, `<<` moves bits to higher indices and `>>`
-- to lower, zeros come in, and a negative count fails. `==` compares any two values. An operator that
-- meets values of a type that it has no meaning for, which no typed program does, fails too.
use Rattle.std.specs.Prelude.{ℕ, zero, suc, ◌+◌, ◌-◌, ◌*◌, ◌/◌, ◌%◌, ◌==◌, min, ℤ, pos, ◌+ℤ◌, ◌-ℤ◌, ◌*ℤ◌, neg_ℤ, int_lt, int_le, int_div, int_rem, Bool, false, not, ◌&&◌, ◌||◌, if◌then◌else◌, List, [], ◌∷◌, ◌++◌, map, length, take, drop, replicate}
use Rattle.sk_base.specs.declared.span.Span.{Span}
use Rattle.sk_base.specs.Word.{wrapped}
use Rattle.sk_prog.specs.declared.value.Value.{Value}
use Rattle.sk_prog.specs.declared.value.Value.TheVariants as value
use Rattle.sk_prog.specs.declared.expr.UnOp.{UnOp}
use Rattle.sk_prog.specs.declared.expr.UnOp.TheVariants as unary
use Rattle.sk_prog.specs.declared.expr.BinOp.{BinOp}
use Rattle.sk_prog.specs.declared.expr.BinOp.TheVariants as op
use Rattle.sk_model.specs.Step.{Comp, pure, fail}
use Rattle.sk_model.specs.Values.{truth, equal, same_bit, elements}

-- Bits

abbrev pub bit : Value → Bool
bit (value.Bit b) = b
bit _ = false

-- the bits of an array, index 0 first
abbrev pub bits_of : Value → List Bool
bits_of v = map bit (elements v)

abbrev pub array_of : List Bool → Value
array_of bits = value.Array (map truth bits)

-- the number whose bits these are, the least first
abbrev pub number_of : List Bool → ℕ
number_of [] = 0
number_of (b ∷ bs) = (if b then 1 else 0) + 2 * number_of bs

-- the lowest so many bits of a number, the least first
abbrev pub lowest : ℕ → ℕ → List Bool
lowest zero n = []
lowest (suc k) n = (n % 2 == 1) ∷ lowest k (n / 2)

abbrev pub sum_of : List Bool → List Bool → List Bool
sum_of a b = lowest (length a) (number_of a + number_of b)

abbrev pub pairwise : (Bool → Bool → Bool) → List Bool → List Bool → List Bool
pairwise f (a ∷ more) (b ∷ others) = f a b ∷ pairwise f more others
pairwise f _ _ = []

abbrev pub either_bit : Bool → Bool → Bool
either_bit a b = not (same_bit a b)

abbrev pub moved_up : ℕ → List Bool → List Bool
moved_up n a = replicate (min n (length a)) false ++ take (length a - n) a

abbrev pub moved_down : ℕ → List Bool → List Bool
moved_down n a = drop n a ++ replicate (min n (length a)) false

-- Operators

-- what an operator sees of a value: a number, a bit, the elements of an array, or a reference
pub data Operand : Type 0 where
  Number : ℤ → Operand
  OneBit : Bool → Operand
  Bits : List Bool → Operand
  Reference : Operand

abbrev pub operand : Value → Operand
operand (value.Int n) = Number n
operand (value.Bit b) = OneBit b
operand (value.Array' shape vs) = Bits (bits_of (value.Array' shape vs))
operand value.Null = Reference
operand (value.Place p) = Reference

-- a quotient or what is left over, unless the divisor is 0
abbrev pub divided : Span → ℤ → ℤ → Comp Value
divided span (pos zero) z = fail span
divided span y z = pure (value.Int z)

-- the operators on two numbers
abbrev pub number_operator : ℕ → Span → BinOp → ℤ → ℤ → Comp Value
number_operator width span op.Add x y = pure (value.Int (wrapped width (x +ℤ y)))
number_operator width span op.Sub x y = pure (value.Int (wrapped width (x -ℤ y)))
number_operator width span op.Mul x y = pure (value.Int (wrapped width (x *ℤ y)))
number_operator width span op.Div x y = divided span y (wrapped width (int_div x y))
number_operator width span op.Rem x y = divided span y (wrapped width (int_rem x y))
number_operator width span op.Lt x y = pure (truth (int_lt x y))
number_operator width span op.Le x y = pure (truth (int_le x y))
number_operator width span op.Gt x y = pure (truth (int_lt y x))
number_operator width span op.Ge x y = pure (truth (int_le y x))
number_operator width span _ x y = fail span

-- those on two bits
abbrev pub bit_operator : Span → BinOp → Bool → Bool → Comp Value
bit_operator span op.And a b = pure (truth (a && b))
bit_operator span op.Or a b = pure (truth (a || b))
bit_operator span op.Xor a b = pure (truth (either_bit a b))
bit_operator span _ a b = fail span

-- those on two arrays of bits
abbrev pub bits_operator : Span → BinOp → List Bool → List Bool → Comp Value
bits_operator span op.Add a b = pure (array_of (sum_of a b))
bits_operator span op.And a b = pure (array_of (pairwise (λ x y. x && y) a b))
bits_operator span op.Or a b = pure (array_of (pairwise (λ x y. x || y) a b))
bits_operator span op.Xor a b = pure (array_of (pairwise either_bit a b))
bits_operator span _ a b = fail span

-- those on an array of bits and a count
abbrev pub shift : Span → BinOp → List Bool → ℤ → Comp Value
shift span op.Shl a (pos n) = pure (array_of (moved_up n a))
shift span op.Shr a (pos n) = pure (array_of (moved_down n a))
shift span _ a n = fail span

abbrev pub on_operands : ℕ → Span → BinOp → Operand → Operand → Comp Value
on_operands width span op (Number x) (Number y) = number_operator width span op x y
on_operands width span op (OneBit a) (OneBit b) = bit_operator span op a b
on_operands width span op (Bits a) (Bits b) = bits_operator span op a b
on_operands width span op (Bits a) (Number n) = shift span op a n
on_operands width span op _ _ = fail span

abbrev pub operator : ℕ → Span → BinOp → Value → Value → Comp Value
operator width span op.Eq v w = pure (truth (equal v w))
operator width span op.Ne v w = pure (truth (not (equal v w)))
operator width span op v w = on_operands width span op (operand v) (operand w)

abbrev pub on_operand : ℕ → Span → UnOp → Operand → Comp Value
on_operand width span unary.Not (OneBit b) = pure (truth (not b))
on_operand width span unary.Flip (OneBit b) = pure (truth (not b))
on_operand width span unary.Flip (Bits a) = pure (array_of (map not a))
on_operand width span unary.Neg (Number n) = pure (value.Int (wrapped width (neg_ℤ n)))
on_operand width span _ _ = fail span

abbrev pub unary_operator : ℕ → Span → UnOp → Value → Comp Value
unary_operator width span op v = on_operand width span op (operand v)

-- the coercion of a bit to an integer
abbrev pub to_int : Span → Value → Comp Value
to_int span (value.Bit b) = pure (value.Int (pos (if b then 1 else 0)))
to_int span _ = fail span
