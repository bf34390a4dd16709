-- The sum of two numbers of bits, bit by bit from the least, with a carry. A missing bit of the second is 0.
use Rattle.std.specs.Prelude.{Bool, false, ◌&&◌, ◌||◌, List, [], ◌∷◌}
use Rattle.sk_prog.specs.declared.expr.BinOp.{BinOp}
use Rattle.sk_prog.specs.declared.expr.BinOp.TheVariants as op
use Rattle.sk_model.specs.Operators.{either_bit}

-- the bit of a sum of three bits, and its carry
abbrev pub sum_bit : Bool → Bool → Bool → Bool
sum_bit x y c = either_bit (either_bit x y) c

abbrev pub carry_bit : Bool → Bool → Bool → Bool
carry_bit x y c = (x && y) || (c && either_bit x y)

-- the least bit, and those after it
abbrev pub first_bit : List Bool → Bool
first_bit [] = false
first_bit (y ∷ ys) = y

abbrev pub after_bit : List Bool → List Bool
after_bit [] = []
after_bit (y ∷ ys) = ys

abbrev pub ripple : List Bool → List Bool → Bool → List Bool
ripple [] b c = []
ripple (x ∷ xs) b c = sum_bit x (first_bit b) c ∷ ripple xs (after_bit b) (carry_bit x (first_bit b) c)

-- what an operator does with two bits
abbrev pub of_bits : BinOp → Bool → Bool → Bool
of_bits op.And = λ x y. x && y
of_bits op.Or = λ x y. x || y
of_bits _ = either_bit
