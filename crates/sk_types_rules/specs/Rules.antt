-- The rules of types: which type fits where another is wanted, what two operands are together, what an
-- operator takes and gives, what a literal and a hole may be.
use Rattle.std.specs.Prelude.{ℕ, ◌-◌, ◌*◌, ◌^◌, nat_eq, nat_lt, nat_le, Bool, true, false, ◌&&◌, ◌||◌, if◌then◌else◌, Option, Some, None, option_and_then}
use Rattle.sk_base.specs.declared.bounds.Bounds.{Bounds}
use Rattle.sk_tree.specs.declared.token.Mark.{Mark}
use Rattle.sk_tree.specs.declared.token.Mark.TheVariants as mark
use Rattle.sk_prog.specs.declared.ty.Ty.{Ty}
use Rattle.sk_prog.specs.declared.ty.Ty.TheVariants as ty
use Rattle.sk_prog.specs.declared.ty.Elem.{Elem}
use Rattle.sk_prog.specs.declared.ty.Elem.TheVariants as elem
use Rattle.sk_prog.specs.declared.expr.BinOp.{BinOp}
use Rattle.sk_prog.specs.declared.expr.BinOp.TheVariants as op
use Rattle.sk_prog.specs.declared.expr.UnOp.{UnOp}
use Rattle.sk_prog.specs.declared.expr.UnOp.TheVariants as unary
use Rattle.sk_types_rules.specs.declared.rules.Own.{Own}
use Rattle.sk_types_rules.specs.declared.rules.Own.TheVariants.{Wrong, Loose, Firm}
use Rattle.sk_types_rules.specs.declared.rules.Fit.{Fit}
use Rattle.sk_types_rules.specs.declared.rules.Fit.TheVariants.{Misfit, Same, Widens, Pads}
use Rattle.sk_types_rules.specs.declared.rules.Class.{Class}
use Rattle.sk_types_rules.specs.declared.rules.Class.TheVariants.{Plus, Arithmetic, Order, Equality, Bitwise, Shift, Logic}

infixl 10 ◌>>=◌
abbrev pub ◌>>=◌ : {A B : Type 0} → Option A → (A → Option B) → Option B
o >>= f = option_and_then f o

-- something, where the test holds
abbrev pub only_if : {A : Type 0} → Bool → A → Option A
only_if test a = if test then Some a else None

-- Types

abbrev pub int : Ty
int = ty.One elem.Int

abbrev pub bit : Ty
bit = ty.One elem.Bit

abbrev pub elem_eq : Elem → Elem → Bool
elem_eq elem.Bit elem.Bit = true
elem_eq elem.Int elem.Int = true
elem_eq (elem.Reference a) (elem.Reference b) = nat_eq a.index b.index
elem_eq _ _ = false

-- whether two types are the same
abbrev pub ty_eq : Ty → Ty → Bool
ty_eq (ty.One a) (ty.One b) = elem_eq a b
ty_eq (ty.Array a n) (ty.Array b k) = elem_eq a b && nat_eq n k
ty_eq (ty.Grid a n m) (ty.Grid b k l) = elem_eq a b && (nat_eq n k && nat_eq m l)
ty_eq _ _ = false

abbrev pub is_integer : Ty → Bool
is_integer (ty.One elem.Int) = true
is_integer _ = false

abbrev pub is_bit : Ty → Bool
is_bit (ty.One elem.Bit) = true
is_bit _ = false

-- `bit[n]`
abbrev pub is_bit_array : Ty → Bool
is_bit_array (ty.Array elem.Bit n) = true
is_bit_array _ = false

-- `bit` or `bit[n]`
abbrev pub is_bits : Ty → Bool
is_bits t = is_bit t || is_bit_array t

abbrev pub is_reference : Ty → Bool
is_reference (ty.One (elem.Reference s)) = true
is_reference _ = false

abbrev pub base_of : Ty → Elem
base_of (ty.One a) = a
base_of (ty.Array a n) = a
base_of (ty.Grid a n m) = a

-- whether a value of this type is a reference or holds some
abbrev pub holds_references : Ty → Bool
holds_references t = is_reference (ty.One (base_of t))

-- the type of an array's elements
abbrev pub element_of : Ty → Option Ty
element_of (ty.One a) = None
element_of (ty.Array a n) = Some (ty.One a)
element_of (ty.Grid a n m) = Some (ty.Array a n)

-- how many elements an array has
abbrev pub count_of : Ty → ℕ
count_of (ty.One a) = 0
count_of (ty.Array a n) = n
count_of (ty.Grid a n m) = m

-- The array of so many elements of this type. There is none of grids.
abbrev pub array_of : Ty → ℕ → Option Ty
array_of (ty.One a) n = Some (ty.Array a n)
array_of (ty.Array a n) m = Some (ty.Grid a n m)
array_of (ty.Grid a n m) k = None

-- Fitting

-- a bit stands for an integer
abbrev pub widens : Ty → Ty → Bool
widens u t = is_bit u && is_integer t

-- An array is made of one element, or of a shorter array of such elements: zeros come behind.
abbrev pub pads : Ty → Ty → Bool
pads (ty.One b) (ty.Array a n) = elem_eq b a
pads (ty.Array b m) (ty.Array a n) = elem_eq b a && nat_lt m n
pads (ty.Array b k) (ty.Grid a n m) = elem_eq b a && nat_eq k n
pads (ty.Grid b k l) (ty.Grid a n m) = elem_eq b a && (nat_eq k n && nat_lt l m)
pads _ _ = false

-- How an expression of the first type fits where the second is wanted: as it is, widened, padded, or not.
abbrev pub fit_of : Ty → Ty → Fit
fit_of u t = if ty_eq u t then Same else (if widens u t then Widens else (if pads u t then Pads else Misfit))

abbrev pub is_fit : Fit → Bool
is_fit Misfit = false
is_fit Same = true
is_fit Widens = true
is_fit Pads = true

abbrev pub fits : Ty → Ty → Bool
fits u t = is_fit (fit_of u t)

-- Operators

-- The operator that a mark is between two operands.
abbrev pub operator_of : Mark → Option BinOp
operator_of mark.Star = Some op.Mul
operator_of mark.Slash = Some op.Div
operator_of mark.Percent = Some op.Rem
operator_of mark.Plus = Some op.Add
operator_of mark.Minus = Some op.Sub
operator_of mark.ShiftLeft = Some op.Shl
operator_of mark.ShiftRight = Some op.Shr
operator_of mark.Less = Some op.Lt
operator_of mark.AtMost = Some op.Le
operator_of mark.Greater = Some op.Gt
operator_of mark.AtLeast = Some op.Ge
operator_of mark.Equal = Some op.Eq
operator_of mark.NotEqual = Some op.Ne
operator_of mark.Ampersand = Some op.And
operator_of mark.Caret = Some op.Xor
operator_of mark.Bar = Some op.Or
operator_of mark.AndThen = Some op.AndThen
operator_of mark.OrElse = Some op.OrElse
operator_of _ = None

-- the operator that a mark is before an operand
abbrev pub unary_of : Mark → Option UnOp
unary_of mark.Bang = Some unary.Not
unary_of mark.Tilde = Some unary.Flip
unary_of mark.Minus = Some unary.Neg
unary_of _ = None

-- what kind of operator it is
abbrev pub class_of : BinOp → Class
class_of op.Add = Plus
class_of op.Mul = Arithmetic
class_of op.Div = Arithmetic
class_of op.Rem = Arithmetic
class_of op.Sub = Arithmetic
class_of op.Lt = Order
class_of op.Le = Order
class_of op.Gt = Order
class_of op.Ge = Order
class_of op.Eq = Equality
class_of op.Ne = Equality
class_of op.And = Bitwise
class_of op.Xor = Bitwise
class_of op.Or = Bitwise
class_of op.Shl = Shift
class_of op.Shr = Shift
class_of op.AndThen = Logic
class_of op.OrElse = Logic

-- The join of two types is the one of them that the other fits: of `int` and `bit` it is `int`, of two arrays
-- of the same elements the longer one, and of an array and one of its elements the array.
abbrev pub join : Ty → Ty → Own
join a b = if fits a b then Firm b else (if fits b a then Firm a else Wrong)

abbrev pub firm_if : Bool → Ty → Own
firm_if test t = if test then Firm t else Wrong

-- an operand of arithmetic and order is an integer, and a bit becomes one
abbrev pub as_number : Ty → Own
as_number t = firm_if (is_bit t || is_integer t) int

-- an operand of `+` may be `bit[n]` as well
abbrev pub as_summand : Ty → Own
as_summand t = if is_bit_array t then Firm t else as_number t

-- The operand type of an operator, from the type that its operands have together: arithmetic and order
-- take integers and make one of a bit, `+` takes `bit[n]` too, `& | ^` take bits, equality takes any type.
abbrev pub taken_as : Class → Ty → Own
taken_as Plus t = as_summand t
taken_as Arithmetic t = as_number t
taken_as Order t = as_number t
taken_as Equality t = Firm t
taken_as Bitwise t = firm_if (is_bits t) t
taken_as Shift t = Wrong
taken_as Logic t = Wrong

abbrev pub joined_as : Class → Own → Own
joined_as k (Firm t) = taken_as k t
joined_as k Loose = Wrong
joined_as k Wrong = Wrong

-- Two loose operands of `& | ^ +` are loose together, and their place decides; those of another operator
-- are integers.
abbrev pub both_loose : Class → Own
both_loose Plus = Loose
both_loose Arithmetic = Firm int
both_loose Order = Firm int
both_loose Equality = Firm int
both_loose Bitwise = Loose
both_loose Shift = Wrong
both_loose Logic = Wrong

-- The operand type: the join of two firm operands, the type of the only firm one, or as above. Shifts and
-- logic have none.
abbrev pub operand : Class → Own → Own → Own
operand k Wrong b = Wrong
operand k Loose Wrong = Wrong
operand k Loose Loose = both_loose k
operand k Loose (Firm u) = taken_as k u
operand k (Firm u) Wrong = Wrong
operand k (Firm u) Loose = taken_as k u
operand k (Firm u) (Firm v) = joined_as k (join u v)

-- whether an operator of two loose operands can be of this type
abbrev pub loose_takes : Class → Ty → Bool
loose_takes Plus t = is_integer t || is_bit_array t
loose_takes Bitwise t = is_bits t
loose_takes Arithmetic t = false
loose_takes Order t = false
loose_takes Equality t = false
loose_takes Shift t = false
loose_takes Logic t = false

-- the type of an operator's result, from its operand type
abbrev pub result_of : Class → Ty → Ty
result_of Plus t = t
result_of Arithmetic t = t
result_of Order t = bit
result_of Equality t = bit
result_of Bitwise t = t
result_of Shift t = t
result_of Logic t = bit

abbrev pub result_own : Class → Own → Own
result_own k Wrong = Wrong
result_own k Loose = Loose
result_own k (Firm t) = Firm (result_of k t)

-- The left operand of a shift is a firm `bit[n]`.
abbrev pub shifted : Own → Own
shifted Wrong = Wrong
shifted Loose = Wrong
shifted (Firm t) = firm_if (is_bit_array t) t

-- The operand of `~` is `bit` or `bit[n]`, and `~` of a loose one is loose.
abbrev pub flipped : Own → Own
flipped Wrong = Wrong
flipped Loose = Loose
flipped (Firm t) = firm_if (is_bits t) t

-- The own type of `c ? a : b`, from those of a and b: the join, or the type of the only firm one, and loose
-- where both are.
abbrev pub choice : Own → Own → Own
choice Wrong b = Wrong
choice Loose Wrong = Wrong
choice Loose Loose = Loose
choice Loose (Firm u) = Firm u
choice (Firm u) Wrong = Wrong
choice (Firm u) Loose = Firm u
choice (Firm u) (Firm v) = join u v

-- the own type of an operation, from those of its operands
abbrev pub operation_own : BinOp → Own → Own → Own
operation_own op.AndThen a b = Firm bit
operation_own op.OrElse a b = Firm bit
operation_own op.Shl a b = shifted a
operation_own op.Shr a b = shifted a
operation_own op a b = result_own (class_of op) (operand (class_of op) a b)

abbrev pub unary_own : UnOp → Own → Own
unary_own unary.Not a = Firm bit
unary_own unary.Neg a = Firm int
unary_own unary.Flip a = flipped a

-- Literals and holes

-- a number's own type: 0 and 1 are loose
abbrev pub number_own : ℕ → Own
number_own n = if nat_lt n 2 then Loose else Firm int

-- whether a number can be of this type as it stands, before it is padded
abbrev pub number_takes : ℕ → Ty → Bool
number_takes n (ty.One elem.Int) = true
number_takes n (ty.One elem.Bit) = nat_lt n 2
number_takes n _ = false

abbrev pub element_takes : ℕ → Option Ty → Bool
element_takes n None = false
element_takes n (Some u) = number_takes n u

-- Whether a number can be where this type is wanted: as it stands, or padded where it can be an element.
abbrev pub number_fits : ℕ → Ty → Bool
number_fits n t = number_takes n t || element_takes n (element_of t)

-- Whether a number is of this type as it is written: 0 and 1 may be the first element of an array, and zeros
-- follow.
abbrev pub number_stands : ℕ → Ty → Bool
number_stands n t = number_takes n t || (nat_lt n 2 && element_takes n (element_of t))

-- A number is at most the greatest integer: it is below 2^(W - 1).
abbrev pub in_range : Bounds → ℕ → Bool
in_range bounds n = nat_lt n (2 ^ (bounds.int_bits - 1))

-- a hole is an integer, a bit or an array of bits
abbrev pub hole_takes : Ty → Bool
hole_takes t = is_integer t || is_bits t

-- A hole that names its width has from 1 to W - 1 bits.
abbrev pub width_fits : Bounds → Option ℕ → Bool
width_fits bounds None = true
width_fits bounds (Some n) = nat_le 1 n && nat_lt n bounds.int_bits

-- Lengths

-- An array has 1 to 64 elements, and an array of arrays has at most 256 in all.
abbrev pub is_length : ℕ → Bool
is_length n = nat_le 1 n && nat_le n 64

abbrev pub is_grid : ℕ → ℕ → Bool
is_grid n m = is_length n && (is_length m && nat_le (n * m) 256)
