-- Which value an expression has whatever its variables hold. It is made of numbers, `true`, `false` and named constants by
-- parentheses, `!`, `~` of a bit, the comparisons, `&`, `|`, `^` of bits, `&&`, `||` and the coercion of a bit. Arithmetic,
-- arrays and calls are not looked into; `&&` and `||` are decided by their first part alone where that is enough.
use Rattle.std.specs.Prelude.{ℕ, ◌==◌, ℤ, pos, int_lt, int_le, Bool, true, false, not, ◌&&◌, ◌||◌, if◌then◌else◌, List, slice_get, Option, Some, None, option_and_then}
use Rattle.std.specs.Ordering.{int_eq}
use Rattle.sk_base.specs.Word.{wrapped}
use Rattle.sk_prog.specs.declared.ty.Elem.TheVariants as elem
use Rattle.sk_prog.specs.declared.ty.Ty.{Ty}
use Rattle.sk_prog.specs.declared.ty.Ty.TheVariants as ty
use Rattle.sk_prog.specs.declared.expr.UnOp.{UnOp}
use Rattle.sk_prog.specs.declared.expr.UnOp.TheVariants as unary
use Rattle.sk_prog.specs.declared.expr.BinOp.{BinOp}
use Rattle.sk_prog.specs.declared.expr.BinOp.TheVariants as op
use Rattle.sk_prog.specs.declared.expr.PExpr.{PExpr}
use Rattle.sk_prog.specs.declared.expr.PEForm.TheOpen as P
use Rattle.sk_prog.specs.declared.expr.PEForm.TheFolds.{fold-PExpr}
use Rattle.sk_prog.specs.declared.prog.ConstDef.{ConstDef}
use Rattle.sk_model.specs.Values.{same_bit}
use Rattle.sk_model.specs.Operators.{either_bit}
use Rattle.sk_prune.specs.declared.constant.Constant.{Constant}
use Rattle.sk_prune.specs.declared.constant.Constant.TheVariants.{Bit, Number}

-- a written number is of the type of its node; at an array it is none
abbrev pub number_at : ℕ → Option Ty → ℕ → Option Constant
number_at width (Some (ty.One elem.Bit)) n = Some (Bit (not (n == 0)))
number_at width (Some (ty.One elem.Int)) n = Some (Number (wrapped width (pos n)))
number_at width _ n = None

abbrev pub named : Option ConstDef → Option Constant
named None = None
named (Some c) = Some (Number c.number)

abbrev pub to_int : Constant → Option Constant
to_int (Bit b) = Some (Number (pos (if b then 1 else 0)))
to_int (Number n) = None

abbrev pub of_one : UnOp → Constant → Option Constant
of_one unary.Not (Bit b) = Some (Bit (not b))
of_one unary.Flip (Bit b) = Some (Bit (not b))
of_one unary.Neg (Bit b) = None
of_one o (Number n) = None

abbrev pub of_numbers : BinOp → ℤ → ℤ → Option Constant
of_numbers op.Lt x y = Some (Bit (int_lt x y))
of_numbers op.Le x y = Some (Bit (int_le x y))
of_numbers op.Gt x y = Some (Bit (int_lt y x))
of_numbers op.Ge x y = Some (Bit (int_le y x))
of_numbers op.Eq x y = Some (Bit (int_eq x y))
of_numbers op.Ne x y = Some (Bit (not (int_eq x y)))
of_numbers o x y = None

abbrev pub of_bits : BinOp → Bool → Bool → Option Constant
of_bits op.Eq a b = Some (Bit (same_bit a b))
of_bits op.Ne a b = Some (Bit (not (same_bit a b)))
of_bits op.And a b = Some (Bit (a && b))
of_bits op.Or a b = Some (Bit (a || b))
of_bits op.Xor a b = Some (Bit (either_bit a b))
of_bits o a b = None

-- what an operator makes of two parts, both of which it needs
abbrev pub of_two : BinOp → Option Constant → Option Constant → Option Constant
of_two o (Some (Number x)) (Some (Number y)) = of_numbers o x y
of_two o (Some (Bit a)) (Some (Bit b)) = of_bits o a b
of_two o a b = None

-- what stands for `&&` and `||`: a bit that decides, or else the second part, where that is a bit
abbrev pub unless : Bool → Option Constant → Option Constant → Option Constant
unless true (Some (Bit true)) b = Some (Bit true)
unless false (Some (Bit false)) b = Some (Bit false)
unless decides (Some (Bit a)) (Some (Bit b)) = Some (Bit b)
unless decides a b = None

abbrev pub of_parts : BinOp → Option Constant → Option Constant → Option Constant
of_parts op.AndThen a b = unless false a b
of_parts op.OrElse a b = unless true a b
of_parts o a b = of_two o a b

module _ (consts : List ConstDef) (width : ℕ) where
  abbrev pub constant_form : {X Y : Type 0} → P.PEForm-F X (Option Constant) Y → Option Ty → Option Constant
  constant_form (P.Number n) t = number_at width t n
  constant_form P.True t = Some (Bit true)
  constant_form P.False t = Some (Bit false)
  constant_form (P.Const c) t = named (slice_get consts c.index)
  constant_form (P.Paren a) t = a
  constant_form (P.Unary o a) t = option_and_then (of_one o) a
  constant_form (P.Binary o a b) t = of_parts o a b
  constant_form (P.ToInt a) t = option_and_then to_int a
  constant_form P.Null t = None
  constant_form (P.Var slot x) t = None
  constant_form (P.Hole bits) t = None
  constant_form (P.Pattern strings) t = None
  constant_form (P.Call f args) t = None
  constant_form (P.New d fields) t = None
  constant_form (P.Braces parts) t = None
  constant_form (P.Member a d field) t = None
  constant_form (P.Index a i) t = None
  constant_form (P.Slice a i n) t = None
  constant_form (P.Cond c a b) t = None
  constant_form (P.Pad a) t = None

  -- the value of an expression that is constant
  abbrev pub constant : PExpr → Option Constant
  constant = fold-PExpr (Option Ty → Option Constant) (Option Constant) (Option Constant) constant_form (λ e. e.form e.ty) (λ x. x.value)
