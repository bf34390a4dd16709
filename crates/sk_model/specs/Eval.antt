-- What an expression does, and what it does as the target of an assignment. It is evaluated from left to
-- right, and where it fails, it does so with the span of the innermost statement being executed.
--
-- It is said by one layer: the parts of a form have become what they do. What a call does is given.
use Rattle.std.specs.Prelude.{ℕ, zero, ◌+◌, ◌-◌, ◌==◌, pos, true, false, not, nat_le, if◌then◌else◌, List, [], ◌∷◌, ◌++◌, take, drop, length, slice_get, Option, Some, None}
use Rattle.sk_base.specs.declared.span.Span.{Span}
use Rattle.sk_base.specs.Word.{wrapped}
use Rattle.sk_prog.specs.declared.ids.FunId.{FunId}
use Rattle.sk_prog.specs.declared.ty.Elem.{Elem}
use Rattle.sk_prog.specs.declared.ty.Elem.TheVariants as elem
use Rattle.sk_prog.specs.declared.ty.Ty.{Ty}
use Rattle.sk_prog.specs.declared.ty.Ty.TheVariants as ty
use Rattle.sk_prog.specs.declared.value.Value.{Value}
use Rattle.sk_prog.specs.declared.value.Value.TheVariants as value
use Rattle.sk_prog.specs.declared.expr.BinOp.{BinOp}
use Rattle.sk_prog.specs.declared.expr.BinOp.TheVariants as op
use Rattle.sk_prog.specs.declared.expr.PExpr.{PExpr}
use Rattle.sk_prog.specs.declared.expr.PEForm.TheOpen as P
use Rattle.sk_prog.specs.declared.expr.PEForm.TheFolds.{fold-PExpr}
use Rattle.sk_prog.specs.declared.prog.ConstDef.{ConstDef}
use Rattle.sk_prog.specs.declared.prog.ParamDef.{ParamDef}
use Rattle.sk_prog.specs.declared.prog.Fun.{Fun}
use Rattle.sk_prog.specs.declared.prog.Prog.{Prog}
use Rattle.sk_model.specs.Step.{Comp, ◌>>=◌, pure, fail}
use Rattle.sk_model.specs.Values.{elements, element, padded}
use Rattle.sk_model.specs.Operators.{operator, unary_operator, to_int}
use Rattle.sk_model.specs.Heap.{blank, read, read_field, allocate, Variable, Field, Location, at_root, store}

-- what a call gave: its result, and the final values of its `ref` parameters in order
pub record Called : Type 0 where
  pub result : Option Value
  pub refs : List Value

-- what a call of a function with these arguments does, made by a statement with this span
abbrev pub Calls : Type 0
Calls = Span → ℕ → List Value → Comp Called

-- What an expression does in a statement with a given span: it has a value; and as a target it evaluates
-- its parts, from the outside in, and names a location.
pub record Does : Type 0 where
  pub value : Span → Comp Value
  pub target : Span → Comp Location

-- Numbers

abbrev pub number_at : ℕ → Elem → ℕ → Value
number_at width elem.Int n = value.Int (wrapped width (pos n))
number_at width elem.Bit n = value.Bit (not (n == 0))
number_at width (elem.Reference s) n = value.Null

-- The value of a written number is of the type of its node: at `bit` it is a bit, and at an array it is
-- padded. No typed program has one at a reference.
abbrev pub literal : ℕ → Option Ty → ℕ → Value
literal width (Some (ty.One e)) n = number_at width e n
literal width (Some (ty.Array e k)) n = padded (ty.Array e k) (number_at width e n)
literal width (Some (ty.Grid e k m)) n = padded (ty.Grid e k m) (padded (ty.Array e k) (number_at width e n))
literal width None n = number_at width elem.Int n

abbrev pub const_value : Option ConstDef → Value
const_value None = blank
const_value (Some c) = value.Int c.number

-- Arrays

abbrev pub padded_at : Option Ty → Value → Value
padded_at None v = v
padded_at (Some t) v = padded t v

abbrev pub or_fail : Span → Option Value → Comp Value
or_fail span None = fail span
or_fail span (Some v) = pure v

abbrev pub indexed : Span → Value → Value → Comp Value
indexed span v (value.Int i) = or_fail span (element v i)
indexed span v _ = fail span

-- so many elements from an index on, all of which have to be there
abbrev pub sliced : Span → ℕ → Value → Value → Comp Value
sliced span n v (value.Int (pos i)) = if nat_le (i + n) (length (elements v)) then pure (value.Array (take n (drop i (elements v)))) else fail span
sliced span n v _ = fail span

-- Order

abbrev pub in_order : Span → List Does → Comp (List Value)
in_order span [] = pure []
in_order span (a ∷ more) = a.value span >>= (λ v. in_order span more >>= (λ vs. pure (v ∷ vs)))

abbrev pub fields_in_order : Span → List (ℕ × Does) → Comp (List (ℕ × Value))
fields_in_order span [] = pure []
fields_in_order span (f ∷ fs) = f.1.value span >>= (λ v. fields_in_order span fs >>= (λ vs. pure ((f.0, v) ∷ vs)))

-- the one or the other by a bit
abbrev pub choose : {A : Type 0} → Span → Comp A → Comp A → Value → Comp A
choose span a b (value.Bit true) = a
choose span a b (value.Bit false) = b
choose span a b _ = fail span

-- `&&` and `||` evaluate the second part only where the first does not decide
abbrev pub binary : ℕ → Span → BinOp → Comp Value → Comp Value → Comp Value
binary width span op.AndThen a b = a >>= choose span b (pure (value.Bit false))
binary width span op.OrElse a b = a >>= choose span (pure (value.Bit true)) b
binary width span op a b = a >>= (λ v. b >>= operator width span op v)

-- Calls

abbrev pub params_of : Option Fun → List ParamDef
params_of None = []
params_of (Some fun) = fun.params

-- the arguments for `ref` parameters
abbrev pub ref_args : List ParamDef → List Does → List Does
ref_args (p ∷ ps) (a ∷ args) = if p.by_ref then a ∷ ref_args ps args else ref_args ps args
ref_args _ _ = []

-- the values are copied back to the variables, in order
abbrev pub copy_back : Span → List Does → List Value → Comp (Unit {0})
copy_back span (a ∷ args) (v ∷ vs) = a.target span >>= (λ location. store span location v >>= (λ u. copy_back span args vs))
copy_back span _ _ = pure tt

-- a call of a function without a result has no value, which no typed program asks for
abbrev pub result_value : Option Value → Value
result_value None = blank
result_value (Some v) = v

abbrev pub add_index : Span → Location → Value → Comp Location
add_index span location (value.Int i) = pure (record { root = location.root; indexes = location.indexes ++ i ∷ [] })
add_index span location _ = fail span

-- A hole of no bits has one value, which is no bits. Any other hole has none before it is filled.
abbrev pub unfilled : Option Ty → Span → Comp Value
unfilled (Some (ty.Array elem.Bit zero)) span = pure (value.Array [])
unfilled t span = fail span

module _ (prog : Prog) (width : ℕ) (call : Calls) where
  abbrev pub call_value : Span → FunId → List Does → Comp Value
  call_value span f args =
      in_order span args >>= (λ vs.
      call span f.index vs >>= (λ called.
      copy_back span (ref_args (params_of (slice_get prog.funs f.index)) args) called.refs >>= (λ u.
      pure (result_value called.result))))

  -- A pattern has no value before it is filled.
  abbrev pub eval_form : {X : Type 0} → P.PEForm-F X Does (ℕ × Does) → Option Ty → Span → Comp Value
  eval_form (P.Number n) t span = pure (literal width t n)
  eval_form P.True t span = pure (value.Bit true)
  eval_form P.False t span = pure (value.Bit false)
  eval_form P.Null t span = pure value.Null
  eval_form (P.Var slot x) t span = read slot
  eval_form (P.Const c) t span = pure (const_value (slice_get prog.consts c.index))
  eval_form (P.Hole bits) t span = unfilled t span
  eval_form (P.Pattern strings) t span = fail span
  eval_form (P.Paren a) t span = a.value span
  eval_form (P.Call f args) t span = call_value span f args
  eval_form (P.New d fields) t span = fields_in_order span fields >>= allocate prog d
  eval_form (P.Braces parts) t span = in_order span parts >>= (λ vs. pure (padded_at t (value.Array vs)))
  eval_form (P.Member a d field) t span = a.value span >>= read_field span field
  eval_form (P.Index a i) t span = a.value span >>= (λ v. i.value span >>= indexed span v)
  eval_form (P.Slice a i n) t span = a.value span >>= (λ v. i.value span >>= sliced span n v)
  eval_form (P.Unary op a) t span = a.value span >>= unary_operator width span op
  eval_form (P.Binary op a b) t span = binary width span op (a.value span) (b.value span)
  eval_form (P.Cond c a b) t span = c.value span >>= choose span (a.value span) (b.value span)
  eval_form (P.ToInt a) t span = a.value span >>= to_int span
  eval_form (P.Pad a) t span = a.value span >>= (λ v. pure (padded_at t v))

  -- A target is a variable, a field, or an element of a target. Where it has a `.`, the reference before
  -- the last one is evaluated, with its own checks. No other form is assigned to.
  abbrev pub target_form : {X : Type 0} → P.PEForm-F X Does (ℕ × Does) → Span → Comp Location
  target_form (P.Var slot x) span = at_root (Variable slot)
  target_form (P.Member a d field) span = a.value span >>= (λ v. at_root (Field v field))
  target_form (P.Index a i) span = a.target span >>= (λ location. i.value span >>= add_index span location)
  target_form _ span = fail span

  abbrev pub does_form : {X : Type 0} → P.PEForm-F X Does (ℕ × Does) → Option Ty → Does
  does_form form t = record { value = eval_form form t; target = target_form form }

  abbrev pub does : PExpr → Does
  does = fold-PExpr (Option Ty → Does) Does (ℕ × Does) does_form (λ x. x.form x.ty) (λ x. (x.field, x.value))

  abbrev pub eval : Span → PExpr → Comp Value
  eval span e = (does e).value span

  abbrev pub target : Span → PExpr → Comp Location
  target span e = (does e).target span
