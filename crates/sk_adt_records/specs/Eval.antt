-- What an expression does, and what it does as the target of an assignment: as in a run, but with records by their variants. `x.tag == i` asks whether the
-- record is of variant i, and fails for null.
use Rattle.std.specs.Prelude.{ℕ, ◌++◌, true, false, List, [], ◌∷◌, slice_get, Option, Some, None, if◌then◌else◌}
use Rattle.sk_base.specs.declared.span.Span.{Span}
use Rattle.sk_prog.specs.declared.ids.FunId.{FunId}
use Rattle.sk_prog.specs.declared.ty.Ty.{Ty}
use Rattle.sk_prog.specs.declared.value.Value.{Value}
use Rattle.sk_prog.specs.declared.value.Value.TheVariants as value
use Rattle.sk_prog.specs.declared.expr.BinOp.{BinOp}
use Rattle.sk_prog.specs.declared.expr.BinOp.TheVariants as op
use Rattle.sk_prog.specs.declared.expr.PExpr.{PExpr}
use Rattle.sk_prog.specs.declared.expr.PEForm.TheOpen as P
use Rattle.sk_prog.specs.declared.expr.PEForm.TheFolds.{fold-PExpr}
use Rattle.sk_prog.specs.declared.prog.ParamDef.{ParamDef}
use Rattle.sk_prog.specs.declared.prog.Prog.{Prog}
use Rattle.sk_model.specs.Operators.{operator, unary_operator, to_int}
use Rattle.sk_model.specs.Heap.{Variable, Field, Location}
use Rattle.sk_model.specs.Eval.{Called, literal, const_value, padded_at, indexed, sliced, params_of, result_value, unfilled}
use Rattle.sk_adt.specs.declared.algebraic.Algebraic.{Algebraic}
use Rattle.sk_adt_tags.specs.declared.role.Role.{Role}
use Rattle.sk_adt_tags.specs.declared.role.Role.TheVariants as role
use Rattle.sk_adt_records.specs.Steps.{Comp, ◌>>=◌, pure, fail, lift}
use Rattle.sk_adt_records.specs.Heap.{ask, read, role_of, read_field, allocate, at_root, store}

-- what a call of a function with these arguments does, made by a statement with this span
abbrev pub Calls : Type 0
Calls = Span → ℕ → List Value → Comp Called

-- What an expression does in a statement with a given span: it has a value; and as a target it names a location. Besides it says the variable that it is,
-- the number that it is, and the variable whose tag it is.
pub record Does : Type 0 where
  pub value : Span → Comp Value
  pub target : Span → Comp Location
  pub slot : Option ℕ
  pub number : Option ℕ
  pub tag : Option ℕ

abbrev pub in_order : Span → List Does → Comp (List Value)
in_order span [] = pure []
in_order span (a ∷ more) = a.value span >>= (λ v. in_order span more >>= (λ vs. pure (v ∷ vs)))

abbrev pub fields_in_order : Span → List (ℕ × Does) → Comp (List (ℕ × Value))
fields_in_order span [] = pure []
fields_in_order span (f ∷ fs) = f.1.value span >>= (λ v. fields_in_order span fs >>= (λ vs. pure ((f.0, v) ∷ vs)))

-- the one or the other by a bit
abbrev pub choose : {A : Type 0} → Span → Comp A → Comp A → Value → Comp A
choose span a b (value.Bit true) = a
choose span a b (value.Bit false) = b
choose span a b _ = fail span

-- `&&` and `||` evaluate the second part only where the first does not decide
abbrev pub binary : ℕ → Span → BinOp → Comp Value → Comp Value → Comp Value
binary width span op.AndThen a b = a >>= choose span b (pure (value.Bit false))
binary width span op.OrElse a b = a >>= choose span (pure (value.Bit true)) b
binary width span o a b = a >>= (λ v. b >>= (λ w. lift (operator width span o v w)))

-- a question for the variant of what a variable holds, or else any other value
abbrev pub asking : Option ℕ → Option ℕ → Span → Comp Value → Comp Value
asking (Some x) (Some i) span other = read x >>= ask span i
asking _ _ span other = other

abbrev pub comparing : ℕ → Span → BinOp → Does → Does → Comp Value
comparing width span op.Eq a b = asking a.tag b.number span (binary width span op.Eq (a.value span) (b.value span))
comparing width span o a b = binary width span o (a.value span) (b.value span)

-- the arguments for `ref` parameters
abbrev pub ref_args : List ParamDef → List Does → List Does
ref_args (p ∷ ps) (a ∷ args) = if p.by_ref then a ∷ ref_args ps args else ref_args ps args
ref_args _ _ = []

-- the values are copied back to the variables, in order
abbrev pub copy_back : Span → List Does → List Value → Comp (Unit {0})
copy_back span (a ∷ args) (v ∷ vs) = a.target span >>= (λ location. store span location v >>= (λ u. copy_back span args vs))
copy_back span _ _ = pure tt

abbrev pub add_index : Span → Location → Value → Comp Location
add_index span location (value.Int i) = pure (record { root = location.root; indexes = location.indexes ++ i ∷ [] })
add_index span location _ = fail span

-- of a field with this role: the variable whose tag it is
abbrev pub tag_of : Role → Does → Option ℕ
tag_of role.Tag a = a.slot
tag_of role.Free a = None
tag_of (role.Of i) a = None

module _ (types : List Algebraic) (prog : Prog) (width : ℕ) (call : Calls) where
  abbrev pub call_value : Span → FunId → List Does → Comp Value
  call_value span f args =
      in_order span args >>= (λ vs.
      call span f.index vs >>= (λ called.
      copy_back span (ref_args (params_of (slice_get prog.funs f.index)) args) called.refs >>= (λ u.
      pure (result_value called.result))))

  abbrev pub eval_form : {X : Type 0} → P.PEForm-F X Does (ℕ × Does) → Option Ty → Span → Comp Value
  eval_form (P.Number n) t span = pure (literal width t n)
  eval_form P.True t span = pure (value.Bit true)
  eval_form P.False t span = pure (value.Bit false)
  eval_form P.Null t span = pure value.Null
  eval_form (P.Var slot x) t span = read slot
  eval_form (P.Const c) t span = pure (const_value (slice_get prog.consts c.index))
  eval_form (P.Hole bits) t span = lift (unfilled t span)
  eval_form (P.Pattern strings) t span = fail span
  eval_form (P.Paren a) t span = a.value span
  eval_form (P.Call f args) t span = call_value span f args
  eval_form (P.New d fields) t span = fields_in_order span fields >>= allocate types prog d
  eval_form (P.Braces parts) t span = in_order span parts >>= (λ vs. pure (padded_at t (value.Array vs)))
  eval_form (P.Member a d field) t span = a.value span >>= read_field span field
  eval_form (P.Index a i) t span = a.value span >>= (λ v. i.value span >>= (λ k. lift (indexed span v k)))
  eval_form (P.Slice a i n) t span = a.value span >>= (λ v. i.value span >>= (λ k. lift (sliced span n v k)))
  eval_form (P.Unary o a) t span = a.value span >>= (λ v. lift (unary_operator width span o v))
  eval_form (P.Binary o a b) t span = comparing width span o a b
  eval_form (P.Cond c a b) t span = c.value span >>= choose span (a.value span) (b.value span)
  eval_form (P.ToInt a) t span = a.value span >>= (λ v. lift (to_int span v))
  eval_form (P.Pad a) t span = a.value span >>= (λ v. pure (padded_at t v))

  abbrev pub target_form : {X : Type 0} → P.PEForm-F X Does (ℕ × Does) → Span → Comp Location
  target_form (P.Var slot x) span = at_root (Variable slot)
  target_form (P.Member a d field) span = a.value span >>= (λ v. at_root (Field v field))
  target_form (P.Index a i) span = a.target span >>= (λ location. i.value span >>= add_index span location)
  target_form _ span = fail span

  abbrev pub slot_form : {X : Type 0} → P.PEForm-F X Does (ℕ × Does) → Option ℕ
  slot_form (P.Var slot x) = Some slot
  slot_form _ = None

  abbrev pub number_form : {X : Type 0} → P.PEForm-F X Does (ℕ × Does) → Option ℕ
  number_form (P.Number n) = Some n
  number_form _ = None

  abbrev pub tag_form : {X : Type 0} → P.PEForm-F X Does (ℕ × Does) → Option ℕ
  tag_form (P.Member a d field) = tag_of (role_of types prog d field) a
  tag_form _ = None

  abbrev pub does_form : {X : Type 0} → P.PEForm-F X Does (ℕ × Does) → Option Ty → Does
  does_form form t = record { value = eval_form form t; target = target_form form; slot = slot_form form; number = number_form form; tag = tag_form form }

  abbrev pub does : PExpr → Does
  does = fold-PExpr (Option Ty → Does) Does (ℕ × Does) does_form (λ x. x.form x.ty) (λ x. (x.field, x.value))
