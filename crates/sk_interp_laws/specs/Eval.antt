-- What an expression does, and what it does as the target of an assignment, with the steps of the calls in it. It tells no step of its
-- own: it does what it does in a run, and its parts stand in the same order.
use Rattle.std.specs.Prelude.{ℕ, true, false, List, [], ◌∷◌, slice_get, Option, if◌then◌else◌}
use Rattle.sk_base.specs.declared.span.Span.{Span}
use Rattle.sk_prog.specs.declared.ids.FunId.{FunId}
use Rattle.sk_prog.specs.declared.ty.Ty.{Ty}
use Rattle.sk_prog.specs.declared.value.Value.{Value}
use Rattle.sk_prog.specs.declared.value.Value.TheVariants as value
use Rattle.sk_prog.specs.declared.expr.BinOp.{BinOp}
use Rattle.sk_prog.specs.declared.expr.BinOp.TheVariants as op
use Rattle.sk_prog.specs.declared.expr.PExpr.{PExpr}
use Rattle.sk_prog.specs.declared.expr.PEForm.TheOpen as P
use Rattle.sk_prog.specs.declared.expr.PEForm.TheFolds.{fold-PExpr}
use Rattle.sk_prog.specs.declared.prog.ParamDef.{ParamDef}
use Rattle.sk_prog.specs.declared.prog.Prog.{Prog}
use Rattle.sk_model.specs.Operators.{operator, unary_operator, to_int}
use Rattle.sk_model.specs.Heap.{read, read_field, allocate, Variable, Field, Location, at_root, store}
use Rattle.sk_model.specs.Eval.{Called, literal, const_value, padded_at, indexed, sliced, params_of, result_value, add_index, unfilled}
use Rattle.sk_interp_laws.specs.Recording.{Traced, ◌>>=◌, pure, fail, lift}

module _ (L : Type 0) where
  -- what a call of a function with these arguments does, made by a statement with this span
  abbrev pub Calls : Type 0
  Calls = Span → ℕ → List Value → Traced L Called

  -- what an expression does in a statement with a given span, for its value and as a target
  pub record Does : Type 0 where
    pub value : Span → Traced L Value
    pub target : Span → Traced L Location

module _ {L : Type 0} where
  abbrev pub in_order : Span → List (Does L) → Traced L (List Value)
  in_order span [] = pure []
  in_order span (a ∷ more) = a.value span >>= (λ v. in_order span more >>= (λ vs. pure (v ∷ vs)))

  abbrev pub fields_in_order : Span → List (ℕ × Does L) → Traced L (List (ℕ × Value))
  fields_in_order span [] = pure []
  fields_in_order span (f ∷ fs) = f.1.value span >>= (λ v. fields_in_order span fs >>= (λ vs. pure ((f.0, v) ∷ vs)))

  -- the one or the other by a bit
  abbrev pub choose : {A : Type 0} → Span → Traced L A → Traced L A → Value → Traced L A
  choose span a b (value.Bit true) = a
  choose span a b (value.Bit false) = b
  choose span a b _ = fail span

  -- `&&` and `||` evaluate the second part only where the first does not decide
  abbrev pub binary : ℕ → Span → BinOp → Traced L Value → Traced L Value → Traced L Value
  binary width span op.AndThen a b = a >>= choose span b (pure (value.Bit false))
  binary width span op.OrElse a b = a >>= choose span (pure (value.Bit true)) b
  binary width span op a b = a >>= (λ v. b >>= (λ w. lift (operator width span op v w)))

  -- the arguments for `ref` parameters
  abbrev pub ref_args : List ParamDef → List (Does L) → List (Does L)
  ref_args (p ∷ ps) (a ∷ args) = if p.by_ref then a ∷ ref_args ps args else ref_args ps args
  ref_args _ _ = []

  -- the values are copied back to the variables, in order
  abbrev pub copy_back : Span → List (Does L) → List Value → Traced L (Unit {0})
  copy_back span (a ∷ args) (v ∷ vs) = a.target span >>= (λ location. lift (store span location v) >>= (λ u. copy_back span args vs))
  copy_back span _ _ = pure tt

  module _ (prog : Prog) (width : ℕ) (call : Calls L) where
    abbrev pub call_value : Span → FunId → List (Does L) → Traced L Value
    call_value span f args =
        in_order span args >>= (λ vs.
        call span f.index vs >>= (λ called.
        copy_back span (ref_args (params_of (slice_get prog.funs f.index)) args) called.refs >>= (λ u.
        pure (result_value called.result))))

    abbrev pub eval_form : {X : Type 0} → P.PEForm-F X (Does L) (ℕ × Does L) → Option Ty → Span → Traced L Value
    eval_form (P.Number n) t span = pure (literal width t n)
    eval_form P.True t span = pure (value.Bit true)
    eval_form P.False t span = pure (value.Bit false)
    eval_form P.Null t span = pure value.Null
    eval_form (P.Var slot x) t span = lift (read slot)
    eval_form (P.Const c) t span = pure (const_value (slice_get prog.consts c.index))
    eval_form (P.Hole bits) t span = lift (unfilled t span)
    eval_form (P.Pattern strings) t span = fail span
    eval_form (P.Paren a) t span = a.value span
    eval_form (P.Call f args) t span = call_value span f args
    eval_form (P.New d fields) t span = fields_in_order span fields >>= (λ set. lift (allocate prog d set))
    eval_form (P.Braces parts) t span = in_order span parts >>= (λ vs. pure (padded_at t (value.Array vs)))
    eval_form (P.Member a d field) t span = a.value span >>= (λ v. lift (read_field span field v))
    eval_form (P.Index a i) t span = a.value span >>= (λ v. i.value span >>= (λ k. lift (indexed span v k)))
    eval_form (P.Slice a i n) t span = a.value span >>= (λ v. i.value span >>= (λ k. lift (sliced span n v k)))
    eval_form (P.Unary op a) t span = a.value span >>= (λ v. lift (unary_operator width span op v))
    eval_form (P.Binary op a b) t span = binary width span op (a.value span) (b.value span)
    eval_form (P.Cond c a b) t span = c.value span >>= choose span (a.value span) (b.value span)
    eval_form (P.ToInt a) t span = a.value span >>= (λ v. lift (to_int span v))
    eval_form (P.Pad a) t span = a.value span >>= (λ v. pure (padded_at t v))

    abbrev pub target_form : {X : Type 0} → P.PEForm-F X (Does L) (ℕ × Does L) → Span → Traced L Location
    target_form (P.Var slot x) span = lift (at_root (Variable slot))
    target_form (P.Member a d field) span = a.value span >>= (λ v. lift (at_root (Field v field)))
    target_form (P.Index a i) span = a.target span >>= (λ location. i.value span >>= (λ k. lift (add_index span location k)))
    target_form _ span = fail span

    abbrev pub does_form : {X : Type 0} → P.PEForm-F X (Does L) (ℕ × Does L) → Option Ty → Does L
    does_form form t = record { value = eval_form form t; target = target_form form }

    abbrev pub does : PExpr → Does L
    does = fold-PExpr (Option Ty → Does L) (Does L) (ℕ × Does L) does_form (λ x. x.form x.ty) (λ x. (x.field, x.value))
