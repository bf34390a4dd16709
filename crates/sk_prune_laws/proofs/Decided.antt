-- A constant expression has its value in every state, whatever calls do.
use Rattle.std.proofs.Common.{◌≡◌, ℕ, ℤ, Bool, true, false, not, Option, Some, None, refl, sym, ap, ◌∙◌}
use Rattle.std.specs.Prelude.{pos, option_and_then, slice_get, if◌then◌else◌}
use Rattle.std.specs.Ordering.{int_eq}
use Rattle.std.proofs.lemmas.Option.{same_Some}
use Rattle.sk_base.specs.declared.span.Span.{Span}
use Rattle.sk_prog.specs.declared.ty.Elem.TheVariants as elem
use Rattle.sk_prog.specs.declared.ty.Ty.{Ty}
use Rattle.sk_prog.specs.declared.ty.Ty.TheVariants as ty
use Rattle.sk_prog.specs.declared.value.Value.{Value}
use Rattle.sk_prog.specs.declared.value.Value.TheVariants as value
use Rattle.sk_prog.specs.declared.value.Value.TheOpen as V
use Rattle.sk_prog.specs.declared.value.Value.TheViews as W
use Rattle.sk_prog.specs.declared.value.Value.TheFolds.{fold-roll-Value}
use Rattle.sk_prog.specs.declared.expr.UnOp.{UnOp}
use Rattle.sk_prog.specs.declared.expr.UnOp.TheVariants as unary
use Rattle.sk_prog.specs.declared.expr.BinOp.{BinOp}
use Rattle.sk_prog.specs.declared.expr.BinOp.TheVariants as op
use Rattle.sk_prog.specs.declared.expr.PExpr.{PExpr}
use Rattle.sk_prog.specs.declared.expr.PField.{PField}
use Rattle.sk_prog.specs.declared.prog.ConstDef.{ConstDef}
use Rattle.sk_prog.specs.declared.prog.Prog.{Prog}
use Rattle.sk_model.specs.Step.{State, Step, Goes, Comp, and_then, ◌>>=◌, pure}
use Rattle.sk_model.specs.Values.{equal, equal_step, same_bit}
use Rattle.sk_model.specs.Operators.{unary_operator, operator}
use Rattle.sk_model.specs.Operators as O
use Rattle.sk_model.specs.Eval.{Calls, Does, literal, const_value, choose, binary, does}
use Rattle.sk_model.proofs.Induction.{ExprCases, expr_ind}
use Rattle.sk_model.proofs.Layers.{layer_number, layer_true, layer_false, layer_null, layer_var, layer_const, layer_hole, layer_pattern, layer_paren, layer_call, layer_new, layer_braces, layer_member, layer_index, layer_slice, layer_unary, layer_binary, layer_cond, layer_to_int, layer_pad}
use Rattle.sk_model.proofs.Forms.{does_number, does_true, does_false, does_const, does_paren, does_unary, does_binary, does_to_int}
use Rattle.sk_prune.specs.declared.constant.Constant.{Constant}
use Rattle.sk_prune.specs.declared.constant.Constant.TheVariants.{Bit, Number}
use Rattle.sk_prune.specs.Constants.{number_at, named, to_int, of_one, of_numbers, of_bits, of_two, unless, of_parts, constant_form, constant}

abbrev pub value_of : Constant → Value
value_of (Bit b) = value.Bit b
value_of (Number n) = value.Int n

none_some : {A : Type 0} {X : Type 0} (a : A) → None ≡ Some a → X
none_some a h = cc

equal_bits : (a b : Bool) → equal (value.Bit a) (value.Bit b) ≡ same_bit a b
equal_bits a b = ap (λ (v : Value). equal v (value.Bit b)) (sym (W.rolls-Bit a)) ∙ ap (λ (f : Value → Bool). f (value.Bit b)) (fold-roll-Value (Value → Bool) equal_step (V.Bit a))

equal_ints : (a b : ℤ) → equal (value.Int a) (value.Int b) ≡ int_eq a b
equal_ints a b = ap (λ (v : Value). equal v (value.Int b)) (sym (W.rolls-Int a)) ∙ ap (λ (f : Value → Bool). f (value.Int b)) (fold-roll-Value (Value → Bool) equal_step (V.Int a))

-- Operators

module _ (width : ℕ) (span : Span) (st : State) where
  -- what is computed, where it is a constant
  abbrev Gives : Step Value → Option Constant → Type 0
  Gives r o = (c : Constant) → o ≡ Some c → r ≡ Goes (value_of c) st

  given : (c : Constant) → Gives (Goes (value_of c) st) (Some c)
  given c d h = ap (λ x. Goes (value_of x) st) (same_Some c d h)

  given_as : (v : Value) (c : Constant) → v ≡ value_of c → Gives (Goes v st) (Some c)
  given_as v c e d h = ap (λ x. Goes x st) e ∙ given c d h

  never : (r : Step Value) → Gives r None
  never r c h = none_some c h

  one_given : (o : UnOp) (c : Constant) → Gives (unary_operator width span o (value_of c) st) (of_one o c)
  one_given unary.Not (Bit b) = given (Bit (not b))
  one_given unary.Flip (Bit b) = given (Bit (not b))
  one_given unary.Neg (Bit b) = never _
  one_given unary.Not (Number n) = never _
  one_given unary.Flip (Number n) = never _
  one_given unary.Neg (Number n) = never _

  int_given : (c : Constant) → Gives (O.to_int span (value_of c) st) (to_int c)
  int_given (Bit b) = given (Number (pos (if b then 1 else 0)))
  int_given (Number n) = never _

  numbers_given : (o : BinOp) (x y : ℤ) → Gives (operator width span o (value.Int x) (value.Int y) st) (of_numbers o x y)
  numbers_given op.Lt x y = given _
  numbers_given op.Le x y = given _
  numbers_given op.Gt x y = given _
  numbers_given op.Ge x y = given _
  numbers_given op.Eq x y = given_as _ (Bit (int_eq x y)) (ap (λ b. value.Bit b) (equal_ints x y))
  numbers_given op.Ne x y = given_as _ (Bit (not (int_eq x y))) (ap (λ b. value.Bit (not b)) (equal_ints x y))
  numbers_given op.Mul x y = never _
  numbers_given op.Div x y = never _
  numbers_given op.Rem x y = never _
  numbers_given op.Add x y = never _
  numbers_given op.Sub x y = never _
  numbers_given op.Shl x y = never _
  numbers_given op.Shr x y = never _
  numbers_given op.And x y = never _
  numbers_given op.Xor x y = never _
  numbers_given op.Or x y = never _
  numbers_given op.AndThen x y = never _
  numbers_given op.OrElse x y = never _

  bits_given : (o : BinOp) (a b : Bool) → Gives (operator width span o (value.Bit a) (value.Bit b) st) (of_bits o a b)
  bits_given op.Eq a b = given_as _ (Bit (same_bit a b)) (ap (λ c. value.Bit c) (equal_bits a b))
  bits_given op.Ne a b = given_as _ (Bit (not (same_bit a b))) (ap (λ c. value.Bit (not c)) (equal_bits a b))
  bits_given op.And a b = given _
  bits_given op.Or a b = given _
  bits_given op.Xor a b = given _
  bits_given op.Mul a b = never _
  bits_given op.Div a b = never _
  bits_given op.Rem a b = never _
  bits_given op.Add a b = never _
  bits_given op.Sub a b = never _
  bits_given op.Shl a b = never _
  bits_given op.Shr a b = never _
  bits_given op.Lt a b = never _
  bits_given op.Le a b = never _
  bits_given op.Gt a b = never _
  bits_given op.Ge a b = never _
  bits_given op.AndThen a b = never _
  bits_given op.OrElse a b = never _

  -- an operator that needs both parts
  two_given : (o : BinOp) (m n : Comp Value) (x y : Option Constant) → Gives (m st) x → Gives (n st) y → Gives ((m >>= (λ v. n >>= operator width span o v)) st) (of_two o x y)
  two_given o m n (Some (Number x)) (Some (Number y)) h k c e =
      ap (λ r. and_then r (λ v. n >>= operator width span o v)) (h (Number x) refl) ∙ ap (λ r. and_then r (operator width span o (value.Int x))) (k (Number y) refl) ∙ numbers_given o x y c e
  two_given o m n (Some (Bit x)) (Some (Bit y)) h k c e =
      ap (λ r. and_then r (λ v. n >>= operator width span o v)) (h (Bit x) refl) ∙ ap (λ r. and_then r (operator width span o (value.Bit x))) (k (Bit y) refl) ∙ bits_given o x y c e
  two_given o m n (Some (Number x)) (Some (Bit y)) h k c e = none_some c e
  two_given o m n (Some (Bit x)) (Some (Number y)) h k c e = none_some c e
  two_given o m n (Some (Number x)) None h k c e = none_some c e
  two_given o m n (Some (Bit x)) None h k c e = none_some c e
  two_given o m n None y h k c e = none_some c e

  and_given : (m n : Comp Value) (x y : Option Constant) → Gives (m st) x → Gives (n st) y → Gives ((m >>= choose span n (pure (value.Bit false))) st) (unless false x y)
  and_given m n (Some (Bit false)) y h k c e = ap (λ r. and_then r (choose span n (pure (value.Bit false)))) (h (Bit false) refl) ∙ given (Bit false) c e
  and_given m n (Some (Bit true)) (Some (Bit b)) h k c e = ap (λ r. and_then r (choose span n (pure (value.Bit false)))) (h (Bit true) refl) ∙ k c e
  and_given m n (Some (Bit true)) (Some (Number y)) h k c e = none_some c e
  and_given m n (Some (Bit true)) None h k c e = none_some c e
  and_given m n (Some (Number x)) y h k c e = none_some c e
  and_given m n None y h k c e = none_some c e

  or_given : (m n : Comp Value) (x y : Option Constant) → Gives (m st) x → Gives (n st) y → Gives ((m >>= choose span (pure (value.Bit true)) n) st) (unless true x y)
  or_given m n (Some (Bit true)) y h k c e = ap (λ r. and_then r (choose span (pure (value.Bit true)) n)) (h (Bit true) refl) ∙ given (Bit true) c e
  or_given m n (Some (Bit false)) (Some (Bit b)) h k c e = ap (λ r. and_then r (choose span (pure (value.Bit true)) n)) (h (Bit false) refl) ∙ k c e
  or_given m n (Some (Bit false)) (Some (Number y)) h k c e = none_some c e
  or_given m n (Some (Bit false)) None h k c e = none_some c e
  or_given m n (Some (Number x)) y h k c e = none_some c e
  or_given m n None y h k c e = none_some c e

  parts_given : (o : BinOp) (m n : Comp Value) (x y : Option Constant) → Gives (m st) x → Gives (n st) y → Gives (binary width span o m n st) (of_parts o x y)
  parts_given op.AndThen m n x y h k = and_given m n x y h k
  parts_given op.OrElse m n x y h k = or_given m n x y h k
  parts_given op.Mul m n x y h k = two_given op.Mul m n x y h k
  parts_given op.Div m n x y h k = two_given op.Div m n x y h k
  parts_given op.Rem m n x y h k = two_given op.Rem m n x y h k
  parts_given op.Add m n x y h k = two_given op.Add m n x y h k
  parts_given op.Sub m n x y h k = two_given op.Sub m n x y h k
  parts_given op.Shl m n x y h k = two_given op.Shl m n x y h k
  parts_given op.Shr m n x y h k = two_given op.Shr m n x y h k
  parts_given op.Lt m n x y h k = two_given op.Lt m n x y h k
  parts_given op.Le m n x y h k = two_given op.Le m n x y h k
  parts_given op.Gt m n x y h k = two_given op.Gt m n x y h k
  parts_given op.Ge m n x y h k = two_given op.Ge m n x y h k
  parts_given op.Eq m n x y h k = two_given op.Eq m n x y h k
  parts_given op.Ne m n x y h k = two_given op.Ne m n x y h k
  parts_given op.And m n x y h k = two_given op.And m n x y h k
  parts_given op.Xor m n x y h k = two_given op.Xor m n x y h k
  parts_given op.Or m n x y h k = two_given op.Or m n x y h k

  number_given : (t : Option Ty) (n : ℕ) → Gives (Goes (literal width t n) st) (number_at width t n)
  number_given None n = never _
  number_given (Some (ty.One elem.Bit)) n = given _
  number_given (Some (ty.One elem.Int)) n = given _
  number_given (Some (ty.One (elem.Reference d))) n = never _
  number_given (Some (ty.Array e k)) n = never _
  number_given (Some (ty.Grid e k m)) n = never _

  named_given : (o : Option ConstDef) → Gives (Goes (const_value o) st) (named o)
  named_given None = never _
  named_given (Some c) = given (Number c.number)

-- Expressions

module _ (prog : Prog) (width : ℕ) (call : Calls) where
  abbrev done : PExpr → Does
  done = does prog width call

  abbrev decided : PExpr → Option Constant
  decided = constant prog.consts width

  abbrev Layer : Type 0
  Layer = Option Ty → Option Constant

  abbrev Q : PExpr → Type 0
  Q e = (span : Span) (st : State) → Gives width span st ((done e).value span st) (decided e)

  abbrev R : PField → Type 0
  R x = Unit {0}

  -- not decided
  open_form : (e : PExpr) → decided e ≡ None → Q e
  open_form e h span st c k = none_some c (sym h ∙ k)

  -- by what the form does and what it decides
  by_form : (e : PExpr) (o : Option Constant) (d : Does) → decided e ≡ o → done e ≡ d → ((span : Span) (st : State) → Gives width span st (d.value span st) o) → Q e
  by_form e o d h k g span st c is = ap (λ (x : Does). x.value span st) k ∙ g span st c (sym h ∙ is)

  unary_by : (o : UnOp) (m : Comp Value) (x : Option Constant) (span : Span) (st : State) → Gives width span st (m st) x → Gives width span st ((m >>= unary_operator width span o) st) (option_and_then (of_one o) x)
  unary_by o m None span st h d is = none_some d is
  unary_by o m (Some c) span st h d is = ap (λ r. and_then r (unary_operator width span o)) (h c refl) ∙ one_given width span st o c d is

  int_by : (m : Comp Value) (x : Option Constant) (span : Span) (st : State) → Gives width span st (m st) x → Gives width span st ((m >>= O.to_int span) st) (option_and_then to_int x)
  int_by m None span st h d is = none_some d is
  int_by m (Some c) span st h d is = ap (λ r. and_then r (O.to_int span)) (h c refl) ∙ int_given width span st c d is

  abbrev at_ty : Layer → Option Ty → Option Constant
  at_ty f t = f t

  cases : ExprCases Q R
  cases = record {
    field = λ k e q. tt;
    number = λ s t n. by_form _ _ _ (layer_number Layer (Option Constant) (Option Constant) (constant_form prog.consts width) (λ e. e.form e.ty) (λ x. x.value) s t n) (does_number prog width call s t n) (λ span st. number_given width span st t n);
    truth = λ s t. by_form _ _ _ (layer_true Layer (Option Constant) (Option Constant) (constant_form prog.consts width) (λ e. e.form e.ty) (λ x. x.value) s t) (does_true prog width call s t) (λ span st. given width span st (Bit true));
    falsity = λ s t. by_form _ _ _ (layer_false Layer (Option Constant) (Option Constant) (constant_form prog.consts width) (λ e. e.form e.ty) (λ x. x.value) s t) (does_false prog width call s t) (λ span st. given width span st (Bit false));
    null = λ s t. open_form _ (layer_null Layer (Option Constant) (Option Constant) (constant_form prog.consts width) (λ e. e.form e.ty) (λ x. x.value) s t);
    var = λ s t slot x. open_form _ (layer_var Layer (Option Constant) (Option Constant) (constant_form prog.consts width) (λ e. e.form e.ty) (λ x. x.value) s t slot x);
    const = λ s t k. by_form _ _ _ (layer_const Layer (Option Constant) (Option Constant) (constant_form prog.consts width) (λ e. e.form e.ty) (λ x. x.value) s t k) (does_const prog width call s t k) (λ span st. named_given width span st (slice_get prog.consts k.index));
    hole = λ s t bits. open_form _ (layer_hole Layer (Option Constant) (Option Constant) (constant_form prog.consts width) (λ e. e.form e.ty) (λ x. x.value) s t bits);
    pattern = λ s t es q. open_form _ (layer_pattern Layer (Option Constant) (Option Constant) (constant_form prog.consts width) (λ e. e.form e.ty) (λ x. x.value) s t es);
    paren = λ s t e q. by_form _ _ _ (layer_paren Layer (Option Constant) (Option Constant) (constant_form prog.consts width) (λ e. e.form e.ty) (λ x. x.value) s t e) (does_paren prog width call s t e) (λ span st. q span st);
    call = λ s t f es q. open_form _ (layer_call Layer (Option Constant) (Option Constant) (constant_form prog.consts width) (λ e. e.form e.ty) (λ x. x.value) s t f es);
    new = λ s t d fs q. open_form _ (layer_new Layer (Option Constant) (Option Constant) (constant_form prog.consts width) (λ e. e.form e.ty) (λ x. x.value) s t d fs);
    braces = λ s t es q. open_form _ (layer_braces Layer (Option Constant) (Option Constant) (constant_form prog.consts width) (λ e. e.form e.ty) (λ x. x.value) s t es);
    member = λ s t e d k q. open_form _ (layer_member Layer (Option Constant) (Option Constant) (constant_form prog.consts width) (λ e. e.form e.ty) (λ x. x.value) s t e d k);
    index = λ s t e i q r. open_form _ (layer_index Layer (Option Constant) (Option Constant) (constant_form prog.consts width) (λ e. e.form e.ty) (λ x. x.value) s t e i);
    slice = λ s t e i n q r. open_form _ (layer_slice Layer (Option Constant) (Option Constant) (constant_form prog.consts width) (λ e. e.form e.ty) (λ x. x.value) s t e i n);
    unary = λ s t o e q. by_form _ _ _ (layer_unary Layer (Option Constant) (Option Constant) (constant_form prog.consts width) (λ e. e.form e.ty) (λ x. x.value) s t o e) (does_unary prog width call s t o e) (λ span st. unary_by o ((done e).value span) (decided e) span st (q span st));
    binary = λ s t o a b q r. by_form _ _ _ (layer_binary Layer (Option Constant) (Option Constant) (constant_form prog.consts width) (λ e. e.form e.ty) (λ x. x.value) s t o a b) (does_binary prog width call s t o a b) (λ span st. parts_given width span st o ((done a).value span) ((done b).value span) (decided a) (decided b) (q span st) (r span st));
    cond = λ s t c a b q r u. open_form _ (layer_cond Layer (Option Constant) (Option Constant) (constant_form prog.consts width) (λ e. e.form e.ty) (λ x. x.value) s t c a b);
    to_int = λ s t e q. by_form _ _ _ (layer_to_int Layer (Option Constant) (Option Constant) (constant_form prog.consts width) (λ e. e.form e.ty) (λ x. x.value) s t e) (does_to_int prog width call s t e) (λ span st. int_by ((done e).value span) (decided e) span st (q span st));
    pad = λ s t e q. open_form _ (layer_pad Layer (Option Constant) (Option Constant) (constant_form prog.consts width) (λ e. e.form e.ty) (λ x. x.value) s t e);
  }

  -- a constant expression has its value
  pub constants_are : (e : PExpr) (c : Constant) → constant prog.consts width e ≡ Some c → (span : Span) (st : State) → (does prog width call e).value span st ≡ Goes (value_of c) st
  constants_are e c h span st = expr_ind Q R cases e span st c h
