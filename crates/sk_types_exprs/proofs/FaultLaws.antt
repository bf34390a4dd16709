-- What searches for faults find.
use Rattle.std.proofs.Common.{◌≡◌, ◌≢◌, List, Option, Some, None, Bool, true, refl, sym, ap, subst, ◌∙◌}
use Rattle.std.specs.Prelude.{ℕ, false, ◌||◌, ◌&&◌, not, is_none}
use Rattle.std.specs.Option.{option_or}
use Rattle.sk_tree.specs.declared.token.Mark.{Mark}
use Rattle.sk_tree.specs.declared.pattern.Pattern.{Pattern}
use Rattle.sk_tree.specs.declared.expr.Expr.{Expr}
use Rattle.sk_tree.specs.declared.expr.EForm.{EForm}
use Rattle.sk_tree.specs.declared.expr.EForm.TheVariants as eform
use Rattle.sk_tree.specs.declared.expr.EForm.TheOpen as E
use Rattle.sk_tree.specs.declared.expr.EForm.TheViews.{roll-EForm}
use Rattle.sk_tree.specs.declared.expr.EForm.TheFolds.{map-EForm, para-NewField, para-roll-EForm, para-roll-Expr}
use Rattle.sk_tree.specs.declared.expr.NewField.{NewField}
use Rattle.sk_prog.specs.declared.ty.Ty.{Ty}
use Rattle.sk_types_rules.specs.declared.rules.Own.{Own}
use Rattle.sk_types_rules.specs.declared.rules.Own.TheVariants.{Wrong, Loose, Firm}
use Rattle.sk_types_rules.specs.declared.scope.Variable.{Variable}
use Rattle.sk_types_rules.specs.Scope.{Context}
use Rattle.sk_types_laws.specs.declared.fault.Typing.{Typing}
use Rattle.sk_types_laws.specs.declared.fault.Typing.TheVariants.{Fault, Memory}
use Rattle.sk_base.specs.declared.span.Span.{Span}
use Rattle.sk_base.specs.declared.bounds.Bounds.{Bounds}
use Rattle.sk_prog.specs.declared.expr.PExpr.{PExpr}
use Rattle.sk_prog.specs.declared.expr.PEForm.TheVariants as pform
use Rattle.sk_types_rules.specs.Rules.{only_if, int, width_fits}
use Rattle.sk_types_laws.specs.Elaborate.{hole_at, typed}
use Rattle.sk_types_laws.specs.Parts.{part}
use Rattle.sk_types_laws.proofs.Ats.{expr_law}
use Rattle.sk_types_exprs.specs.OwnFaults.{Finds, by_own, all_faulty, some_faulty, not_at_bit, eform_faulty, expr_faulty, form_faulty, is_faulty, judged}

pub finds_either : (x y : Option Typing) (a b : Bool) → Finds x a → Finds y b → Finds (option_or x y) (a || b)
finds_either None y a b h k = rw h k
finds_either (Some (Fault f)) y a b h k = rw h refl
finds_either (Some Memory) y a b h k = tt

either_is : (r x y : Option Typing) (a b : Bool) → r ≡ option_or x y → Finds x a → Finds y b → Finds r (a || b)
either_is r x y a b is h k = subst (λ o. Finds o (a || b)) (sym is) (finds_either x y a b h k)

pub finds_some : (why : Typing) → Finds (Some why) true
finds_some (Fault f) = refl
finds_some Memory = tt

-- a hole that is an integer is none exactly where its width does not fit
no_width : (o : Option Typing) (b : Bool) (p : PExpr) → Finds o (is_none (only_if (b && true) p)) → Finds o (not b)
no_width o true p h = h
no_width o false p h = h

pub no_such_hole : (o : Option Typing) (bounds : Bounds) (n : Option ℕ) (s : Span) → Finds o (is_none (hole_at bounds n s int)) → Finds o (not (width_fits bounds n))
no_such_hole o bounds n s h = no_width o (width_fits bounds n) (typed s int (pform.Hole n)) h

module _ (context : Context) (scope : List Variable) (e : Expr) where
  by_form : is_faulty context scope e ≡ by_own (part context scope e).own (part context scope e).at (form_faulty context scope e.form)
  by_form = para-roll-Expr Bool Bool (Unit {0}) (eform_faulty context scope) (expr_faulty context scope) (λ x. tt) (record { span = e.span; form = e.form })

  by_type : (o : Own) → (part context scope e).own ≡ o → is_faulty context scope e ≡ by_own o (part context scope e).at (form_faulty context scope e.form)
  by_type o h = by_form ∙ ap (λ o. by_own o (part context scope e).at (form_faulty context scope e.form)) h

  pub firm_faulty : (t : Ty) → (part context scope e).own ≡ Firm t → is_faulty context scope e ≡ is_none ((part context scope e).at t)
  firm_faulty t h = by_type (Firm t) h

  pub wrong_faulty : (part context scope e).own ≡ Wrong → is_faulty context scope e ≡ true
  wrong_faulty h = by_type Wrong h

  pub loose_faulty : (part context scope e).own ≡ Loose → is_faulty context scope e ≡ form_faulty context scope e.form
  loose_faulty h = by_type Loose h

-- The forms that take the type of their place

module _ (context : Context) (scope : List Variable) where
  abbrev no_field : NewField → Unit {0}
  no_field = para-NewField Bool Bool (Unit {0}) (eform_faulty context scope) (expr_faulty context scope) (λ x. tt)

  abbrev layer : E.EForm-F EForm Expr NewField → Bool
  layer l = eform_faulty context scope (map-EForm EForm Expr NewField (EForm × Bool) (Expr × Bool) (NewField × Unit {0}) (λ f. (f, form_faulty context scope f)) (λ e. (e, is_faulty context scope e)) (λ x. (x, no_field x)) l)

  rolled : (f : EForm) (l : E.EForm-F EForm Expr NewField) → roll-EForm l ≡ f → form_faulty context scope f ≡ layer l
  rolled f l is = ap (form_faulty context scope) (sym is) ∙ para-roll-EForm Bool Bool (Unit {0}) (eform_faulty context scope) (expr_faulty context scope) (λ x. tt) l

  -- what is found in a part of the same span and form
  found_in : (e f : Expr) (o : Option Typing) → f ≡ e → Finds o (is_faulty context scope f) → Finds o (is_faulty context scope e)
  found_in e f o same h = subst (λ e. Finds o (is_faulty context scope e)) same h

  bit_in : (e f : Expr) (o : Option Typing) → f ≡ e → Finds o (not_at_bit context scope f) → Finds o (not_at_bit context scope e)
  bit_in e f o same h = subst (λ e. Finds o (not_at_bit context scope e)) same h

  found_as : (f : EForm) (b : Bool) (o : Option Typing) → form_faulty context scope f ≡ b → Finds o b → Finds o (form_faulty context scope f)
  found_as f b o is h = subst (Finds o) (sym is) h

  pub paren_found : (f : EForm) (e got : Expr) (o : Option Typing) → f ≡ eform.Paren e → got ≡ e → Finds o (is_faulty context scope got) → Finds o (form_faulty context scope f)
  paren_found f e got o is same h = found_as f (is_faulty context scope e) o (rolled f (E.Paren e) (eform.rolls-Paren e ∙ sym is)) (found_in e got o same h)

  pub unary_found : (f : EForm) (m : Mark) (e got : Expr) (o : Option Typing) → f ≡ eform.Unary m e → got ≡ e → Finds o (is_faulty context scope got) → Finds o (form_faulty context scope f)
  unary_found f m e got o is same h = found_as f (is_faulty context scope e) o (rolled f (E.Unary m e) (eform.rolls-Unary m e ∙ sym is)) (found_in e got o same h)

  pub hole_found : (f : EForm) (n : Option ℕ) (o : Option Typing) → f ≡ eform.Hole n → Finds o (not (width_fits context.bounds n)) → Finds o (form_faulty context scope f)
  hole_found f n o is h = found_as f (not (width_fits context.bounds n)) o (rolled f (E.Hole n) (eform.rolls-Hole n ∙ sym is)) h

  pub pattern_found : (f : EForm) (g : Pattern) (es got : List Expr) (o : Option Typing) → f ≡ eform.Pattern g es → got ≡ es → Finds o (all_faulty (judged context scope got)) → Finds o (form_faulty context scope f)
  pattern_found f g es got o is same h = found_as f (all_faulty (judged context scope es)) o (rolled f (E.Pattern g es) (eform.rolls-Pattern g es ∙ sym is)) (subst (λ es. Finds o (all_faulty (judged context scope es))) same h)

  pub braces_found : (f : EForm) (es got : List Expr) (o : Option Typing) → f ≡ eform.Braces es → got ≡ es → Finds o (some_faulty (judged context scope got)) → Finds o (form_faulty context scope f)
  braces_found f es got o is same h = found_as f (some_faulty (judged context scope es)) o (rolled f (E.Braces es) (eform.rolls-Braces es ∙ sym is)) (subst (λ es. Finds o (some_faulty (judged context scope es))) same h)

  pub binary_found : (f : EForm) (m : Mark) (a b first second : Expr) (r x y : Option Typing) → f ≡ eform.Binary m a b → first ≡ a → second ≡ b → r ≡ option_or x y → Finds x (is_faulty context scope first) → Finds y (is_faulty context scope second) → Finds r (form_faulty context scope f)
  binary_found f m a b first second r x y is one two joined h k =
      found_as f (is_faulty context scope a || is_faulty context scope b) r (rolled f (E.Binary m a b) (eform.rolls-Binary m a b ∙ sym is))
      (either_is r x y (is_faulty context scope a) (is_faulty context scope b) joined (found_in a first x one h) (found_in b second y two k))

  pub cond_found : (f : EForm) (c a b test first second : Expr) (r s x y z : Option Typing) → f ≡ eform.Cond c a b → test ≡ c → first ≡ a → second ≡ b → s ≡ option_or x y → r ≡ option_or s z → Finds x (not_at_bit context scope test) → Finds y (is_faulty context scope first) → Finds z (is_faulty context scope second) → Finds r (form_faulty context scope f)
  cond_found f c a b test first second r s x y z is zero one two joined both h k l =
      found_as f ((not_at_bit context scope c || is_faulty context scope a) || is_faulty context scope b) r (rolled f (E.Cond c a b) (eform.rolls-Cond c a b ∙ sym is))
      (either_is r s z (not_at_bit context scope c || is_faulty context scope a) (is_faulty context scope b) both
      (either_is s x y (not_at_bit context scope c) (is_faulty context scope a) joined (bit_in c test x zero h) (found_in a first y one k))
      (found_in b second z two l))

  -- No other form has a fault: a form that is none of these.
  record IsOther (f : EForm) : Type 0 where
    paren : (e : Expr) → f ≢ eform.Paren e
    cond : (c a b : Expr) → f ≢ eform.Cond c a b
    hole : (n : Option ℕ) → f ≢ eform.Hole n
    pattern : (g : Pattern) (es : List Expr) → f ≢ eform.Pattern g es
    braces : (es : List Expr) → f ≢ eform.Braces es
    unary : (m : Mark) (e : Expr) → f ≢ eform.Unary m e
    binary : (m : Mark) (a b : Expr) → f ≢ eform.Binary m a b

  abbrev HasNone : EForm → Type 0
  HasNone f = IsOther f → form_faulty context scope f ≡ false

  none_layer : (l : E.EForm-F EForm Expr NewField) → IsOther (roll-EForm l) → layer l ≡ false
  none_layer (E.Paren e) o = absurd (o.paren e (eform.rolls-Paren e))
  none_layer (E.Cond c a b) o = absurd (o.cond c a b (eform.rolls-Cond c a b))
  none_layer (E.Hole n) o = absurd (o.hole n (eform.rolls-Hole n))
  none_layer (E.Pattern g es) o = absurd (o.pattern g es (eform.rolls-Pattern g es))
  none_layer (E.Braces es) o = absurd (o.braces es (eform.rolls-Braces es))
  none_layer (E.Unary m e) o = absurd (o.unary m e (eform.rolls-Unary m e))
  none_layer (E.Binary m a b) o = absurd (o.binary m a b (eform.rolls-Binary m a b))
  none_layer _ o = refl

  none_of : (e : Expr) → HasNone e.form
  none_of = expr_law HasNone (λ e. HasNone e.form) (λ x. Unit {0})
      (λ y o.
      let l = map-EForm ((f : EForm) × HasNone f) ((e : Expr) × HasNone e.form) (NewField × Unit {0}) EForm Expr NewField (λ q. q.0) (λ q. q.0) (λ q. q.0) y in
      rolled (roll-EForm l) l refl ∙ none_layer l o)
      (λ e h. h) (λ x h. tt)

  pub none_faulty : (f : EForm) → ((e : Expr) → f ≢ eform.Paren e) → ((c a b : Expr) → f ≢ eform.Cond c a b) → ((n : Option ℕ) → f ≢ eform.Hole n) → ((g : Pattern) (es : List Expr) → f ≢ eform.Pattern g es) → ((es : List Expr) → f ≢ eform.Braces es) → ((m : Mark) (e : Expr) → f ≢ eform.Unary m e) → ((m : Mark) (a b : Expr) → f ≢ eform.Binary m a b) → form_faulty context scope f ≡ false
  none_faulty f paren cond hole pattern braces unary binary = none_of (record { span = record { from = 0; to = 0 }; form = f }) (record { paren = paren; cond = cond; hole = hole; pattern = pattern; braces = braces; unary = unary; binary = binary })
