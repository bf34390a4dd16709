-- A count and a constant that are printed have the same number again.
use Rattle.std.proofs.Common.{◌≡◌, ℕ, Bool, true, false, List, [], ◌∷◌, map, Option, Some, None, refl, sym, ap, ◌∙◌, subst, inl, inr}
use Rattle.std.specs.Prelude.{ℤ}
use Rattle.sk_base.specs.declared.span.Span.{Span}
use Rattle.sk_base.specs.declared.bounds.Bounds.{Bounds}
use Rattle.sk_tree.specs.declared.expr.Expr.{Expr}
use Rattle.sk_tree.specs.declared.expr.EForm.{EForm}
use Rattle.sk_tree.specs.declared.expr.NewField.{NewField}
use Rattle.sk_tree.specs.declared.expr.EForm.TheVariants as eform
use Rattle.sk_tree.specs.declared.expr.EForm.TheOpen as E
use Rattle.sk_tree.specs.declared.expr.EForm.TheViews.{roll-EForm}
use Rattle.sk_tree.specs.declared.expr.EForm.TheFolds.{map-EForm, fold-EForm, fold-NewField, fold-roll-EForm, fold-roll-Expr}
use Rattle.sk_prog.specs.declared.ty.Ty.{Ty}
use Rattle.sk_prog.specs.declared.expr.PExpr.{PExpr}
use Rattle.sk_prog.specs.declared.expr.PField.{PField}
use Rattle.sk_prog.specs.declared.expr.PEForm.{PEForm}
use Rattle.sk_prog.specs.declared.expr.PEForm.TheVariants as pform
use Rattle.sk_prog.specs.declared.expr.PEForm.TheOpen as P
use Rattle.sk_prog.specs.declared.expr.PEForm.TheViews.{roll-PEForm}
use Rattle.sk_prog.specs.declared.expr.PEForm.TheFolds.{map-PEForm, fold-roll-PEForm, fold-roll-PExpr}
use Rattle.sk_prog.specs.declared.prog.Prog.{Prog}
use Rattle.sk_prog.specs.Spanless.{no_span}
use Rattle.sk_prog.specs.Spanless as W
use Rattle.sk_types_rules.specs.declared.scope.Variable.{Variable}
use Rattle.sk_types_rules.specs.Erase.{nowhere, at, mark_of}
use Rattle.sk_types_rules.specs.Erase as R
use Rattle.sk_types_rules.specs.Rules.{◌>>=◌, int}
use Rattle.sk_types_rules.specs.Scope.{Known, Context, top_of}
use Rattle.sk_types_rules.specs.Constants.{computed, eform_number, whole_number, natural, constant_number}
use Rattle.sk_types_rules.specs.Types.{EFormRule, Means, IsAt, CountMeans}
use Rattle.sk_types_rules.proofs.Layers.{FormMeans, rule, form_means_are, means_parts}
use Rattle.sk_types_laws.specs.Envs.{AreDistinct}
use Rattle.sk_types_laws.proofs.Ats.{bind_some, pexpr_law}
use Rattle.sk_print_laws.specs.Printed.{eform_printed, printed_expr}
use Rattle.sk_print_laws.specs.SpanlessTree.{spanless_expr}
use Rattle.sk_print_laws.proofs.Respelt.{Layer, Alike, spanless_layer}
use Rattle.sk_print_laws.proofs.Inverted.{rolled_same, number_back, word_back, hole_back, paren_back, binary_back}
use Rattle.sk_print_laws.proofs.NamesBack.{const_back}
use Rattle.sk_print_laws.proofs.MeansAgain.{expr_again, number_again}
use Rattle.sk_print_laws.proofs.PlacedAgain.{mark_back}
use Rattle.sk_print_laws.proofs.StmtsPlaced.{form_shown_expr, field_shown_expr, printed_at}
use Rattle.sk_print_laws.proofs.TargetsAgain.{off_at}

-- a number is the same wherever it stands
number_anywhere : (s : Span) (n : ℕ) → spanless_expr (at (eform.Number n) s) ≡ spanless_expr (at (eform.Number n) nowhere)
number_anywhere s n =
    ap (λ f. spanless_expr (at f s)) (sym (eform.rolls-Number n))
    ∙ spanless_layer s (E.Number n)
    ∙ sym (spanless_layer nowhere (E.Number n))
    ∙ ap (λ f. spanless_expr (at f nowhere)) (eform.rolls-Number n)

module _ (prog : Prog) (bounds : Bounds) (known : List Known) (scope : List Variable) where
  abbrev one : Context
  one = record { bounds = bounds; top = top_of prog; known = known }

  abbrev printed_of : P.PEForm-F PEForm PExpr PField → P.PEForm-F (Span → Expr) Expr (ℕ × Expr)
  printed_of = map-PEForm PEForm PExpr PField (Span → Expr) Expr (ℕ × Expr) (form_shown_expr prog one) (printed_expr prog) (field_shown_expr prog one)

  -- the printed form, and the printed expression
  form_is : (l : P.PEForm-F PEForm PExpr PField) (here : Span) (d : Expr) → Alike (form_shown_expr prog one (roll-PEForm l) here) d → Alike (eform_printed prog (printed_of l) here) d
  form_is l here d a = a ∙ ap (λ (x : Span → Expr). spanless_expr (x here)) (fold-roll-PEForm (Span → Expr) Expr (ℕ × Expr) (eform_printed prog) (λ e. e.form e.span) (λ f. (f.field, f.value)) l)

  expr_is : (p : PExpr) (d : Expr) → Alike (printed_expr prog p) d → Alike (form_shown_expr prog one p.form p.span) d
  expr_is p d a = a ∙ ap spanless_expr (fold-roll-PExpr (Span → Expr) Expr (ℕ × Expr) (eform_printed prog) (λ e. e.form e.span) (λ f. (f.field, f.value)) (record { span = p.span; ty = p.ty; form = p.form }))

  -- What means a hole is printed as that hole.

  no_hole : (e : Expr) (l : Layer) (n : Option ℕ) → e.form ≡ roll-EForm l → (l ≡ E.Hole n → ⊥) → e.form ≡ eform.Hole n → ⊥
  no_hole e l n is other h = other (rolled_same l (E.Hole n) (sym is ∙ h ∙ sym (eform.rolls-Hole n)))

  abbrev FormHole : PEForm → Type 0
  FormHole f = (t : Option Ty) (e : Expr) → FormMeans one scope f t e → (n : Option ℕ) → e.form ≡ eform.Hole n → (here : Span) (d : Expr) → Alike (form_shown_expr prog one f here) d → d.form ≡ eform.Hole n

  abbrev ExprHole : PExpr → Type 0
  ExprHole p = (e : Expr) → Means one scope p e → (n : Option ℕ) → e.form ≡ eform.Hole n → (d : Expr) → Alike (printed_expr prog p) d → d.form ≡ eform.Hole n

  abbrev HoleParts : Type 0
  HoleParts = P.PEForm-F ((f : PEForm) × FormHole f) ((p : PExpr) × ExprHole p) (PField × Unit {0})

  abbrev hole_parts : HoleParts → P.PEForm-F PEForm PExpr PField
  hole_parts y = map-PEForm ((f : PEForm) × FormHole f) ((p : PExpr) × ExprHole p) (PField × Unit {0}) PEForm PExpr PField (λ q. q.0) (λ q. q.0) (λ q. q.0) y

  hole_layer : (y : HoleParts) (t : Option Ty) (e : Expr) → rule one scope (hole_parts y) t e → (n : Option ℕ) → e.form ≡ eform.Hole n → (here : Span) (d : Expr) → Alike (eform_printed prog (printed_of (hole_parts y)) here) d → d.form ≡ eform.Hole n
  hole_layer (P.Hole None) t e h n is here d a = hole_back here d None a ∙ sym h.0 ∙ is
  hole_layer (P.Hole (Some m)) t e h n is here d a = hole_back here d (Some m) a ∙ sym h.0 ∙ is
  hole_layer (P.ToInt q) t e h n is here d a = q.1 e h.0 n is d a
  hole_layer (P.Pad q) t e h n is here d a = q.1 e h.0 n is d a
  hole_layer (P.Number m) t e h n is here d a = absurd (no_hole e (E.Number m) n (h.0 ∙ sym (eform.rolls-Number m)) (λ k. cc) is)
  hole_layer P.True t e h n is here d a = absurd (no_hole e E.True n (h.0 ∙ sym eform.rolls-True) (λ k. cc) is)
  hole_layer P.False t e h n is here d a = absurd (no_hole e E.False n (h.0 ∙ sym eform.rolls-False) (λ k. cc) is)
  hole_layer P.Null t e h n is here d a = absurd (no_hole e E.Null n (h.0 ∙ sym eform.rolls-Null) (λ k. cc) is)
  hole_layer (P.Var slot x) t e h n is here d a = absurd (no_hole e (E.Word x) n (h.0 ∙ sym (eform.rolls-Word x)) (λ k. cc) is)
  hole_layer (P.Const c) t e h n is here d a = absurd (no_hole e (E.Word h.0) n (h.1 ∙ sym (eform.rolls-Word h.0)) (λ k. cc) is)
  hole_layer (P.Pattern qs) t e h n is here d a = absurd (no_hole e (E.Pattern h.0 h.1) n (h.2 ∙ sym (eform.rolls-Pattern h.0 h.1)) (λ k. cc) is)
  hole_layer (P.Paren q) t e h n is here d a = absurd (no_hole e (E.Paren h.0) n (h.1 ∙ sym (eform.rolls-Paren h.0)) (λ k. cc) is)
  hole_layer (P.Call g qs) t e h n is here d a = absurd (no_hole e (E.Call h.0 h.1) n (h.2 ∙ sym (eform.rolls-Call h.0 h.1)) (λ k. cc) is)
  hole_layer (P.New s qs) t e h n is here d a = absurd (no_hole e (E.New h.0 h.1) n (h.2 ∙ sym (eform.rolls-New h.0 h.1)) (λ k. cc) is)
  hole_layer (P.Braces qs) t e h n is here d a = absurd (no_hole e (E.Braces h.0) n (h.1 ∙ sym (eform.rolls-Braces h.0)) (λ k. cc) is)
  hole_layer (P.Member q s i) t e h n is here d a = absurd (no_hole e (E.Member h.0 h.1) n (h.2 ∙ sym (eform.rolls-Member h.0 h.1)) (λ k. cc) is)
  hole_layer (P.Index q j) t e h n is here d a = absurd (no_hole e (E.Index h.0 h.1) n (h.2 ∙ sym (eform.rolls-Index h.0 h.1)) (λ k. cc) is)
  hole_layer (P.Slice q j m) t e h n is here d a = absurd (no_hole e (E.Slice h.0 h.1 h.2) n (h.3 ∙ sym (eform.rolls-Slice h.0 h.1 h.2)) (λ k. cc) is)
  hole_layer (P.Unary o q) t e h n is here d a = absurd (no_hole e (E.Unary h.0 h.1) n (h.2 ∙ sym (eform.rolls-Unary h.0 h.1)) (λ k. cc) is)
  hole_layer (P.Binary o q j) t e h n is here d a = absurd (no_hole e (E.Binary h.0 h.1 h.2) n (h.3 ∙ sym (eform.rolls-Binary h.0 h.1 h.2)) (λ k. cc) is)
  hole_layer (P.Cond z q j) t e h n is here d a = absurd (no_hole e (E.Cond h.0 h.1 h.2) n (h.3 ∙ sym (eform.rolls-Cond h.0 h.1 h.2)) (λ k. cc) is)

  hole_again : (p : PExpr) → ExprHole p
  hole_again = pexpr_law FormHole ExprHole (λ q. Unit {0})
      (λ y t e m n is here d a. hole_layer y t e (subst (λ (M : EFormRule). M t e) (form_means_are one scope (hole_parts y)) m) n is here d (form_is (hole_parts y) here d a))
      (λ p h e m n is d a. h p.ty e (means_parts one scope p e m).1 n is p.span d (expr_is p d a))
      (λ q h. tt)

  -- What means a constant expression is printed as one of the same value.

  abbrev form_whole : EForm → Option ℤ
  form_whole = fold-EForm (Option ℤ) (Option ℤ) (Unit {0}) (eform_number one scope) (λ x. x.form) (λ x. tt)

  abbrev field_whole : NewField → Unit {0}
  field_whole = fold-NewField (Option ℤ) (Option ℤ) (Unit {0}) (eform_number one scope) (λ x. x.form) (λ x. tt)

  abbrev wholes : Layer → E.EForm-F (Option ℤ) (Option ℤ) (Unit {0})
  wholes = map-EForm EForm Expr NewField (Option ℤ) (Option ℤ) (Unit {0}) form_whole (whole_number one scope) field_whole

  whole_at : (e : Expr) (l : Layer) → e.form ≡ roll-EForm l → whole_number one scope e ≡ eform_number one scope (wholes l)
  whole_at e l is =
      fold-roll-Expr (Option ℤ) (Option ℤ) (Unit {0}) (eform_number one scope) (λ x. x.form) (λ x. tt) (record { span = e.span; form = e.form })
      ∙ ap form_whole is
      ∙ fold-roll-EForm (Option ℤ) (Option ℤ) (Unit {0}) (eform_number one scope) (λ x. x.form) (λ x. tt) l

  no_whole : (e : Expr) (l : Layer) (z : ℤ) → e.form ≡ roll-EForm l → eform_number one scope (wholes l) ≡ None → whole_number one scope e ≡ Some z → ⊥
  no_whole e l z is none h = let k : None ≡ Some z = sym none ∙ sym (whole_at e l is) ∙ h in cc

  abbrev FormWhole : PEForm → Type 0
  FormWhole f = (t : Option Ty) (e : Expr) → FormMeans one scope f t e → (z : ℤ) → whole_number one scope e ≡ Some z → (here : Span) (d : Expr) → Alike (form_shown_expr prog one f here) d → whole_number one scope d ≡ Some z

  abbrev ExprWhole : PExpr → Type 0
  ExprWhole p = (e : Expr) → Means one scope p e → (z : ℤ) → whole_number one scope e ≡ Some z → (d : Expr) → Alike (printed_expr prog p) d → whole_number one scope d ≡ Some z

  abbrev WholeParts : Type 0
  WholeParts = P.PEForm-F ((f : PEForm) × FormWhole f) ((p : PExpr) × ExprWhole p) (PField × Unit {0})

  abbrev whole_parts : WholeParts → P.PEForm-F PEForm PExpr PField
  whole_parts y = map-PEForm ((f : PEForm) × FormWhole f) ((p : PExpr) × ExprWhole p) (PField × Unit {0}) PEForm PExpr PField (λ q. q.0) (λ q. q.0) (λ q. q.0) y

  same_layer : (e d : Expr) (l : Layer) (z : ℤ) → e.form ≡ roll-EForm l → d.form ≡ roll-EForm l → whole_number one scope e ≡ Some z → whole_number one scope d ≡ Some z
  same_layer e d l z is js h = whole_at d l js ∙ sym (whole_at e l is) ∙ h

  whole_layer : (y : WholeParts) (t : Option Ty) (e : Expr) → rule one scope (whole_parts y) t e → (z : ℤ) → whole_number one scope e ≡ Some z → (here : Span) (d : Expr) → Alike (eform_printed prog (printed_of (whole_parts y)) here) d → whole_number one scope d ≡ Some z
  whole_layer (P.Number n) t e h z is here d a = same_layer e d (E.Number n) z (h.0 ∙ sym (eform.rolls-Number n)) (number_back here d n a ∙ sym (eform.rolls-Number n)) is
  whole_layer (P.Var slot x) t e h z is here d a = same_layer e d (E.Word x) z (h.0 ∙ sym (eform.rolls-Word x)) (word_back here d x a ∙ sym (eform.rolls-Word x)) is
  whole_layer (P.Const c) t e h z is here d a = same_layer e d (E.Word h.0) z (h.1 ∙ sym (eform.rolls-Word h.0)) (word_back here d (R.const_name prog c) a ∙ ap eform.Word (const_back prog scope h.0 c h.2) ∙ sym (eform.rolls-Word h.0)) is
  whole_layer (P.Paren q) t e h z is here d a =
      let b = paren_back here d (printed_expr prog q.0) a in
      whole_at d (E.Paren b.0) (b.1 ∙ sym (eform.rolls-Paren b.0))
      ∙ q.1 h.0 h.2 z (sym (whole_at e (E.Paren h.0) (h.1 ∙ sym (eform.rolls-Paren h.0))) ∙ is) b.0 b.2
  whole_layer (P.Binary o q j) t e h z is here d a =
      let b = binary_back here d (mark_of o) (printed_expr prog q.0) (printed_expr prog j.0) a in
      let u = bind_some (whole_number one scope h.1) (λ x. whole_number one scope h.2 >>= λ y. computed h.0 x y) z (sym (whole_at e (E.Binary h.0 h.1 h.2) (h.3 ∙ sym (eform.rolls-Binary h.0 h.1 h.2))) ∙ is) in
      let v = bind_some (whole_number one scope h.2) (λ y. computed h.0 u.0 y) z u.2 in
      let x = q.1 h.1 h.5 u.0 u.1 b.0 b.3 in
      let y = j.1 h.2 h.6 v.0 v.1 b.1 b.4 in
      whole_at d (E.Binary (mark_of o) b.0 b.1) (b.2 ∙ sym (eform.rolls-Binary (mark_of o) b.0 b.1))
      ∙ ap (λ w. w >>= λ x. whole_number one scope b.1 >>= λ y. computed (mark_of o) x y) x
      ∙ ap (λ w. w >>= λ y. computed (mark_of o) u.0 y) y
      ∙ ap (λ k. computed k u.0 v.0) (mark_back h.0 o h.4)
      ∙ v.2
  whole_layer (P.ToInt q) t e h z is here d a = q.1 e h.0 z is d a
  whole_layer (P.Pad q) t e h z is here d a = q.1 e h.0 z is d a
  whole_layer P.True t e h z is here d a = absurd (no_whole e E.True z (h.0 ∙ sym eform.rolls-True) refl is)
  whole_layer P.False t e h z is here d a = absurd (no_whole e E.False z (h.0 ∙ sym eform.rolls-False) refl is)
  whole_layer P.Null t e h z is here d a = absurd (no_whole e E.Null z (h.0 ∙ sym eform.rolls-Null) refl is)
  whole_layer (P.Hole m) t e h z is here d a = absurd (no_whole e (E.Hole m) z (h.0 ∙ sym (eform.rolls-Hole m)) refl is)
  whole_layer (P.Pattern qs) t e h z is here d a = absurd (no_whole e (E.Pattern h.0 h.1) z (h.2 ∙ sym (eform.rolls-Pattern h.0 h.1)) refl is)
  whole_layer (P.Call g qs) t e h z is here d a = absurd (no_whole e (E.Call h.0 h.1) z (h.2 ∙ sym (eform.rolls-Call h.0 h.1)) refl is)
  whole_layer (P.New s qs) t e h z is here d a = absurd (no_whole e (E.New h.0 h.1) z (h.2 ∙ sym (eform.rolls-New h.0 h.1)) refl is)
  whole_layer (P.Braces qs) t e h z is here d a = absurd (no_whole e (E.Braces h.0) z (h.1 ∙ sym (eform.rolls-Braces h.0)) refl is)
  whole_layer (P.Member q s i) t e h z is here d a = absurd (no_whole e (E.Member h.0 h.1) z (h.2 ∙ sym (eform.rolls-Member h.0 h.1)) refl is)
  whole_layer (P.Index q j) t e h z is here d a = absurd (no_whole e (E.Index h.0 h.1) z (h.2 ∙ sym (eform.rolls-Index h.0 h.1)) refl is)
  whole_layer (P.Slice q j m) t e h z is here d a = absurd (no_whole e (E.Slice h.0 h.1 h.2) z (h.3 ∙ sym (eform.rolls-Slice h.0 h.1 h.2)) refl is)
  whole_layer (P.Unary o q) t e h z is here d a = absurd (no_whole e (E.Unary h.0 h.1) z (h.2 ∙ sym (eform.rolls-Unary h.0 h.1)) refl is)
  whole_layer (P.Cond c q j) t e h z is here d a = absurd (no_whole e (E.Cond h.0 h.1 h.2) z (h.3 ∙ sym (eform.rolls-Cond h.0 h.1 h.2)) refl is)

  whole_again : (p : PExpr) → ExprWhole p
  whole_again = pexpr_law FormWhole ExprWhole (λ q. Unit {0})
      (λ y t e m z is here d a. whole_layer y t e (subst (λ (M : EFormRule). M t e) (form_means_are one scope (whole_parts y)) m) z is here d (form_is (whole_parts y) here d a))
      (λ p h e m z is d a. h p.ty e (means_parts one scope p e m).1 z is p.span d (expr_is p d a))
      (λ q h. tt)

  pub constant_again : (p : PExpr) (e : Expr) → Means one scope p e → (n : ℕ) → constant_number one scope e ≡ Some n → (d : Expr) → Alike (printed_expr prog p) d → constant_number one scope d ≡ Some n
  constant_again p e m n h d a =
      let b = bind_some (whole_number one scope e) (natural bounds) n h in
      ap (λ o. o >>= natural bounds) (whole_again p e m b.0 b.1 d a) ∙ b.2

-- Counts

module _ (prog : Prog) (bounds : Bounds) (known again : List Known) (result : Option Ty) (scope : List Variable) (good : AreDistinct (top_of prog)) where
  abbrev first : Context
  first = record { bounds = bounds; top = top_of prog; known = known }

  abbrev second : Context
  second = record { bounds = bounds; top = top_of prog; known = again }

  pub record CountAgain (p : PExpr) (d : Expr) : Type 0 where
    pub made : PExpr
    pub means : CountMeans second result scope made d
    pub same : W.spanless_expr made ≡ W.spanless_expr p

  pub count_again : (p : PExpr) (e : Expr) → CountMeans first result scope p e → (d : Expr) → Alike (printed_expr prog p) d → CountAgain p d
  count_again p e (inl m) d a =
      let r = expr_again prog bounds known again scope good p e (m.2).means d a in
      record { made = r.made; means = inl (m.0, hole_again prog bounds known scope p e (m.2).means m.0 m.1 d a, record { means = r.means; type = r.type ∙ (m.2).type }); same = r.same }
  count_again p e (inr m) d a =
      let n = m.0 in
      let shown : printed_expr prog p ≡ at (eform.Number n) e.span = ap (printed_expr prog) m.3 ∙ printed_at prog first e.span (Some int) (pform.Number n) (P.Number n) (pform.rolls-Number n) in
      let k : Alike (at (eform.Number n) nowhere) d = a ∙ ap spanless_expr shown ∙ number_anywhere e.span n in
      let q : PExpr = record { span = d.span; ty = Some int; form = pform.Number n } in
      record {
        made = q;
        means = inr (n, number_again prog bounds known again scope good e d n m.1 k, m.2, refl);
        same = off_at d.span (Some int) (pform.Number n) ∙ sym (off_at e.span (Some int) (pform.Number n)) ∙ ap W.spanless_expr (sym m.3);
      }
