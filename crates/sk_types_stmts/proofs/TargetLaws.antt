-- Whether an expression stands at a type, by what it becomes there, and the types of targets, form by form.
use Rattle.std.proofs.Common.{◌≡◌, ◌≢◌, ℕ, ◌+◌, ◌<◌, List, [], ◌∷◌, ◌++◌, length, drop, get_or, true, false, Option, Some, None, refl, sym, ap, ◌∙◌}
use Rattle.std.specs.Prelude.{if◌then◌else◌}
use Rattle.std.specs.Option.{is_some}
use Rattle.sk_tree.specs.declared.pattern.Pattern.{Pattern}
use Rattle.sk_tree.specs.declared.expr.Expr.{Expr}
use Rattle.sk_tree.specs.declared.expr.EForm.{EForm}
use Rattle.sk_tree.specs.declared.expr.EForm.TheVariants as eform
use Rattle.sk_tree.specs.declared.expr.EForm.TheOpen as E
use Rattle.sk_tree.specs.declared.expr.EForm.TheViews.{roll-EForm}
use Rattle.sk_tree.specs.declared.expr.EForm.TheFolds.{map-EForm, para-NewField, para-roll-EForm, para-roll-Expr, fold-roll-EForm}
use Rattle.sk_tree.specs.declared.expr.NewField.{NewField}
use Rattle.sk_prog.specs.declared.ty.Ty.{Ty}
use Rattle.sk_prog.specs.declared.expr.PExpr.{PExpr}
use Rattle.sk_types_rules.specs.declared.rules.Own.TheVariants.{Firm}
use Rattle.sk_types_rules.specs.declared.scope.Variable.{Variable}
use Rattle.sk_types_rules.specs.Rules.{◌>>=◌}
use Rattle.sk_types_rules.specs.Scope.{Context}
use Rattle.sk_types_rules.specs.Sorts.{sort, reference_meant, member_of, is_some_type, eform_target, target_type, first_target, kept_targets}
use Rattle.sk_types_laws.specs.declared.fault.Typing.{Typing}
use Rattle.sk_types_laws.specs.declared.fault.Typing.TheVariants.{Fault, Memory}
use Rattle.sk_types_laws.specs.Elaborate.{At, Setting, all_at}
use Rattle.sk_types_laws.specs.Parts.{Part, FormPart, eform_part, expr_part, set_part, form_part, part, ats}
use Rattle.sk_types_laws.specs.Making.{strings_in, pattern_target, form_target, target_in, target_at}
use Rattle.sk_types_laws.proofs.Ats.{expr_law}
use Rattle.sk_types_laws.proofs.Stands.{stands}
use Rattle.sk_types_laws.proofs.Stands.{is_some as is_made}
use Rattle.sk_types_laws.proofs.Joined.{part_at}
use Rattle.sk_types_laws.proofs.Views.{strings_of, strings_found}
use Rattle.sk_types_names.specs.Gives.{Fails}
use Rattle.sk_types_names.proofs.Places.{split_at}
use Rattle.sk_types_names.proofs.Follows.{one_more}
use Rattle.sk_types_stmts.specs.Targets.{form_target_type, element_target}

made : {X : Type 0} (o : Option X) → is_made o ≡ is_some o
made None = refl
made (Some x) = refl

module _ (context : Context) (scope : List Variable) where
  pub stands_if : (t : Ty) (e : Expr) → (sort context scope e).at t ≡ is_some ((part context scope e).at t)
  stands_if t e = stands context scope e t ∙ ap (λ (f : At). is_made (f t)) (sym (part_at context scope e)) ∙ made ((part context scope e).at t)

  -- Layers

  abbrev no_field : NewField → Unit {0}
  no_field = para-NewField (Option Ty) (Option Ty) (Unit {0}) (eform_target context scope) (λ x. x.form.1) (λ x. tt)

  abbrev layer : E.EForm-F EForm Expr NewField → Option Ty
  layer l = eform_target context scope (map-EForm EForm Expr NewField (EForm × Option Ty) (Expr × Option Ty) (NewField × Unit {0}) (λ f. (f, form_target_type context scope f)) (λ e. (e, target_type context scope e)) (λ x. (x, no_field x)) l)

  rolled : (f : EForm) (l : E.EForm-F EForm Expr NewField) → roll-EForm l ≡ f → form_target_type context scope f ≡ layer l
  rolled f l is = ap (form_target_type context scope) (sym is) ∙ para-roll-EForm (Option Ty) (Option Ty) (Unit {0}) (eform_target context scope) (λ x. x.form.1) (λ x. tt) l

  -- the type of a target is that of its form
  pub target_is : (e : Expr) → target_type context scope e ≡ form_target_type context scope e.form
  target_is e = para-roll-Expr (Option Ty) (Option Ty) (Unit {0}) (eform_target context scope) (λ x. x.form.1) (λ x. tt) (record { span = e.span; form = e.form })

  pub word_target : (f : EForm) (x : List ℕ) → f ≡ eform.Word x → form_target_type context scope f ≡ (form_part context scope f).variable
  word_target f x is =
      rolled f (E.Word x) (eform.rolls-Word x ∙ sym is)
      ∙ ap (λ (p : FormPart). p.variable) (sym (fold-roll-EForm FormPart Part Setting (eform_part context scope) expr_part set_part (E.Word x)) ∙ ap (form_part context scope) (eform.rolls-Word x ∙ sym is))

  member_target : (f : EForm) (e : Expr) (x : List ℕ) → f ≡ eform.Member e x → form_target_type context scope f ≡ (target_type context scope e >>= λ t. member_of context.top (reference_meant (Firm t)) x)
  member_target f e x is = rolled f (E.Member e x) (eform.rolls-Member e x ∙ sym is)

  pub member_none : (f : EForm) (e : Expr) (x : List ℕ) → f ≡ eform.Member e x → target_type context scope e ≡ None → form_target_type context scope f ≡ None
  member_none f e x is h = member_target f e x is ∙ ap (λ o. o >>= λ t. member_of context.top (reference_meant (Firm t)) x) h

  pub member_some : (f : EForm) (e : Expr) (x : List ℕ) (t : Ty) → f ≡ eform.Member e x → target_type context scope e ≡ Some t → form_target_type context scope f ≡ member_of context.top (reference_meant (Firm t)) x
  member_some f e x t is h = member_target f e x is ∙ ap (λ o. o >>= λ t. member_of context.top (reference_meant (Firm t)) x) h

  pub index_target : (f : EForm) (e i : Expr) (o : Option Ty) → f ≡ eform.Index e i → target_type context scope e ≡ o → form_target_type context scope f ≡ element_target (sort context scope i) o
  index_target f e i o is h = rolled f (E.Index e i) (eform.rolls-Index e i ∙ sym is) ∙ ap (element_target (sort context scope i)) h

  -- no other form is a target

  abbrev NoTarget : EForm → Type 0
  NoTarget f = ((x : List ℕ) → f ≢ eform.Word x) → ((e : Expr) (x : List ℕ) → f ≢ eform.Member e x) → ((e i : Expr) → f ≢ eform.Index e i) → form_target_type context scope f ≡ None

  none_layer : (l : E.EForm-F EForm Expr NewField) → ((x : List ℕ) → roll-EForm l ≢ eform.Word x) → ((e : Expr) (x : List ℕ) → roll-EForm l ≢ eform.Member e x) → ((e i : Expr) → roll-EForm l ≢ eform.Index e i) → layer l ≡ None
  none_layer (E.Word x) w m i = absurd (w x (eform.rolls-Word x))
  none_layer (E.Member e x) w m i = absurd (m e x (eform.rolls-Member e x))
  none_layer (E.Index e k) w m i = absurd (i e k (eform.rolls-Index e k))
  none_layer _ w m i = refl

  none_of : (e : Expr) → NoTarget e.form
  none_of = expr_law NoTarget (λ e. NoTarget e.form) (λ x. Unit {0})
      (λ y w m i.
      let l = map-EForm ((f : EForm) × NoTarget f) ((e : Expr) × NoTarget e.form) (NewField × Unit {0}) EForm Expr NewField (λ q. q.0) (λ q. q.0) (λ q. q.0) y in
      rolled (roll-EForm l) l refl ∙ none_layer l w m i)
      (λ e h. h) (λ x h. tt)

  pub no_target : (f : EForm) → NoTarget f
  no_target f = none_of (record { span = record { from = 0; to = 0 }; form = f })

  -- Patterns as targets

  pub pattern_is : (e : Expr) (g : Pattern) (es : List Expr) → e.form ≡ eform.Pattern g es → target_type context scope e ≡ None → target_at context scope e ≡ pattern_target context scope e.span es (first_target context scope es)
  unfolding target_at
  pattern_is e g es is none =
      ap (target_in context scope e) none
      ∙ ap (form_target context scope e.span) is
      ∙ ap (λ o. o >>= λ es. pattern_target context scope e.span es (first_target context scope es)) (strings_of g es)

  pub no_pattern : (e : Expr) (why : Typing) → ((g : Pattern) (es : List Expr) → e.form ≢ eform.Pattern g es) → target_type context scope e ≡ None → Fails why (target_at context scope e)
  unfolding target_at
  no_pattern e Memory other none = tt
  no_pattern e (Fault f) other none = ap (target_in context scope e) none ∙ lost (strings_in e.form) refl
    where
      lost : (o : Option (List Expr)) → strings_in e.form ≡ o → (o >>= λ es. pattern_target context scope e.span es (first_target context scope es)) ≡ None
      lost None h = refl
      lost (Some es) h = let p = strings_found e es h in absurd (other p.0 es p.1)

  -- The targets of a type, one after another

  abbrev kept : Ty → List Expr → Option (List PExpr)
  kept t es = all_at t (ats context scope (kept_targets context scope t es))

  pub target_kept : (t : Ty) (es : List Expr) (i : ℕ) (made next : List PExpr) (e : Expr) (p : PExpr) → i < length es → e ≡ get_or es i e → is_some_type (target_type context scope e) t ≡ true → (part context scope e).at t ≡ Some p → next ≡ made ++ p ∷ [] → (kept t (drop i es) >>= λ rest. Some (made ++ rest)) ≡ (kept t (drop (i + 1) es) >>= λ rest. Some (next ++ rest))
  target_kept t es i made next e p h at is there more =
      ap (λ es. kept t es >>= λ rest. Some (made ++ rest)) (split_at es i e h at)
      ∙ ap (λ b. all_at t (ats context scope (if b then e ∷ kept_targets context scope t (drop (i + 1) es) else kept_targets context scope t (drop (i + 1) es))) >>= λ rest. Some (made ++ rest)) is
      ∙ ap (λ o. (o >>= λ p. kept t (drop (i + 1) es) >>= λ ps. Some (p ∷ ps)) >>= λ rest. Some (made ++ rest)) there
      ∙ one_more (kept t (drop (i + 1) es)) made p
      ∙ ap (λ made. kept t (drop (i + 1) es) >>= λ rest. Some (made ++ rest)) (sym more)

  pub target_passed : (t : Ty) (es : List Expr) (i : ℕ) (made next : List PExpr) (e : Expr) → i < length es → e ≡ get_or es i e → is_some_type (target_type context scope e) t ≡ false → next ≡ made → (kept t (drop i es) >>= λ rest. Some (made ++ rest)) ≡ (kept t (drop (i + 1) es) >>= λ rest. Some (next ++ rest))
  target_passed t es i made next e h at is same =
      ap (λ es. kept t es >>= λ rest. Some (made ++ rest)) (split_at es i e h at)
      ∙ ap (λ b. all_at t (ats context scope (if b then e ∷ kept_targets context scope t (drop (i + 1) es) else kept_targets context scope t (drop (i + 1) es))) >>= λ rest. Some (made ++ rest)) is
      ∙ ap (λ made. kept t (drop (i + 1) es) >>= λ rest. Some (made ++ rest)) (sym same)

  pub target_fails : (t : Ty) (es : List Expr) (i : ℕ) (made : List PExpr) (e : Expr) (why : Typing) (o : Option (List PExpr)) → i < length es → e ≡ get_or es i e → is_some_type (target_type context scope e) t ≡ true → o ≡ (kept t (drop i es) >>= λ rest. Some (made ++ rest)) → Fails why ((part context scope e).at t) → Fails why o
  target_fails t es i made e Memory o h at is from lost = tt
  target_fails t es i made e (Fault f) o h at is from lost =
      from
      ∙ ap (λ es. kept t es >>= λ rest. Some (made ++ rest)) (split_at es i e h at)
      ∙ ap (λ b. all_at t (ats context scope (if b then e ∷ kept_targets context scope t (drop (i + 1) es) else kept_targets context scope t (drop (i + 1) es))) >>= λ rest. Some (made ++ rest)) is
      ∙ ap (λ o. (o >>= λ p. kept t (drop (i + 1) es) >>= λ ps. Some (p ∷ ps)) >>= λ rest. Some (made ++ rest)) lost
