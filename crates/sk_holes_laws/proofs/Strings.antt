-- In the place of a pattern stands a string that keeps the rules.
use Rattle.std.proofs.Common.{◌≡◌, ℕ, zero, suc, Bool, true, false, List, [], ◌∷◌, Option, Some, inl, inr, refl, sym, ap, subst, ◌∙◌}
use Rattle.std.specs.Prelude.{if◌then◌else◌, slice_get, map}
use Rattle.sk_base.specs.declared.span.Span.{Span}
use Rattle.sk_tree.specs.declared.expr.Expr.{Expr}
use Rattle.sk_tree.specs.declared.expr.EForm.TheVariants as eform
use Rattle.sk_tree.specs.declared.expr.EForm.TheOpen as E
use Rattle.sk_tree.specs.Placed.{Place, alone, all_placed, place_of, expr_placed}
use Rattle.sk_prog.specs.declared.ty.Ty.{Ty}
use Rattle.sk_prog.specs.declared.expr.PExpr.{PExpr}
use Rattle.sk_prog.specs.declared.expr.PEForm.{PEForm}
use Rattle.sk_prog.specs.declared.expr.PEForm.TheVariants as pform
use Rattle.sk_prog.specs.declared.expr.PField.{PField}
use Rattle.sk_prog.specs.declared.expr.PEForm.TheOpen as P
use Rattle.sk_prog.specs.declared.expr.PEForm.TheViews.{roll-PEForm}
use Rattle.sk_prog.specs.declared.expr.PEForm.TheFolds.{map-PEForm}
use Rattle.sk_types_rules.specs.declared.rules.Own.{Own}
use Rattle.sk_types_rules.specs.declared.rules.Own.TheVariants.{Wrong, Loose, Firm}
use Rattle.sk_types_rules.specs.declared.rules.Fit.TheVariants.{Same, Pads}
use Rattle.sk_types_rules.specs.declared.scope.Variable.{Variable}
use Rattle.sk_types_rules.specs.Rules.{int, bit, fit_of}
use Rattle.sk_types_rules.specs.Scope.{Context}
use Rattle.sk_types_rules.specs.Sorts.{may_keep, keeps, own, sort, kept}
use Rattle.sk_types_rules.specs.Types.{EFormRule, Means, EachMeans, IsWidened, IsPadded}
use Rattle.sk_types_rules.proofs.Layers.{FormMeans, rule, form_means_are, means_parts, means_from}
use Rattle.sk_types_rules.proofs.SortLaws.{form_sort, form_sort_is, sort_is}
use Rattle.sk_types_laws.proofs.Ats.{both_true, ty_same, fit_same, pexpr_law}
use Rattle.sk_model.specs.Fill.{is_tight, spanned}
use Rattle.sk_holes_laws.proofs.Places.{place_at}
use Rattle.sk_holes_laws.specs.Owns.{Stays}
use Rattle.sk_holes_laws.specs.Holes.{IsFilled}
use Rattle.sk_holes_laws.specs.Strings.{IsString, KeptAreStrings, StringsFill}
use Rattle.sk_holes_laws.proofs.Holes.{mean}
use Rattle.sk_holes_laws.proofs.Places.{place_is}
use Rattle.sk_holes_laws.proofs.Tight.{tight_level}

-- No coercion stands over what is loose or of its type by itself.

not_widened : (x : Own) (t : Ty) (a o : Option Ty) → Stays Loose x t → o ≡ Some t → IsWidened x a o → ⊥
not_widened x t a o (inl loose) type w = let e : Loose ≡ Firm bit = sym loose ∙ w.own in cc
not_widened x t a o (inr firm) type w =
    let e : Firm t ≡ Firm bit = sym firm ∙ w.own in
    let f : Some t ≡ Some int = sym type ∙ w.result in
    cc

not_padded : (x : Own) (t : Ty) (a o : Option Ty) → Stays Loose x t → o ≡ Some t → IsPadded x a o → ⊥
not_padded x t a o (inl loose) type w = let e : Loose ≡ Firm w.from = sym loose ∙ w.own in cc
not_padded x t a o (inr firm) type w =
    let e : Firm t ≡ Firm w.from = sym firm ∙ w.own in
    let f : Some t ≡ Some w.to = sym type ∙ w.result in
    let from : w.from ≡ t = cc in
    let to : w.to ≡ t = cc in
    let same : Same ≡ Pads = sym (fit_same t) ∙ (λ i. fit_of (sym from i) (sym to i)) ∙ w.fit in
    cc

module _ (context : Context) (scope : List Variable) where
  -- With another span it means the same.

  abbrev pub respan : Span → Expr → Expr
  respan s e = record { span = s; form = e.form }

  own_respan : (s : Span) (e : Expr) → own context scope (respan s e) ≡ own context scope e
  own_respan s e = ap (λ z. z.own) (sort_is context scope (respan s e) ∙ sym (sort_is context scope e))

  respanned_rule : (l : P.PEForm-F PEForm PExpr PField) (t : Ty) (s : Span) (e : Expr) → Stays Loose (own context scope e) t → rule context scope l (Some t) e → rule context scope l (Some t) (respan s e)
  respanned_rule (P.ToInt a) t s e h r = absurd (not_widened (own context scope e) t a.ty (Some t) h refl r.2)
  respanned_rule (P.Pad a) t s e h r = absurd (not_padded (own context scope e) t a.ty (Some t) h refl r.2)
  respanned_rule _ t s e h r = r

  abbrev Respans : PEForm → Type 0
  Respans f = (t : Ty) (s : Span) (e : Expr) → Stays Loose (own context scope e) t → FormMeans context scope f (Some t) e → FormMeans context scope f (Some t) (respan s e)

  layer_respans : (l : P.PEForm-F PEForm PExpr PField) → Respans (roll-PEForm l)
  layer_respans l t s e h m = subst (λ (M : EFormRule). M (Some t) (respan s e)) (sym (form_means_are context scope l)) (respanned_rule l t s e h (subst (λ (M : EFormRule). M (Some t) e) (form_means_are context scope l) m))

  form_respans : (p : PExpr) → Respans p.form
  form_respans = pexpr_law Respans (λ p. Respans p.form) (λ x. Unit {0}) (λ y. layer_respans (map-PEForm _ _ _ PEForm PExpr PField (λ q. q.0) (λ q. q.0) (λ q. q.0) y)) (λ p h. h) (λ x h. tt)

  pub respanned : (s : Span) (t : Ty) (p : PExpr) (e : Expr) → Means context scope p e → p.ty ≡ Some t → Stays Loose (own context scope e) t → Means context scope (spanned s p) (respan s e)
  respanned s t p e means type h =
      let form = subst (λ o. FormMeans context scope p.form o e) type (means_parts context scope p e means).1 in
      means_from context scope (spanned s p) (respan s e) refl (subst (λ o. FormMeans context scope p.form o (respan s e)) (sym type) (form_respans p t s e h form))

  -- The chosen string

  abbrev paren : Span → Expr → Expr
  paren s e = record { span = s; form = eform.Paren e }

  own_paren : (s : Span) (e : Expr) → own context scope (paren s e) ≡ own context scope e
  own_paren s e = ap (λ z. z.own) (sort_is context scope (paren s e) ∙ ap (form_sort context scope) (sym (eform.rolls-Paren e)) ∙ form_sort_is context scope (E.Paren e))

  place_respan : (s : Span) (e : Expr) → place_of (respan s e) ≡ place_of e
  place_respan s e = place_is (respan s e) ∙ sym (place_is e)

  paren_place : (s : Span) (e : Expr) → place_of (paren s e) ≡ alone (expr_placed e)
  paren_place s e = place_at (paren s e) (E.Paren e) (sym (eform.rolls-Paren e))

  string_fills : (t : Ty) (p : PExpr) (s : Span) (h : IsString context scope t p) (b : Bool) → is_tight p ≡ b → IsFilled context scope (if b then spanned s p else record { span = s; ty = Some t; form = pform.Paren (spanned s p) }) t
  string_fills t p s h true is = record {
    tree = respan s h.tree;
    means = respanned s t p h.tree h.means h.type h.own;
    type = h.type;
    own = subst (λ o. Stays Loose o t) (sym (own_respan s h.tree)) h.own;
    level = ap (λ (a : Place). a.level) (place_respan s h.tree) ∙ tight_level context scope p h.tree h.means is;
    placed = ap (λ (a : Place). a.placed) (place_respan s h.tree) ∙ h.placed;
  }
  string_fills t p s h false is = record {
    tree = paren s (respan s h.tree);
    means = mean context scope (P.Paren (spanned s p)) (pform.Paren (spanned s p)) (pform.rolls-Paren (spanned s p)) (Some t) (paren s (respan s h.tree)) (respan s h.tree, refl, respanned s t p h.tree h.means h.type h.own, t, h.type, refl);
    type = refl;
    own = subst (λ o. Stays Loose o t) (sym (own_paren s (respan s h.tree) ∙ own_respan s h.tree)) h.own;
    level = ap (λ (a : Place). a.level) (paren_place s (respan s h.tree));
    placed = ap (λ (a : Place). a.placed) (paren_place s (respan s h.tree)) ∙ ap (λ (a : Place). a.placed) (place_respan s h.tree) ∙ h.placed;
  }

  -- The strings that are kept

  kept_own : (x : Own) (t : Ty) → may_keep x t ≡ true → Stays Loose x t
  kept_own Wrong t h = cc
  kept_own Loose t h = inl refl
  kept_own (Firm u) t h = inr (ap Firm (ty_same u t h))

  string_of : (t : Ty) (p : PExpr) (e : Expr) → keeps (sort context scope e) t ≡ true → Means context scope p e → p.ty ≡ Some t → expr_placed e ≡ true → IsString context scope t p
  string_of t p e h means type placed = record { tree = e; means = means; type = type; own = kept_own (own context scope e) t (both_true _ _ h).0; placed = placed }

  abbrev AreStrings : Ty → List PExpr → Type 0
  AreStrings t ps = (n : ℕ) (p : PExpr) → slice_get ps n ≡ Some p → IsString context scope t p

  abbrev KeptStrings : Ty → List Expr → Type 0
  KeptStrings t es = (ps : List PExpr) → EachMeans (λ p. p) (Means context scope) t ps es → AreStrings t ps

  one_kept : (t : Ty) (e : Expr) (es : List Expr) → expr_placed e ≡ true → KeptStrings t es → (b : Bool) → keeps (sort context scope e) t ≡ b → KeptStrings t (if b then e ∷ es else es)
  one_kept t e es placed rest false is ps m n p h = rest ps m n p h
  one_kept t e es placed rest true is [] m n p h = absurd m
  one_kept t e es placed rest true is (q ∷ qs) m zero p h =
      let same : q ≡ p = cc in
      subst (λ p. IsString context scope t p) same (string_of t q e is m.0 m.1 placed)
  one_kept t e es placed rest true is (q ∷ qs) m (suc n) p h = rest qs m.2 n p h

  kept_strings : (t : Ty) (es : List Expr) → all_placed (map place_of es) ≡ true → KeptStrings t (kept context scope t es)
  kept_strings t [] placed [] m n p h = cc
  kept_strings t [] placed (q ∷ qs) m n p h = absurd m
  kept_strings t (e ∷ es) placed ps m n p h =
      let both = both_true (expr_placed e) (all_placed (map place_of es)) placed in
      one_kept t e (kept context scope t es) both.0 (kept_strings t es both.1) (keeps (sort context scope e) t) refl ps m n p h

pub strings_fill : StringsFill
strings_fill context scope t p span h = string_fills context scope t p span h (is_tight p) refl

pub kept_are_strings : KeptAreStrings
kept_are_strings context scope t es ps m placed n p h = kept_strings context scope t es placed ps m n p h
