-- A filled target is a target of the same type.
use Rattle.std.proofs.Common.{◌≡◌, ◌<◌, ℕ, zero, suc, ◌+◌, Bool, true, false, List, [], ◌∷◌, map, length, Option, Some, None, inl, inr, refl, sym, ap, subst, ◌∙◌, arith}
use Rattle.std.specs.Prelude.{if◌then◌else◌, slice_get}
use Rattle.std.proofs.lemmas.Bool.{and_parts}
use Rattle.std.proofs.lemmas.List.{length-map}
use Rattle.sk_base.specs.declared.span.Span.{Span}
use Rattle.sk_tree.specs.declared.expr.Expr.{Expr}
use Rattle.sk_tree.specs.declared.expr.NewField.{NewField}
use Rattle.sk_tree.specs.declared.expr.EForm.{EForm}
use Rattle.sk_tree.specs.declared.expr.EForm.TheVariants as tform
use Rattle.sk_tree.specs.declared.expr.EForm.TheOpen as E
use Rattle.sk_tree.specs.declared.expr.EForm.TheViews as T
use Rattle.sk_tree.specs.declared.expr.EForm.TheFolds.{map-EForm, para-roll-Expr}
use Rattle.sk_tree.specs.Placed.{Place, all_placed, place_of, expr_placed}
use Rattle.sk_prog.specs.declared.ty.Ty.{Ty}
use Rattle.sk_prog.specs.declared.expr.PExpr.{PExpr}
use Rattle.sk_prog.specs.declared.expr.PField.{PField}
use Rattle.sk_prog.specs.declared.expr.PEForm.{PEForm}
use Rattle.sk_prog.specs.declared.expr.PEForm.TheVariants as eform
use Rattle.sk_prog.specs.declared.expr.PEForm.TheOpen as P
use Rattle.sk_prog.specs.declared.expr.PEForm.TheViews as V
use Rattle.sk_prog.specs.declared.expr.PEForm.TheFolds.{map-PEForm, fold-PEForm, fold-PField, fold-roll-PEForm, fold-roll-PExpr}
use Rattle.sk_types_rules.specs.declared.rules.Own.TheVariants.{Firm}
use Rattle.sk_types_rules.specs.declared.scope.Variable.{Variable}
use Rattle.sk_types_rules.specs.declared.scope.Place.{Place as Slot}
use Rattle.sk_types_rules.specs.Rules.{◌>>=◌, int, element_of}
use Rattle.sk_types_rules.specs.Scope.{lookup, Context, meaning_of, variable_or, top_meaning}
use Rattle.sk_types_rules.specs.Sorts.{Sort, named, eform_sort, sort, own, is_some_type, variable_type, eform_target, target_type, member_of, reference_meant, array_meant, kept_targets}
use Rattle.sk_types_rules.specs.Types.{EFormRule, EachMeans, Means, IsPlace, IsTarget}
use Rattle.sk_types_rules.proofs.Layers.{FormMeans, rule, form_means_are, means_parts}
use Rattle.sk_types_rules.proofs.SortLaws.{form_sort, field_sort, form_sort_is, sort_is}
use Rattle.sk_types_laws.specs.Owns.{own_type}
use Rattle.sk_types_laws.proofs.Ats.{bind_some, if_some, some_same, ty_same, expr_law, pexpr_law}
use Rattle.sk_types_laws.proofs.OwnLaws.{firm_own}
use Rattle.sk_model.specs.declared.expanded.Site.{Site}
use Rattle.sk_model.specs.Parts.{Part, rank, pick, value, joined}
use Rattle.sk_model.specs.Sites.{eform_sites, expr_sites}
use Rattle.sk_model.specs.Stands.{Standing, in_row, only, eform_standing, expr_standing}
use Rattle.sk_model.specs.Fill.{Opened, chosen, no_string, tight_form, is_tight, spanned, eform_part, expr_step, field_step, expr_part}
use Rattle.sk_model.proofs.Layers.{expr_layer}
use Rattle.sk_holes_laws.specs.Holes.{Below}
use Rattle.sk_holes_laws.specs.Keeping.{SaidAt, SaidTarget}
use Rattle.sk_holes_laws.specs.Sizes.{Sized, AnySized, SizedScope}
use Rattle.sk_holes_laws.specs.Filling.{context_with, Every}
use Rattle.sk_holes_laws.specs.Fillings.{Filling, StandsIn, IsSet, ExprReady, ExprsFill, TargetsFill}
use Rattle.sk_holes_laws.proofs.Places.{Layer, place_is, opened, AllPlaced, form_target, targets_of, target_at, no_target}
use Rattle.sk_holes_laws.proofs.Strings.{respanned}
use Rattle.sk_holes_laws.proofs.Rows.{below_append, every_append}
use Rattle.sk_holes_laws.proofs.Exprs.{ExprFills, expr_fills}

module _ (context : Context) (scope : List Variable) where
  abbrev sorted : Layer → E.EForm-F (EForm × Sort) (Expr × Sort) (NewField × Sort)
  sorted l = map-EForm EForm Expr NewField (EForm × Sort) (Expr × Sort) (NewField × Sort) (λ f. (f, form_sort context scope f)) (λ e. (e, sort context scope e)) (λ x. (x, field_sort context scope x)) l

  -- A target has its type by itself.

  abbrev FormOwn : EForm → Type 0
  FormOwn f = (t : Ty) → form_target context scope f ≡ Some t → (form_sort context scope f).own ≡ Firm t

  abbrev ExprOwn : Expr → Type 0
  ExprOwn e = (t : Ty) → target_type context scope e ≡ Some t → own context scope e ≡ Firm t

  abbrev Above : Type 0
  Above = E.EForm-F ((f : EForm) × FormOwn f) ((e : Expr) × ExprOwn e) (NewField × Unit {0})

  abbrev below : Above → Layer
  below y = map-EForm ((f : EForm) × FormOwn f) ((e : Expr) × ExprOwn e) (NewField × Unit {0}) EForm Expr NewField (λ q. q.0) (λ q. q.0) (λ q. q.0) y

  word_own : (x : List ℕ) (t : Ty) → variable_type scope (tform.Word x) ≡ Some t → (named (meaning_of context.top scope x)).own ≡ Firm t
  word_own x t h = go (lookup scope x) h
    where
      go : (o : Option Slot) → (o >>= λ v. Some v.ty) ≡ Some t → (named (variable_or o (top_meaning context.top x))).own ≡ Firm t
      go None h = cc
      go (Some v) h = ap Firm (some_same v.ty t h)

  target_layer : (y : Above) (t : Ty) → eform_target context scope (targets_of context scope (below y)) ≡ Some t → (eform_sort context scope (sorted (below y))).own ≡ Firm t
  target_layer (E.Word x) t h = word_own x t h
  target_layer (E.Member e x) t h =
      let z = bind_some (target_type context scope e.0) (λ t. member_of context.top (reference_meant (Firm t)) x) t h in
      firm_own (member_of context.top (reference_meant (own context scope e.0)) x) _
      ∙ ap (λ o. own_type (member_of context.top (reference_meant o) x)) (e.1 z.0 z.1)
      ∙ ap own_type z.2
  target_layer (E.Index e i) t h =
      let z = bind_some (target_type context scope e.0) (λ t. if (sort context scope i.0).at int then element_of t else None) t h in
      let g = if_some ((sort context scope i.0).at int) (element_of z.0) t z.2 in
      firm_own (array_meant (own context scope e.0)) _
      ∙ ap (λ o. own_type (array_meant o)) (e.1 z.0 z.1)
      ∙ ap own_type g.1
  target_layer (E.Number n) t h = cc
  target_layer E.True t h = cc
  target_layer E.False t h = cc
  target_layer E.Null t h = cc
  target_layer (E.Hole n) t h = cc
  target_layer (E.Pattern g es) t h = cc
  target_layer (E.Paren e) t h = cc
  target_layer (E.Call x es) t h = cc
  target_layer (E.New x xs) t h = cc
  target_layer (E.Braces es) t h = cc
  target_layer (E.Slice e i n) t h = cc
  target_layer (E.Unary m e) t h = cc
  target_layer (E.Binary m a b) t h = cc
  target_layer (E.Cond c a b) t h = cc

  target_is : (e : Expr) → target_type context scope e ≡ form_target context scope e.form
  target_is e = para-roll-Expr (Option Ty) (Option Ty) (Unit {0}) (eform_target context scope) (λ x. x.form.1) (λ x. tt) (record { span = e.span; form = e.form })

  layer_target : (l : Layer) → form_target context scope (T.roll-EForm l) ≡ eform_target context scope (targets_of context scope l)
  layer_target l =
      let s : Span = record { from = 0; to = 0 } in
      sym (target_is (record { span = s; form = T.roll-EForm l })) ∙ target_at context scope (record { span = s; form = T.roll-EForm l }) l refl

  pub target_own : (e : Expr) → ExprOwn e
  target_own = expr_law FormOwn ExprOwn (λ x. Unit {0})
      (λ y t h. ap (λ (z : Sort). z.own) (form_sort_is context scope (below y)) ∙ target_layer y t (sym (layer_target (below y)) ∙ h))
      (λ e k t h. ap (λ (z : Sort). z.own) (sort_is context scope e) ∙ k t (sym (target_is e) ∙ h))
      (λ x h. tt)

  -- What means a target is of the tightest level, so it stands without parentheses.

  abbrev tight_of : PEForm → Bool
  tight_of = fold-PEForm Bool Bool (Unit {0}) tight_form (λ e. e.form) (λ x. tt)

  abbrev tight_field : PField → Unit {0}
  tight_field = fold-PField Bool Bool (Unit {0}) tight_form (λ e. e.form) (λ x. tt)

  abbrev FormTight : PEForm → Type 0
  FormTight f = (t : Option Ty) (e : Expr) → FormMeans context scope f t e → (u : Ty) → target_type context scope e ≡ Some u → tight_of f ≡ true

  abbrev ExprTight : PExpr → Type 0
  ExprTight p = (e : Expr) → Means context scope p e → (u : Ty) → target_type context scope e ≡ Some u → is_tight p ≡ true

  abbrev Parts : Type 0
  Parts = P.PEForm-F ((f : PEForm) × FormTight f) ((p : PExpr) × ExprTight p) (PField × Unit {0})

  abbrev parts : Parts → P.PEForm-F PEForm PExpr PField
  parts y = map-PEForm ((f : PEForm) × FormTight f) ((p : PExpr) × ExprTight p) (PField × Unit {0}) PEForm PExpr PField (λ q. q.0) (λ q. q.0) (λ q. q.0) y

  abbrev tights : P.PEForm-F PEForm PExpr PField → P.PEForm-F Bool Bool (Unit {0})
  tights l = map-PEForm PEForm PExpr PField Bool Bool (Unit {0}) tight_of is_tight tight_field l

  layer : (y : Parts) (t : Option Ty) (e : Expr) → rule context scope (parts y) t e → (u : Ty) → target_type context scope e ≡ Some u → tight_form (tights (parts y)) ≡ true
  layer (P.Unary o q) t e h u is = absurd (no_target context scope e (E.Unary h.0 h.1) u (h.2 ∙ sym (tform.rolls-Unary h.0 h.1)) refl is)
  layer (P.Binary o q j) t e h u is = absurd (no_target context scope e (E.Binary h.0 h.1 h.2) u (h.3 ∙ sym (tform.rolls-Binary h.0 h.1 h.2)) refl is)
  layer (P.Cond z q j) t e h u is = absurd (no_target context scope e (E.Cond h.0 h.1 h.2) u (h.3 ∙ sym (tform.rolls-Cond h.0 h.1 h.2)) refl is)
  layer (P.ToInt q) t e h u is = q.1 e h.0 u is
  layer (P.Pad q) t e h u is = q.1 e h.0 u is
  layer _ t e h u is = refl

  pub target_tight : (p : PExpr) → ExprTight p
  target_tight = pexpr_law FormTight ExprTight (λ q. Unit {0})
      (λ y t e m u is. fold-roll-PEForm Bool Bool (Unit {0}) tight_form (λ e. e.form) (λ x. tt) (parts y) ∙ layer y t e (subst (λ (M : EFormRule). M t e) (form_means_are context scope (parts y)) m) u is)
      (λ p h e m u is. fold-roll-PExpr Bool Bool (Unit {0}) tight_form (λ e. e.form) (λ x. tt) (record { span = p.span; ty = p.ty; form = p.form }) ∙ h p.ty e (means_parts context scope p e m).1 u is)
      (λ q h. tt)

  -- The strings of a pattern that is a target

  pub record IsTargetString (t : Ty) (p : PExpr) : Type 0 where
    pub tree : Expr
    pub means : Means context scope p tree
    pub type : p.ty ≡ Some t
    pub target : target_type context scope tree ≡ Some t
    pub placed : expr_placed tree ≡ true

  some_type : (o : Option Ty) (t : Ty) → is_some_type o t ≡ true → o ≡ Some t
  some_type None t h = cc
  some_type (Some u) t h = ap Some (ty_same u t h)

  abbrev pub AreTargets : Ty → List PExpr → Type 0
  AreTargets t ps = (n : ℕ) (p : PExpr) → slice_get ps n ≡ Some p → IsTargetString t p

  abbrev KeptTargets : Ty → List Expr → Type 0
  KeptTargets t es = (ps : List PExpr) → EachMeans (λ q. q) (Means context scope) t ps es → AreTargets t ps

  one_target : (t : Ty) (e : Expr) (es : List Expr) → expr_placed e ≡ true → KeptTargets t es → (b : Bool) → is_some_type (target_type context scope e) t ≡ b → KeptTargets t (if b then e ∷ es else es)
  one_target t e es placed rest false is ps m n p h = rest ps m n p h
  one_target t e es placed rest true is [] m n p h = absurd m
  one_target t e es placed rest true is (q ∷ qs) m zero p h =
      let same : q ≡ p = cc in
      subst (λ p. IsTargetString t p) same (record { tree = e; means = m.0; type = m.1; target = some_type (target_type context scope e) t is; placed = placed })
  one_target t e es placed rest true is (q ∷ qs) m (suc n) p h = rest qs m.2 n p h

  pub kept_are_targets : (t : Ty) (es : List Expr) → AllPlaced es → KeptTargets t (kept_targets context scope t es)
  kept_are_targets t [] placed [] m n p h = cc
  kept_are_targets t [] placed (q ∷ qs) m n p h = absurd m
  kept_are_targets t (e ∷ es) placed ps m n p h =
      let both = and_parts (expr_placed e) (all_placed (map place_of es)) placed in
      one_target t e (kept_targets context scope t es) both.0 (kept_are_targets t es both.1) (is_some_type (target_type context scope e) t) refl ps m n p h

  -- The chosen string is a target, with another span.

  pub target_chosen : (t : Ty) (s : Span) (p : PExpr) → IsTargetString t p → SaidTarget context scope t (chosen (Some t) s p)
  target_chosen t s p h =
      let tree : Expr = record { span = s; form = (h.tree).form } in
      let firm = target_own h.tree t h.target in
      let means = respanned context scope s t p h.tree h.means h.type (inr firm) in
      let target = target_is tree ∙ sym (target_is h.tree) ∙ h.target in
      let placed = ap (λ (a : Place). a.placed) (place_is tree ∙ sym (place_is h.tree)) ∙ h.placed in
      subst (λ b. SaidTarget context scope t (if b then spanned s p else record { span = s; ty = Some t; form = eform.Paren (spanned s p) })) (sym (target_tight p h.tree h.means t h.target))
      (record { tree = tree; target = inl (record { is_at = record { means = means; type = h.type }; target = target }); placed = placed })

module _ (f : Filling) (setting : IsSet f) (scope : List Variable) (variables : SizedScope scope) where
  abbrev one : Context
  one = context_with f.bounds f.structs f.consts f.funs f.known

  abbrev two : Context
  two = context_with f.bounds f.structs f.consts f.again f.all

  abbrev filled : (p : PExpr) → ExprFills f.bounds f.structs f.consts f.funs f.again f.known f.all (StandsIn f) (rank f.stands) setting f.values scope variables p
  filled p = expr_fills f.bounds f.structs f.consts f.funs f.again f.known f.all (StandsIn f) (rank f.stands) setting f.values scope variables p

  pub said_fills : (t : Ty) → Sized t → (p : PExpr) (i : ℕ) → ExprReady f p i → SaidAt one scope t p → SaidAt two scope t ((expr_part f.values (rank f.stands) p).at i)
  said_fills t sized p i ready h =
      let r = (filled p).fills (h.said).tree i (h.said).means (h.said).placed (subst AnySized (sym h.type) sized) ready in
      record { said = record { tree = r.tree; means = r.means; placed = (r.place).placed }; type = r.type ∙ h.type }

  string_fills : (t : Ty) → Sized t → (p : PExpr) → IsTargetString one scope t p → (i : ℕ) → ExprReady f p i → IsTargetString two scope t ((expr_part f.values (rank f.stands) p).at i)
  string_fills t sized p h i ready =
      let r = (filled p).fills h.tree i h.means h.placed (subst AnySized (sym h.type) sized) ready in
      record { tree = r.tree; means = r.means; type = r.type ∙ h.type; target = r.target t h.target; placed = (r.place).placed }

  strings_fill : (t : Ty) → Sized t → (ps : List PExpr) → AreTargets one scope t ps → (v i : ℕ) → v < length ps
      → Below f.values i (joined (map (expr_sites f.bounds) ps)) → Every (StandsIn f) ((in_row (only v (map (expr_standing f.values) ps))).at i).called
      → IsTargetString two scope t (pick no_string (map (expr_part f.values (rank f.stands)) ps) v i)
  strings_fill t sized [] h v i l b c = absurd (omega (arith, l))
  strings_fill t sized (p ∷ ps) h zero i l b c =
      let both = below_append f.values (expr_sites f.bounds p) (joined (map (expr_sites f.bounds) ps)) i b in
      let called = every_append (StandsIn f) ((expr_standing f.values p).at i).called _ c in
      string_fills t sized p (h 0 p refl) i (both.0, called.0)
  strings_fill t sized (p ∷ ps) h (suc v) i l b c =
      let both = below_append f.values (expr_sites f.bounds p) (joined (map (expr_sites f.bounds) ps)) i b in
      let counted = (filled p).counted in
      strings_fill t sized ps (λ n q is. h (suc n) q is) v (i + (expr_part f.values (rank f.stands) p).count) (omega (arith, l))
      (subst (λ n. Below f.values (i + n) (joined (map (expr_sites f.bounds) ps))) counted.sites both.1)
      (subst (λ n. Every (StandsIn f) ((in_row (only v (map (expr_standing f.values) ps))).at (i + n)).called) counted.standing c)

  place_fills : (t : Ty) → Sized t → (p : PExpr) (e : Expr) → IsPlace one scope t p e → expr_placed e ≡ true → (i : ℕ) → ExprReady f p i → SaidTarget two scope t ((expr_part f.values (rank f.stands) p).at i)
  place_fills t sized p e h placed i ready =
      let at = h.is_at in
      let r = (filled p).fills e i at.means placed (subst AnySized (sym at.type) sized) ready in
      record { tree = r.tree; target = inl (record { is_at = record { means = r.means; type = r.type ∙ at.type }; target = r.target t h.target }); placed = (r.place).placed }

  pattern_fills : (t : Ty) → Sized t → (s : Span) (ps : List PExpr) → AreTargets one scope t ps → (i : ℕ) → ExprReady f (record { span = s; ty = Some t; form = eform.Pattern ps }) i → SaidTarget two scope t ((expr_part f.values (rank f.stands) (record { span = s; ty = Some t; form = eform.Pattern ps })).at i)
  pattern_fills t sized s ps h i ready =
      let p : PExpr = record { span = s; ty = Some t; form = eform.Pattern ps } in
      let sites_are = expr_layer (Option Ty → Span → List Site) (List Site) (List Site) (eform_sites f.bounds) (λ e. e.form e.ty e.span) (λ x. x.value) (P.Pattern ps) (eform.Pattern ps) (V.rolls-Pattern ps) s (Some t) in
      let standing_is = expr_layer (Option Ty → Part Standing) (Part Standing) (Part Standing) (eform_standing f.values) (λ e. e.form e.ty) (λ x. x.value) (P.Pattern ps) (eform.Pattern ps) (V.rolls-Pattern ps) s (Some t) in
      let part_is = expr_layer (Opened f.values (rank f.stands)) (Part PExpr) (Part PField) (eform_part f.values (rank f.stands)) (expr_step f.values (rank f.stands)) (field_step f.values (rank f.stands)) (P.Pattern ps) (eform.Pattern ps) (V.rolls-Pattern ps) s (Some t) in
      let b = subst (λ (S : List Site). Below f.values i S) sites_are ready.0 in
      let c = subst (λ (S : Part Standing). Every (StandsIn f) (S.at i).called) standing_is ready.1 in
      let v = value f.values i in
      let under : v < length (map (expr_sites f.bounds) ps) = b.0 in
      let short : length (map (expr_sites f.bounds) ps) ≡ length ps = length-map ps (expr_sites f.bounds) in
      let q = strings_fill t sized ps h v (i + 1) (omega (arith, under, short)) b.1 c in
      subst (λ (S : Part PExpr). SaidTarget two scope t (S.at i)) (sym part_is) (target_chosen two scope t s (pick no_string (map (expr_part f.values (rank f.stands)) ps) v (i + 1)) q)

  pub target_fills : (t : Ty) → Sized t → (p : PExpr) (i : ℕ) → ExprReady f p i → SaidTarget one scope t p → SaidTarget two scope t ((expr_part f.values (rank f.stands) p).at i)
  target_fills t sized p i ready h = go h.target
    where
      go : IsTarget one scope t p h.tree → SaidTarget two scope t ((expr_part f.values (rank f.stands) p).at i)
      go (inl k) = place_fills t sized p h.tree k h.placed i ready
      go (inr k) =
          let strings = kept_are_targets one scope t k.strings (opened h.tree (E.Pattern k.pattern k.strings) (k.tree ∙ sym (tform.rolls-Pattern k.pattern k.strings)) h.placed) k.parts k.kept in
          let q : PExpr = record { span = (h.tree).span; ty = Some t; form = eform.Pattern k.parts } in
          let is : p ≡ q = k.made in
          subst (λ (p : PExpr). SaidTarget two scope t ((expr_part f.values (rank f.stands) p).at i)) (sym is) (pattern_fills t sized (h.tree).span k.parts strings i (subst (λ (p : PExpr). ExprReady f p i) is ready))

pub exprs_fill : ExprsFill
exprs_fill f setting scope variables t sized p i ready h = said_fills f setting scope variables t sized p i ready h

pub targets_fill : TargetsFill
targets_fill f setting scope variables t sized p i ready h = target_fills f setting scope variables t sized p i ready h
