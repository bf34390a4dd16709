-- A target that is printed is the same target again.
use Rattle.std.proofs.Common.{◌≡◌, ℕ, Bool, true, false, List, [], ◌∷◌, map, Option, Some, None, refl, sym, ap, ◌∙◌, subst, inl, inr}
use Rattle.std.specs.Prelude.{if◌then◌else◌, is_some}
use Rattle.sk_base.specs.declared.span.Span.{Span}
use Rattle.sk_base.specs.declared.bounds.Bounds.{Bounds}
use Rattle.sk_tree.specs.declared.expr.Expr.{Expr}
use Rattle.sk_tree.specs.declared.expr.EForm.TheVariants as eform
use Rattle.sk_tree.specs.declared.expr.EForm.TheOpen as E
use Rattle.sk_prog.specs.declared.ty.Ty.{Ty}
use Rattle.sk_prog.specs.declared.expr.PExpr.{PExpr}
use Rattle.sk_prog.specs.declared.expr.PField.{PField}
use Rattle.sk_prog.specs.declared.expr.PEForm.{PEForm}
use Rattle.sk_prog.specs.declared.expr.PEForm.TheVariants as pform
use Rattle.sk_prog.specs.declared.expr.PEForm.TheOpen as P
use Rattle.sk_prog.specs.declared.expr.PEForm.TheViews.{roll-PEForm}
use Rattle.sk_prog.specs.declared.expr.PEForm.TheFolds.{map-PEForm, fold-PEForm, fold-roll-PEForm, fold-roll-PExpr}
use Rattle.sk_prog.specs.declared.prog.Prog.{Prog}
use Rattle.sk_prog.specs.Spanless.{no_span, without_span, field_again}
use Rattle.sk_prog.specs.Spanless as W
use Rattle.sk_types_rules.specs.declared.scope.Variable.{Variable}
use Rattle.sk_types_rules.specs.declared.rules.Own.TheVariants.{Firm}
use Rattle.sk_types_rules.specs.Erase as R
use Rattle.sk_types_rules.specs.Rules.{◌>>=◌, int, ty_eq, element_of}
use Rattle.sk_types_rules.specs.Scope.{Known, Context, top_of}
use Rattle.sk_types_rules.specs.Sorts.{sort, reference_meant, member_of, target_type, this_or, is_some_type, first_target, kept_targets}
use Rattle.sk_types_rules.specs.Types.{EFormRule, EachMeans, Means, IsTarget}
use Rattle.sk_types_rules.proofs.Layers.{FormMeans, rule, form_means_are, means_parts}
use Rattle.sk_types_rules.proofs.SortLaws.{target_word}
use Rattle.sk_types_laws.specs.Envs.{AreDistinct}
use Rattle.sk_types_laws.proofs.Ats.{bind_some, some_same, if_some, ty_same, ty_self, pexpr_law}
use Rattle.sk_types_laws.proofs.Stands.{stands}
use Rattle.sk_types_laws.proofs.Complete.{complete}
use Rattle.sk_print_laws.specs.Printed.{choice_of, eform_printed, printed_expr}
use Rattle.sk_print_laws.specs.SpanlessTree.{spanless_expr}
use Rattle.sk_print_laws.proofs.Respelt.{Alike}
use Rattle.sk_print_laws.proofs.Inverted.{word_back, pattern_back, member_back, index_back}
use Rattle.sk_print_laws.proofs.NamesBack.{const_back, field_back}
use Rattle.sk_print_laws.proofs.MeansAgain.{expr_again}
use Rattle.sk_print_laws.proofs.StmtsPlaced.{form_shown_expr, field_shown_expr, printed_at}
use Rattle.sk_print_laws.proofs.StmtsReadable.{target_at, no_target}

-- What an expression is without its spans, from its form.

abbrev pub pform_off : PEForm → PEForm
pform_off = fold-PEForm PEForm PExpr PField roll-PEForm without_span field_again

pub off_at : (s : Span) (t : Option Ty) (f : PEForm) → W.spanless_expr (record { span = s; ty = t; form = f }) ≡ record { span = no_span; ty = t; form = pform_off f }
off_at s t f = fold-roll-PExpr PEForm PExpr PField roll-PEForm without_span field_again (record { span = s; ty = t; form = f })

pattern_off : (ps qs : List PExpr) → map W.spanless_expr ps ≡ map W.spanless_expr qs → pform_off (pform.Pattern ps) ≡ pform_off (pform.Pattern qs)
pattern_off ps qs h =
    ap pform_off (sym (pform.rolls-Pattern ps))
    ∙ fold-roll-PEForm PEForm PExpr PField roll-PEForm without_span field_again (P.Pattern ps)
    ∙ ap (λ z. roll-PEForm (P.Pattern z)) h
    ∙ sym (fold-roll-PEForm PEForm PExpr PField roll-PEForm without_span field_again (P.Pattern qs))
    ∙ ap pform_off (pform.rolls-Pattern qs)

some_type : (o : Option Ty) (t : Ty) → is_some_type o t ≡ true → o ≡ Some t
some_type None t h = cc
some_type (Some u) t h = ap Some (ty_same u t h)

module _ (prog : Prog) (bounds : Bounds) (known again : List Known) (scope : List Variable) (good : AreDistinct (top_of prog)) where
  abbrev one : Context
  one = record { bounds = bounds; top = top_of prog; known = known }

  abbrev two : Context
  two = record { bounds = bounds; top = top_of prog; known = again }

  abbrev printed_of : P.PEForm-F PEForm PExpr PField → P.PEForm-F (Span → Expr) Expr (ℕ × Expr)
  printed_of = map-PEForm PEForm PExpr PField (Span → Expr) Expr (ℕ × Expr) (form_shown_expr prog one) (printed_expr prog) (field_shown_expr prog one)

  abbrev FormTarget : PEForm → Type 0
  FormTarget f = (t : Option Ty) (e : Expr) → FormMeans one scope f t e → (u : Ty) → target_type one scope e ≡ Some u → (here : Span) (d : Expr) → Alike (form_shown_expr prog one f here) d → target_type two scope d ≡ Some u

  abbrev ExprTarget : PExpr → Type 0
  ExprTarget p = (e : Expr) → Means one scope p e → (u : Ty) → target_type one scope e ≡ Some u → (d : Expr) → Alike (printed_expr prog p) d → target_type two scope d ≡ Some u

  abbrev Parts : Type 0
  Parts = P.PEForm-F ((f : PEForm) × FormTarget f) ((p : PExpr) × ExprTarget p) (PField × Unit {0})

  abbrev parts : Parts → P.PEForm-F PEForm PExpr PField
  parts y = map-PEForm ((f : PEForm) × FormTarget f) ((p : PExpr) × ExprTarget p) (PField × Unit {0}) PEForm PExpr PField (λ q. q.0) (λ q. q.0) (λ q. q.0) y

  layer : (y : Parts) (t : Option Ty) (e : Expr) → rule one scope (parts y) t e → (u : Ty) → target_type one scope e ≡ Some u → (here : Span) (d : Expr) → Alike (eform_printed prog (printed_of (parts y)) here) d → target_type two scope d ≡ Some u
  layer (P.Var slot x) t e h u m here d a = target_word two scope d x (word_back here d x a) ∙ sym (target_word one scope e x h.0) ∙ m
  layer (P.Const c) t e h u m here d a =
      let f = word_back here d (R.const_name prog c) a ∙ ap eform.Word (const_back prog scope h.0 c h.2) in
      target_word two scope d h.0 f ∙ sym (target_word one scope e h.0 h.1) ∙ m
  layer (P.Member q k i) t e h u m here d a =
      let n = field_back prog k h.6 i h.1 h.8 h.7 h.9 in
      let b = member_back here d (printed_expr prog q.0) (R.field_name prog k i) a in
      let f = b.1 ∙ ap (λ z. eform.Member b.0 z) n in
      let s = bind_some (target_type one scope h.0) (λ t. member_of (top_of prog) (reference_meant (Firm t)) h.1) u (sym (target_at prog one scope e (E.Member h.0 h.1) (h.2 ∙ sym (eform.rolls-Member h.0 h.1))) ∙ m) in
      target_at prog two scope d (E.Member b.0 h.1) (f ∙ sym (eform.rolls-Member b.0 h.1))
      ∙ ap (λ o. o >>= λ t. member_of (top_of prog) (reference_meant (Firm t)) h.1) (q.1 h.0 h.3 s.0 s.1 b.0 b.2)
      ∙ s.2
  layer (P.Index q j) t e h u m here d a =
      let b = index_back here d (printed_expr prog q.0) (printed_expr prog j.0) a in
      let s = bind_some (target_type one scope h.0) (λ t. if (sort one scope h.1).at int then element_of t else None) u (sym (target_at prog one scope e (E.Index h.0 h.1) (h.2 ∙ sym (eform.rolls-Index h.0 h.1))) ∙ m) in
      let w = if_some ((sort one scope h.1).at int) (element_of s.0) u s.2 in
      let r = expr_again prog bounds known again scope good j.0 h.1 h.4 b.1 b.4 in
      let fits : (sort two scope b.1).at int ≡ true = stands two scope b.1 int ∙ ap is_some (complete two scope good r.made b.1 int r.means (r.type ∙ h.8)) in
      target_at prog two scope d (E.Index b.0 b.1) (b.2 ∙ sym (eform.rolls-Index b.0 b.1))
      ∙ ap (λ o. o >>= λ t. if (sort two scope b.1).at int then element_of t else None) (q.1 h.0 h.3 s.0 s.1 b.0 b.3)
      ∙ ap (λ c. if c then element_of s.0 else None) fits
      ∙ w.1
  layer (P.ToInt q) t e h u m here d a = q.1 e h.0 u m d a
  layer (P.Pad q) t e h u m here d a = q.1 e h.0 u m d a
  layer (P.Number n) t e h u m here d a = absurd (no_target prog one scope e (E.Number n) u (h.0 ∙ sym (eform.rolls-Number n)) refl m)
  layer P.True t e h u m here d a = absurd (no_target prog one scope e E.True u (h.0 ∙ sym eform.rolls-True) refl m)
  layer P.False t e h u m here d a = absurd (no_target prog one scope e E.False u (h.0 ∙ sym eform.rolls-False) refl m)
  layer P.Null t e h u m here d a = absurd (no_target prog one scope e E.Null u (h.0 ∙ sym eform.rolls-Null) refl m)
  layer (P.Hole n) t e h u m here d a = absurd (no_target prog one scope e (E.Hole n) u (h.0 ∙ sym (eform.rolls-Hole n)) refl m)
  layer (P.Pattern qs) t e h u m here d a = absurd (no_target prog one scope e (E.Pattern h.0 h.1) u (h.2 ∙ sym (eform.rolls-Pattern h.0 h.1)) refl m)
  layer (P.Paren q) t e h u m here d a = absurd (no_target prog one scope e (E.Paren h.0) u (h.1 ∙ sym (eform.rolls-Paren h.0)) refl m)
  layer (P.Call g qs) t e h u m here d a = absurd (no_target prog one scope e (E.Call h.0 h.1) u (h.2 ∙ sym (eform.rolls-Call h.0 h.1)) refl m)
  layer (P.New k qs) t e h u m here d a = absurd (no_target prog one scope e (E.New h.0 h.1) u (h.2 ∙ sym (eform.rolls-New h.0 h.1)) refl m)
  layer (P.Braces qs) t e h u m here d a = absurd (no_target prog one scope e (E.Braces h.0) u (h.1 ∙ sym (eform.rolls-Braces h.0)) refl m)
  layer (P.Slice q j n) t e h u m here d a = absurd (no_target prog one scope e (E.Slice h.0 h.1 h.2) u (h.3 ∙ sym (eform.rolls-Slice h.0 h.1 h.2)) refl m)
  layer (P.Unary o q) t e h u m here d a = absurd (no_target prog one scope e (E.Unary h.0 h.1) u (h.2 ∙ sym (eform.rolls-Unary h.0 h.1)) refl m)
  layer (P.Binary o q j) t e h u m here d a = absurd (no_target prog one scope e (E.Binary h.0 h.1 h.2) u (h.3 ∙ sym (eform.rolls-Binary h.0 h.1 h.2)) refl m)
  layer (P.Cond z q j) t e h u m here d a = absurd (no_target prog one scope e (E.Cond h.0 h.1 h.2) u (h.3 ∙ sym (eform.rolls-Cond h.0 h.1 h.2)) refl m)

  place_again : (p : PExpr) → ExprTarget p
  place_again = pexpr_law FormTarget ExprTarget (λ q. Unit {0})
      (λ y t e m u is here d a.
      layer y t e (subst (λ (M : EFormRule). M t e) (form_means_are one scope (parts y)) m) u is here d
      (a ∙ ap (λ (x : Span → Expr). spanless_expr (x here)) (fold-roll-PEForm (Span → Expr) Expr (ℕ × Expr) (eform_printed prog) (λ e. e.form e.span) (λ f. (f.field, f.value)) (parts y))))
      (λ p h e m u is d a.
      h p.ty e (means_parts one scope p e m).1 u is p.span d
      (a ∙ ap spanless_expr (fold-roll-PExpr (Span → Expr) Expr (ℕ × Expr) (eform_printed prog) (λ e. e.form e.span) (λ f. (f.field, f.value)) (record { span = p.span; ty = p.ty; form = p.form }))))
      (λ q h. tt)

  -- Patterns as targets

  abbrev AllTargets : Context → Ty → List Expr → Type 0
  AllTargets context t [] = Unit {0}
  AllTargets context t (e ∷ es) = (target_type context scope e ≡ Some t) × AllTargets context t es

  abbrev Holds : List Expr → Type 0
  Holds [] = ⊥
  Holds (e ∷ es) = Unit {0}

  kept_are : (t : Ty) (es : List Expr) → AllTargets one t (kept_targets one scope t es)
  kept_are t [] = tt
  kept_are t (e ∷ es) = go (is_some_type (target_type one scope e) t) refl (kept_are t es)
    where
      go : (b : Bool) → is_some_type (target_type one scope e) t ≡ b → AllTargets one t (kept_targets one scope t es) → AllTargets one t (if b then e ∷ kept_targets one scope t es else kept_targets one scope t es)
      go true is rest = (some_type (target_type one scope e) t is, rest)
      go false is rest = rest

  kept_some : (t : Ty) (es : List Expr) → first_target one scope es ≡ Some t → Holds (kept_targets one scope t es)
  kept_some t [] h = cc
  kept_some t (e ∷ es) h = go (target_type one scope e) (kept_some t es) h
    where
      go : (o : Option Ty) → (first_target one scope es ≡ Some t → Holds (kept_targets one scope t es)) → this_or one scope o (first_target one scope es) ≡ Some t → Holds (if is_some_type o t then e ∷ kept_targets one scope t es else kept_targets one scope t es)
      go None rest h = rest h
      go (Some u) rest h =
          let same : ty_eq u t ≡ true = ap (λ z. ty_eq z t) (some_same u t h) ∙ ty_self t in
          subst (λ (b : Bool). Holds (if b then e ∷ kept_targets one scope t es else kept_targets one scope t es)) (sym same) tt

  all_kept : (t : Ty) (ds : List Expr) → AllTargets two t ds → kept_targets two scope t ds ≡ ds
  all_kept t [] h = refl
  all_kept t (d ∷ ds) h =
      ap (λ o. if is_some_type o t then d ∷ kept_targets two scope t ds else kept_targets two scope t ds) h.0
      ∙ ap (λ b. if b then d ∷ kept_targets two scope t ds else kept_targets two scope t ds) (ty_self t)
      ∙ ap (λ z. d ∷ z) (all_kept t ds h.1)

  record PartsAgain (ps : List PExpr) (t : Ty) (es ds : List Expr) : Type 0 where
    made : List PExpr
    means : EachMeans (λ q. q) (Means two scope) t made ds
    same : map W.spanless_expr made ≡ map W.spanless_expr ps
    targets : AllTargets two t ds
    some : Holds es → Holds ds

  parts_again : (t : Ty) (ps : List PExpr) (es : List Expr) → EachMeans (λ q. q) (Means one scope) t ps es → AllTargets one t es → (ds : List Expr) → map spanless_expr ds ≡ map spanless_expr (map (printed_expr prog) ps) → PartsAgain ps t es ds
  parts_again t [] [] m k [] h = record { made = []; means = tt; same = refl; targets = tt; some = λ x. x }
  parts_again t [] [] m k (d ∷ ds) h = cc
  parts_again t [] (e ∷ es) m k ds h = absurd m
  parts_again t (p ∷ ps) [] m k ds h = absurd m
  parts_again t (p ∷ ps) (e ∷ es) m k [] h = cc
  parts_again t (p ∷ ps) (e ∷ es) m k (d ∷ ds) h =
      let a : Alike (printed_expr prog p) d = cc in
      let b : map spanless_expr ds ≡ map spanless_expr (map (printed_expr prog) ps) = cc in
      let x = expr_again prog bounds known again scope good p e m.0 d a in
      let r = parts_again t ps es m.2 k.1 ds b in
      record {
        made = x.made ∷ r.made;
        means = (x.means, x.type ∙ m.1, r.means);
        same = λ i. x.same i ∷ r.same i;
        targets = (place_again p e m.0 t k.0 d a, r.targets);
        some = λ x. tt;
      }

  first_again : (t : Ty) (ds : List Expr) → AllTargets two t ds → Holds ds → first_target two scope ds ≡ Some t
  first_again t [] h k = absurd k
  first_again t (d ∷ ds) h k = ap (λ o. this_or two scope o (first_target two scope ds)) h.0

  pub record TargetAgain (t : Ty) (p : PExpr) (d : Expr) : Type 0 where
    pub made : PExpr
    pub target : IsTarget two scope t made d
    pub same : W.spanless_expr made ≡ W.spanless_expr p

  pub target_again : (t : Ty) (p : PExpr) (e : Expr) → IsTarget one scope t p e → (d : Expr) → Alike (printed_expr prog p) d → TargetAgain t p d
  target_again t p e (inl m) d a =
      let r = expr_again prog bounds known again scope good p e (m.is_at).means d a in
      record { made = r.made; target = inl (record { is_at = record { means = r.means; type = r.type ∙ (m.is_at).type }; target = place_again p e (m.is_at).means t m.target d a }); same = r.same }
  target_again t p e (inr m) d a =
      let es = map (printed_expr prog) m.parts in
      let made : printed_expr prog p ≡ R.at (eform.Pattern (choice_of es) es) e.span = ap (printed_expr prog) m.made ∙ printed_at prog one e.span (Some t) (pform.Pattern m.parts) (P.Pattern m.parts) (pform.rolls-Pattern m.parts) in
      let b = pattern_back e.span d (choice_of es) es (a ∙ ap spanless_expr made) in
      let r = parts_again t m.parts (kept_targets one scope t m.strings) m.kept (kept_are t m.strings) b.1 b.3 in
      let q : PExpr = record { span = d.span; ty = Some t; form = pform.Pattern r.made } in
      record {
        made = q;
        target = inr (record {
          pattern = b.0;
          strings = b.1;
          parts = r.made;
          tree = b.2;
          made = refl;
          first = first_again t b.1 r.targets (r.some (kept_some t m.strings m.first));
          kept = subst (λ ds. EachMeans (λ q. q) (Means two scope) t r.made ds) (sym (all_kept t b.1 r.targets)) r.means;
        });
        same = off_at d.span (Some t) (pform.Pattern r.made) ∙ ap (λ f. record { span = no_span; ty = Some t; form = f }) (pattern_off r.made m.parts r.same) ∙ sym (off_at e.span (Some t) (pform.Pattern m.parts)) ∙ ap W.spanless_expr (sym m.made);
      }
