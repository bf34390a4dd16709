-- What a string of a tree means is a string as a pattern may hold.
use Rattle.std.proofs.Common.{◌≡◌, ℕ, suc, ◌≤◌, Bool, true, false, List, [], ◌∷◌, length, Option, Some, None, refl, sym, ap, subst, ◌∙◌, arith}
use Rattle.std.specs.Prelude.{◌&&◌, map, nat_le}
use Rattle.std.specs.List.{list_all}
use Rattle.std.proofs.lemmas.List.{length-map}
use Rattle.std.proofs.lemmas.Bool.{le-leb, leb-true}
use Rattle.sk_base.specs.declared.span.Span.{Span}
use Rattle.sk_tree.specs.declared.expr.Expr.{Expr}
use Rattle.sk_tree.specs.declared.expr.EForm.TheVariants as eform
use Rattle.sk_tree.specs.declared.expr.EForm.TheOpen as E
use Rattle.sk_tree.specs.declared.expr.EForm.TheViews.{roll-EForm}
use Rattle.sk_tree.specs.declared.expr.EForm.TheFolds.{fold-roll-Expr}
use Rattle.sk_tree.specs.Strings.{most_strings}
use Rattle.sk_tree.specs.Depth.{deepest, eform_depth, expr_depth, most_levels}
use Rattle.sk_prog.specs.declared.ty.Ty.{Ty}
use Rattle.sk_prog.specs.declared.expr.PExpr.{PExpr}
use Rattle.sk_prog.specs.declared.expr.PField.{PField}
use Rattle.sk_prog.specs.declared.expr.PEForm.{PEForm}
use Rattle.sk_prog.specs.declared.expr.PEForm.TheOpen as P
use Rattle.sk_prog.specs.declared.expr.PEForm.TheViews.{roll-PEForm}
use Rattle.sk_prog.specs.declared.expr.PEForm.TheFolds.{map-PEForm, fold-PEForm, fold-PField, para-PEForm, para-PField, fold-roll-PEForm, fold-roll-PExpr, para-roll-PEForm, para-roll-PExpr}
use Rattle.sk_prog.specs.declared.prog.Prog.{Prog}
use Rattle.sk_types_rules.specs.declared.scope.Variable.{Variable}
use Rattle.sk_types_rules.specs.Erase.{nowhere, at, mark_of, unary_mark, eform_erased, erase_expr}
use Rattle.sk_types_rules.specs.Erase as R
use Rattle.sk_types_rules.specs.Rules.{operator_of}
use Rattle.sk_types_rules.specs.Scope.{Context}
use Rattle.sk_types_rules.specs.Types.{EFormRule, EachMeans, IsMore, Means}
use Rattle.sk_types_rules.specs.WellTyped.{is_yes, no_bar, eform_bald, is_bald, are_strings, all_good, eform_patterns, expr_patterns}
use Rattle.sk_types_rules.specs.WellTyped as W
use Rattle.sk_types_rules.proofs.Layers.{FormMeans, rule, form_means_are, means_parts}
use Rattle.sk_types_laws.proofs.Ats.{both_true, both, pexpr_law}
use Rattle.sk_front_laws.proofs.Trees.{Layer, bar_free, eform_bare, expr_bare, may_be_string, bares, bare_at, depths, depth_at}

-- of an expression p that means e: whether p is bald and its patterns hold, and how deep p and e are
pub record IsHeld (bald patterned : Bool) (deep most : ℕ) : Type 0 where
  pub is_bald : bald ≡ true
  pub patterns : patterned ≡ true
  pub depth : deep ≤ most

deeper : (a e : Expr) (j k : Layer) → a.form ≡ roll-EForm j → e.form ≡ roll-EForm k → eform_depth (depths j) ≤ eform_depth (depths k) → expr_depth a ≤ expr_depth e
deeper a e j k aj ek h = omega (arith, depth_at a j aj, depth_at e k ek, h)

no_string : (e : Expr) (k : Layer) {A : Type 0} → e.form ≡ roll-EForm k → eform_bare (bares k) ≡ false → expr_bare e ≡ true → A
no_string e k ek not b = let no : false ≡ true = sym not ∙ sym (bare_at e k ek) ∙ b in absurd (cc)

-- every expression has a level
depth_some : (e : Expr) → 1 ≤ expr_depth e
depth_some e = omega (arith, fold-roll-Expr ℕ ℕ ℕ eform_depth (λ x. suc x.form) (λ x. suc x.value) (record { span = e.span; form = e.form }))

module _ (prog : Prog) (context : Context) (scope : List Variable) where
  abbrev form_bald : PEForm → Bool
  form_bald = fold-PEForm Bool Bool Bool eform_bald (λ p. p.form) (λ f. f.value)

  abbrev field_bald : PField → Bool
  field_bald = fold-PField Bool Bool Bool eform_bald (λ p. p.form) (λ f. f.value)

  abbrev form_patterned : PEForm → Bool
  form_patterned = para-PEForm Bool Bool Bool (eform_patterns prog) (λ p. p.form.1) (λ f. f.value.1)

  abbrev field_patterned : PField → Bool
  field_patterned = para-PField Bool Bool Bool (eform_patterns prog) (λ p. p.form.1) (λ f. f.value.1)

  abbrev form_erased : PEForm → Span → Expr
  form_erased = fold-PEForm (Span → Expr) Expr (ℕ × Expr) (eform_erased prog) (λ e. e.form e.span) (λ f. (f.field, f.value))

  abbrev field_erased : PField → ℕ × Expr
  field_erased = fold-PField (Span → Expr) Expr (ℕ × Expr) (eform_erased prog) (λ e. e.form e.span) (λ f. (f.field, f.value))

  abbrev FormHeld : PEForm → Type 0
  FormHeld f = (s : Span) (t : Option Ty) (e : Expr) → FormMeans context scope f t e → expr_bare e ≡ true → IsHeld (form_bald f) (form_patterned f) (expr_depth (form_erased f s)) (expr_depth e)

  abbrev ExprHeld : PExpr → Type 0
  ExprHeld p = (e : Expr) → Means context scope p e → expr_bare e ≡ true → IsHeld (is_bald p) (expr_patterns prog p) (expr_depth (erase_expr prog p)) (expr_depth e)

  abbrev Such : Type 0
  Such = (p : PExpr) × ExprHeld p

  abbrev Parts : Type 0
  Parts = P.PEForm-F ((f : PEForm) × FormHeld f) Such (PField × Unit {0})

  abbrev parts : Parts → P.PEForm-F PEForm PExpr PField
  parts y = map-PEForm ((f : PEForm) × FormHeld f) Such (PField × Unit {0}) PEForm PExpr PField (λ q. q.0) (λ q. q.0) (λ q. q.0) y

  abbrev firsts : List Such → List PExpr
  firsts qs = map (λ (q : Such). q.0) qs

  abbrev balds : P.PEForm-F PEForm PExpr PField → P.PEForm-F Bool Bool Bool
  balds = map-PEForm PEForm PExpr PField Bool Bool Bool form_bald is_bald field_bald

  abbrev WithPatterns : PExpr → PExpr × Bool
  WithPatterns p = (p, expr_patterns prog p)

  abbrev patterns_of : P.PEForm-F PEForm PExpr PField → P.PEForm-F (PEForm × Bool) (PExpr × Bool) (PField × Bool)
  patterns_of = map-PEForm PEForm PExpr PField (PEForm × Bool) (PExpr × Bool) (PField × Bool) (λ f. (f, form_patterned f)) (λ e. (e, expr_patterns prog e)) (λ f. (f, field_patterned f))

  abbrev erased_of : P.PEForm-F PEForm PExpr PField → P.PEForm-F (Span → Expr) Expr (ℕ × Expr)
  erased_of = map-PEForm PEForm PExpr PField (Span → Expr) Expr (ℕ × Expr) form_erased (erase_expr prog) field_erased

  each_held : (qs : List Such) (t : Ty) (es : List Expr) → EachMeans (λ y. y) (Means context scope) t (firsts qs) es → list_all is_yes (map expr_bare es) ≡ true → IsHeld (list_all is_yes (map is_bald (firsts qs))) (all_good prog (map WithPatterns (firsts qs))) (deepest (map expr_depth (map (erase_expr prog) (firsts qs)))) (deepest (map expr_depth es))
  each_held [] t es m b = record { is_bald = refl; patterns = refl; depth = omega arith }
  each_held (q ∷ qs) t [] m b = absurd m
  each_held (q ∷ qs) t (e ∷ es) m b =
      let k = both_true (expr_bare e) _ b in
      let a = q.1 e m.0 k.0 in
      let r = each_held qs t es m.2 k.1 in
      record { is_bald = both _ _ a.is_bald r.is_bald; patterns = both _ _ a.patterns r.patterns; depth = omega (arith, a.depth, r.depth) }

  held_form : (l : P.PEForm-F PEForm PExpr PField) (s : Span) (e : Expr) → IsHeld (eform_bald (balds l)) (eform_patterns prog (patterns_of l)) (expr_depth (eform_erased prog (erased_of l) s)) (expr_depth e) → IsHeld (form_bald (roll-PEForm l)) (form_patterned (roll-PEForm l)) (expr_depth (form_erased (roll-PEForm l) s)) (expr_depth e)
  held_form l s e h = record {
    is_bald = fold-roll-PEForm Bool Bool Bool eform_bald (λ p. p.form) (λ f. f.value) l ∙ h.is_bald;
    patterns = para-roll-PEForm Bool Bool Bool (eform_patterns prog) (λ p. p.form.1) (λ f. f.value.1) l ∙ h.patterns;
    depth = subst (λ (x : Span → Expr). expr_depth (x s) ≤ expr_depth e) (sym (fold-roll-PEForm (Span → Expr) Expr (ℕ × Expr) (eform_erased prog) (λ e. e.form e.span) (λ f. (f.field, f.value)) l)) h.depth;
  }

  -- a form without parts
  leaf : (l : P.PEForm-F PEForm PExpr PField) (s : Span) (e : Expr) (j k : Layer) → (eform_erased prog (erased_of l) s).form ≡ roll-EForm j → e.form ≡ roll-EForm k → eform_depth (depths j) ≤ eform_depth (depths k) → eform_bald (balds l) ≡ true → eform_patterns prog (patterns_of l) ≡ true → IsHeld (eform_bald (balds l)) (eform_patterns prog (patterns_of l)) (expr_depth (eform_erased prog (erased_of l) s)) (expr_depth e)
  leaf l s e j k aj ek h b p = record { is_bald = b; patterns = p; depth = deeper (eform_erased prog (erased_of l) s) e j k aj ek h }

  bare_parts : (e : Expr) (k : Layer) → e.form ≡ roll-EForm k → expr_bare e ≡ true → eform_bare (bares k) ≡ true
  bare_parts e k ek b = sym (bare_at e k ek) ∙ b

  layer : (y : Parts) (s : Span) (t : Option Ty) (e : Expr) → rule context scope (parts y) t e → expr_bare e ≡ true → IsHeld (eform_bald (balds (parts y))) (eform_patterns prog (patterns_of (parts y))) (expr_depth (eform_erased prog (erased_of (parts y)) s)) (expr_depth e)
  layer (P.Number n) s t e h b = leaf (P.Number n) s e (E.Number n) (E.Number n) (sym (eform.rolls-Number n)) (h.0 ∙ sym (eform.rolls-Number n)) (omega arith) refl refl
  layer P.True s t e h b = leaf P.True s e E.True E.True (sym eform.rolls-True) (h.0 ∙ sym eform.rolls-True) (omega arith) refl refl
  layer P.False s t e h b = leaf P.False s e E.False E.False (sym eform.rolls-False) (h.0 ∙ sym eform.rolls-False) (omega arith) refl refl
  layer P.Null s t e h b = leaf P.Null s e E.Null E.Null (sym eform.rolls-Null) (h.0 ∙ sym eform.rolls-Null) (omega arith) refl refl
  layer (P.Var slot x) s t e h b = leaf (P.Var slot x) s e (E.Word x) (E.Word x) (sym (eform.rolls-Word x)) (h.0 ∙ sym (eform.rolls-Word x)) (omega arith) refl refl
  layer (P.Const c) s t e h b = leaf (P.Const c) s e (E.Word (R.const_name prog c)) (E.Word h.0) (sym (eform.rolls-Word (R.const_name prog c))) (h.1 ∙ sym (eform.rolls-Word h.0)) (omega arith) refl refl
  layer (P.Hole None) s t e h b = leaf (P.Hole None) s e (E.Hole None) (E.Hole None) (sym (eform.rolls-Hole None)) (h.0 ∙ sym (eform.rolls-Hole None)) (omega arith) refl refl
  layer (P.Hole (Some n)) s t e h b = no_string e (E.Hole (Some n)) (h.0 ∙ sym (eform.rolls-Hole (Some n))) refl b
  layer (P.Pattern qs) s t e h b = no_string e (E.Pattern h.0 h.1) (h.2 ∙ sym (eform.rolls-Pattern h.0 h.1)) refl b
  layer (P.Paren q) s t e h b = no_string e (E.Paren h.0) (h.1 ∙ sym (eform.rolls-Paren h.0)) refl b
  layer (P.Call g qs) s t e h b = no_string e (E.Call h.0 h.1) (h.2 ∙ sym (eform.rolls-Call h.0 h.1)) refl b
  layer (P.New k qs) s t e h b = no_string e (E.New h.0 h.1) (h.2 ∙ sym (eform.rolls-New h.0 h.1)) refl b
  layer (P.Cond z q j) s t e h b = no_string e (E.Cond h.0 h.1 h.2) (h.3 ∙ sym (eform.rolls-Cond h.0 h.1 h.2)) refl b
  layer (P.Braces qs) s t e h b =
      let ek = h.1 ∙ sym (eform.rolls-Braces h.0) in
      let a = each_held qs h.3 h.0 h.4 (bare_parts e (E.Braces h.0) ek b) in
      let xs = map (erase_expr prog) (firsts qs) in
      leaf (P.Braces (firsts qs)) s e (E.Braces xs) (E.Braces h.0) (sym (eform.rolls-Braces xs)) ek a.depth a.is_bald a.patterns
  layer (P.Member q k i) s t e h b =
      let ek = h.2 ∙ sym (eform.rolls-Member h.0 h.1) in
      let a = q.1 h.0 h.3 (bare_parts e (E.Member h.0 h.1) ek b) in
      let x = erase_expr prog q.0 in
      let n = R.field_name prog k i in
      leaf (P.Member q.0 k i) s e (E.Member x n) (E.Member h.0 h.1) (sym (eform.rolls-Member x n)) ek a.depth a.is_bald a.patterns
  layer (P.Index q j) s t e h b =
      let ek = h.2 ∙ sym (eform.rolls-Index h.0 h.1) in
      let p = both_true (expr_bare h.0) (expr_bare h.1) (bare_parts e (E.Index h.0 h.1) ek b) in
      let a = q.1 h.0 h.3 p.0 in
      let c = j.1 h.1 h.4 p.1 in
      let x = erase_expr prog q.0 in
      let y = erase_expr prog j.0 in
      leaf (P.Index q.0 j.0) s e (E.Index x y) (E.Index h.0 h.1) (sym (eform.rolls-Index x y)) ek (omega (arith, a.depth, c.depth)) (both _ _ a.is_bald c.is_bald) (both _ _ a.patterns c.patterns)
  layer (P.Slice q j m) s t e h b =
      let ek = h.3 ∙ sym (eform.rolls-Slice h.0 h.1 h.2) in
      let p = both_true (expr_bare h.0) (expr_bare h.1) (bare_parts e (E.Slice h.0 h.1 h.2) ek b) in
      let a = q.1 h.0 h.4 p.0 in
      let c = j.1 h.1 h.5 p.1 in
      let x = erase_expr prog q.0 in
      let y = erase_expr prog j.0 in
      let z = at (eform.Number m) nowhere in
      let one : expr_depth z ≡ 1 = depth_at z (E.Number m) (sym (eform.rolls-Number m)) in
      let some = depth_some h.0 in
      leaf (P.Slice q.0 j.0 m) s e (E.Slice x y z) (E.Slice h.0 h.1 h.2) (sym (eform.rolls-Slice x y z)) ek (omega (arith, a.depth, c.depth, one, some)) (both _ _ a.is_bald c.is_bald) (both _ _ a.patterns c.patterns)
  layer (P.Unary o q) s t e h b =
      let ek = h.2 ∙ sym (eform.rolls-Unary h.0 h.1) in
      let a = q.1 h.1 h.4 (bare_parts e (E.Unary h.0 h.1) ek b) in
      let x = erase_expr prog q.0 in
      leaf (P.Unary o q.0) s e (E.Unary (unary_mark o) x) (E.Unary h.0 h.1) (sym (eform.rolls-Unary (unary_mark o) x)) ek a.depth a.is_bald a.patterns
  layer (P.Binary o q j) s t e h b =
      let ek = h.3 ∙ sym (eform.rolls-Binary h.0 h.1 h.2) in
      let r = both_true (bar_free (operator_of h.0)) (expr_bare h.1 && expr_bare h.2) (bare_parts e (E.Binary h.0 h.1 h.2) ek b) in
      let p = both_true (expr_bare h.1) (expr_bare h.2) r.1 in
      let free : no_bar o ≡ true = ap bar_free (sym h.4) ∙ r.0 in
      let a = q.1 h.1 h.5 p.0 in
      let c = j.1 h.2 h.6 p.1 in
      let x = erase_expr prog q.0 in
      let y = erase_expr prog j.0 in
      leaf (P.Binary o q.0 j.0) s e (E.Binary (mark_of o) x y) (E.Binary h.0 h.1 h.2) (sym (eform.rolls-Binary (mark_of o) x y)) ek (omega (arith, a.depth, c.depth)) (both _ _ free (both _ _ a.is_bald c.is_bald)) (both _ _ a.patterns c.patterns)
  layer (P.ToInt q) s t e h b = q.1 e h.0 b
  layer (P.Pad q) s t e h b = q.1 e h.0 b

  pub held : (p : PExpr) → ExprHeld p
  held = pexpr_law FormHeld ExprHeld (λ q. Unit {0})
      (λ y s t e m b. held_form (parts y) s e (layer y s t e (subst (λ (M : EFormRule). M t e) (form_means_are context scope (parts y)) m) b))
      (λ p h e m b.
      let r = h p.span p.ty e (means_parts context scope p e m).1 b in
      record {
        is_bald = fold-roll-PExpr Bool Bool Bool eform_bald (λ p. p.form) (λ f. f.value) (record { span = p.span; ty = p.ty; form = p.form }) ∙ r.is_bald;
        patterns = para-roll-PExpr Bool Bool Bool (eform_patterns prog) (λ p. p.form.1) (λ f. f.value.1) (record { span = p.span; ty = p.ty; form = p.form }) ∙ r.patterns;
        depth = subst (λ (x : Expr). expr_depth x ≤ expr_depth e) (sym (fold-roll-PExpr (Span → Expr) Expr (ℕ × Expr) (eform_erased prog) (λ e. e.form e.span) (λ f. (f.field, f.value)) (record { span = p.span; ty = p.ty; form = p.form }))) r.depth;
      })
      (λ q h. tt)

  -- Strings of a pattern

  record AreHeld (ps : List PExpr) (es : List Expr) : Type 0 where
    strings : list_all (λ (e : PExpr × Bool). W.is_string prog e.0) (map WithPatterns ps) ≡ true
    patterns : all_good prog (map WithPatterns ps) ≡ true
    count : length ps ≡ length es

  all_held : (ps : List PExpr) (t : Ty) (es : List Expr) → EachMeans (λ y. y) (Means context scope) t ps es → list_all may_be_string es ≡ true → AreHeld ps es
  all_held [] t [] m b = record { strings = refl; patterns = refl; count = refl }
  all_held [] t (e ∷ es) m b = absurd m
  all_held (p ∷ ps) t [] m b = absurd m
  all_held (p ∷ ps) t (e ∷ es) m b =
      let k = both_true (may_be_string e) _ b in
      let j = both_true (expr_bare e) (nat_le (expr_depth e) most_levels) k.0 in
      let a = held p e m.0 j.0 in
      let r = all_held ps t es m.2 k.1 in
      let low : expr_depth e ≤ most_levels = leb-true (expr_depth e) most_levels j.1 in
      let deep : expr_depth (erase_expr prog p) ≤ most_levels = omega (arith, low, a.depth) in
      record { strings = both _ _ (both _ _ a.is_bald (le-leb _ _ deep)) r.strings; patterns = both _ _ a.patterns r.patterns; count = ap suc r.count }

  more : (ps : List PExpr) → IsMore ps → nat_le 1 (length (map WithPatterns ps)) ≡ true
  more [] m = absurd m
  more (p ∷ ps) m = le-leb 1 (suc (length (map WithPatterns ps))) (omega arith)

  pub strings_held : (ps : List PExpr) (t : Ty) (es : List Expr) → IsMore ps → EachMeans (λ y. y) (Means context scope) t ps es → list_all may_be_string es ≡ true → length es ≤ most_strings → (are_strings prog (map WithPatterns ps) && all_good prog (map WithPatterns ps)) ≡ true
  strings_held ps t es some m b few =
      let r = all_held ps t es m b in
      let within : length (map WithPatterns ps) ≤ most_strings = omega (arith, few, r.count, length-map ps WithPatterns) in
      both _ _ (both _ _ (more ps some) (both _ _ (le-leb _ _ within) r.strings)) r.patterns
