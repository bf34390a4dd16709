-- Each pattern of a program holds what the strings of the tree's pattern mean, so it holds strings as patterns may.
use Rattle.std.proofs.Common.{◌≡◌, ℕ, suc, ◌≤◌, Bool, true, false, List, [], ◌∷◌, length, Option, Some, refl, sym, ap, subst, ◌∙◌, arith}
use Rattle.std.specs.Prelude.{◌&&◌, map, nat_le, if◌then◌else◌}
use Rattle.std.specs.List.{list_all}
use Rattle.std.proofs.lemmas.Bool.{leb-true}
use Rattle.std.proofs.lemmas.List.{length-map}
use Rattle.std.proofs.lemmas.List.Folds.{list_all-map}
use Rattle.sk_base.specs.declared.span.Span.{Span}
use Rattle.sk_tree.specs.declared.expr.Expr.{Expr}
use Rattle.sk_tree.specs.declared.expr.NewField.{NewField}
use Rattle.sk_tree.specs.declared.expr.EForm.TheVariants as eform
use Rattle.sk_tree.specs.declared.expr.EForm.TheOpen as E
use Rattle.sk_tree.specs.declared.expr.EForm.TheViews.{roll-EForm}
use Rattle.sk_tree.specs.Strings.{most_strings}
use Rattle.sk_prog.specs.declared.ty.Ty.{Ty}
use Rattle.sk_prog.specs.declared.expr.PExpr.{PExpr}
use Rattle.sk_prog.specs.declared.expr.PField.{PField}
use Rattle.sk_prog.specs.declared.expr.PEForm.{PEForm}
use Rattle.sk_prog.specs.declared.expr.PEForm.TheOpen as P
use Rattle.sk_prog.specs.declared.expr.PEForm.TheViews.{roll-PEForm, roll-PExpr, roll-PField}
use Rattle.sk_prog.specs.declared.expr.PEForm.TheFolds.{map-PEForm, para-PEForm, para-PField, para-roll-PEForm, para-roll-PExpr, para-roll-PField, rec-roll-PField, ind-PExpr}
use Rattle.sk_prog.specs.declared.prog.StructDef.{StructDef}
use Rattle.sk_prog.specs.declared.prog.ParamDef.{ParamDef}
use Rattle.sk_prog.specs.declared.prog.Prog.{Prog}
use Rattle.sk_types_rules.specs.declared.scope.Variable.{Variable}
use Rattle.sk_types_rules.specs.Scope.{Context}
use Rattle.sk_types_rules.specs.Sorts.{sort, keeps, kept}
use Rattle.sk_types_rules.specs.Types.{EFormRule, ExprRule, FieldRule, EachMeans, ArgumentsMean, FieldsMean, IsField, eform_means, expr_means, field_means, Means}
use Rattle.sk_types_rules.specs.WellTyped.{all_good, eform_patterns, expr_patterns}
use Rattle.sk_types_rules.proofs.Layers.{FormMeans, FieldMeans, rule, form_means_are, means_parts}
use Rattle.sk_types_laws.proofs.Ats.{both_true, both}
use Rattle.sk_front_laws.proofs.Trees.{Layer, may_be_string, all_whole, eform_whole, expr_whole, field_whole, WithWhole, wholes, whole_at, field_whole_is}
use Rattle.sk_front_laws.proofs.Strings.{strings_held}

pub opened : (e : Expr) (k : Layer) → e.form ≡ roll-EForm k → expr_whole e ≡ true → eform_whole (wholes k) ≡ true
opened e k ek h = sym (whole_at e k ek) ∙ h

-- the strings of a pattern of a tree
pub record Strings (es : List Expr) : Type 0 where
  pub few : length es ≤ most_strings
  pub all : list_all may_be_string es ≡ true

pub strings_in : (es : List Expr) → (nat_le (length (map WithWhole es)) most_strings && list_all (λ (e : Expr × Bool). may_be_string e.0) (map WithWhole es)) ≡ true → Strings es
strings_in es h =
    let k = both_true (nat_le (length (map WithWhole es)) most_strings) _ h in
    let few : length (map WithWhole es) ≤ most_strings = leb-true _ _ k.0 in
    record { few = omega (arith, few, length-map es WithWhole); all = sym (list_all-map (λ (e : Expr × Bool). may_be_string e.0) WithWhole es) ∙ k.1 }

-- a part of them
pub drop_string : (e : Expr) (es : List Expr) → Strings (e ∷ es) → Strings es
drop_string e es h = let k = both_true (may_be_string e) _ h.all in record { few = omega (arith, h.few); all = k.1 }

module _ (prog : Prog) (context : Context) (scope : List Variable) where
  abbrev WithPatterns : PExpr → PExpr × Bool
  WithPatterns p = (p, expr_patterns prog p)

  abbrev form_patterned : PEForm → Bool
  form_patterned = para-PEForm Bool Bool Bool (eform_patterns prog) (λ p. p.form.1) (λ f. f.value.1)

  abbrev field_patterned : PField → Bool
  field_patterned = para-PField Bool Bool Bool (eform_patterns prog) (λ p. p.form.1) (λ f. f.value.1)

  abbrev pub patterns_of : P.PEForm-F PEForm PExpr PField → P.PEForm-F (PEForm × Bool) (PExpr × Bool) (PField × Bool)
  patterns_of = map-PEForm PEForm PExpr PField (PEForm × Bool) (PExpr × Bool) (PField × Bool) (λ f. (f, form_patterned f)) (λ e. (e, expr_patterns prog e)) (λ f. (f, field_patterned f))

  pub patterns_at : (s : Span) (t : Option Ty) (f : PEForm) (l : P.PEForm-F PEForm PExpr PField) → roll-PEForm l ≡ f → expr_patterns prog (record { span = s; ty = t; form = f }) ≡ eform_patterns prog (patterns_of l)
  patterns_at s t f l is =
      para-roll-PExpr Bool Bool Bool (eform_patterns prog) (λ p. p.form.1) (λ f. f.value.1) (record { span = s; ty = t; form = f })
      ∙ ap form_patterned (sym is)
      ∙ para-roll-PEForm Bool Bool Bool (eform_patterns prog) (λ p. p.form.1) (λ f. f.value.1) l

  abbrev FormGood : PEForm → Type 0
  FormGood f = (t : Option Ty) (e : Expr) → FormMeans context scope f t e → expr_whole e ≡ true → form_patterned f ≡ true

  abbrev ExprGood : PExpr → Type 0
  ExprGood p = (e : Expr) → Means context scope p e → expr_whole e ≡ true → expr_patterns prog p ≡ true

  abbrev FieldGood : PField → Type 0
  FieldGood q = (d : StructDef) (n : NewField) → FieldMeans context scope q d n → field_whole n ≡ true → field_patterned q ≡ true

  abbrev Such : Type 0
  Such = (f : PEForm) × FormGood f

  abbrev Such' : Type 0
  Such' = (e : PExpr) × ExprGood e

  abbrev Such'' : Type 0
  Such'' = (f : PField) × FieldGood f

  abbrev down : P.PEForm-F Such Such' Such'' → P.PEForm-F PEForm PExpr PField
  down = map-PEForm Such Such' Such'' PEForm PExpr PField (λ q. q.0) (λ q. q.0) (λ q. q.0)

  abbrev firsts : List Such' → List PExpr
  firsts qs = map (λ (q : Such'). q.0) qs

  abbrev AllPatterned : List Such' → Type 0
  AllPatterned qs = all_good prog (map WithPatterns (firsts qs)) ≡ true

  abbrev AllWhole : List Expr → Type 0
  AllWhole es = all_whole (map WithWhole es) ≡ true

  kept_strings : (t : Ty) (es : List Expr) → Strings es → Strings (kept context scope t es)
  kept_strings t [] h = h
  kept_strings t (e ∷ es) h = go (keeps (sort context scope e) t) (kept_strings t es (drop_string e es h)) (kept_few t es)
    where
      kept_few : (t : Ty) (es : List Expr) → length (kept context scope t es) ≤ length es
      kept_few t [] = omega arith
      kept_few t (e ∷ es) = step (keeps (sort context scope e) t) (kept_few t es)
        where
          step : (b : Bool) → length (kept context scope t es) ≤ length es → length (if b then e ∷ kept context scope t es else kept context scope t es) ≤ suc (length es)
          step true h = omega (arith, h)
          step false h = omega (arith, h)

      go : (b : Bool) → Strings (kept context scope t es) → length (kept context scope t es) ≤ length es → Strings (if b then e ∷ kept context scope t es else kept context scope t es)
      go true r n = record { few = omega (arith, h.few, n); all = both _ _ (both_true (may_be_string e) _ h.all).0 r.all }
      go false r n = r

  each_good : (qs : List Such') (t : Ty) (es : List Expr) → EachMeans (λ y. y) (Means context scope) t (firsts qs) es → AllWhole es → AllPatterned qs
  each_good [] t es m h = refl
  each_good (q ∷ qs) t [] m h = absurd m
  each_good (q ∷ qs) t (e ∷ es) m h =
      let k = both_true (expr_whole e) _ h in
      both _ _ (q.1 e m.0 k.0) (each_good qs t es m.2 k.1)

  args_good : (ds : List ParamDef) (qs : List Such') (es : List Expr) → ArgumentsMean (λ y. y) (Means context scope) scope ds (firsts qs) es → AllWhole es → AllPatterned qs
  args_good [] [] es m h = refl
  args_good (d ∷ ds) (q ∷ qs) (e ∷ es) m h =
      let k = both_true (expr_whole e) _ h in
      both _ _ (q.1 e m.0 k.0) (args_good ds qs es m.3 k.1)
  args_good [] (q ∷ qs) es m h = absurd m
  args_good (d ∷ ds) [] es m h = refl
  args_good (d ∷ ds) (q ∷ qs) [] m h = absurd m

  abbrev sets : List Such'' → List PField
  sets qs = map (λ (q : Such''). q.0) qs

  sets_good : (d : StructDef) (qs : List Such'') (ns : List NewField) → FieldsMean (FieldMeans context scope) d (sets qs) ns → list_all (λ (n : NewField × Bool). n.1) (map (λ n. (n, field_whole n)) ns) ≡ true → list_all (λ (f : PField × Bool). f.1) (map (λ f. (f, field_patterned f)) (sets qs)) ≡ true
  sets_good d [] ns m h = refl
  sets_good d (q ∷ qs) [] m h = absurd m
  sets_good d (q ∷ qs) (n ∷ ns) m h =
      let k = both_true (field_whole n) _ h in
      both _ _ (q.1 d n m.0 k.0) (sets_good d qs ns m.1 k.1)

  layer : (y : P.PEForm-F Such Such' Such'') (t : Option Ty) (e : Expr) → rule context scope (down y) t e → expr_whole e ≡ true → eform_patterns prog (patterns_of (down y)) ≡ true
  layer (P.Number n) t e h b = refl
  layer P.True t e h b = refl
  layer P.False t e h b = refl
  layer P.Null t e h b = refl
  layer (P.Var slot x) t e h b = refl
  layer (P.Const c) t e h b = refl
  layer (P.Hole n) t e h b = refl
  layer (P.Pattern qs) t e h b =
      let k = kept_strings h.3 h.1 (strings_in h.1 (opened e (E.Pattern h.0 h.1) (h.2 ∙ sym (eform.rolls-Pattern h.0 h.1)) b)) in
      strings_held prog context scope (firsts qs) h.3 (kept context scope h.3 h.1) h.5 h.6 k.all k.few
  layer (P.Paren q) t e h b = q.1 h.0 h.2 (opened e (E.Paren h.0) (h.1 ∙ sym (eform.rolls-Paren h.0)) b)
  layer (P.Call g qs) t e h b = args_good (h.3).params qs h.1 h.5 (opened e (E.Call h.0 h.1) (h.2 ∙ sym (eform.rolls-Call h.0 h.1)) b)
  layer (P.New k qs) t e h b = sets_good h.3 qs h.1 h.5 (opened e (E.New h.0 h.1) (h.2 ∙ sym (eform.rolls-New h.0 h.1)) b)
  layer (P.Braces qs) t e h b = each_good qs h.3 h.0 h.4 (opened e (E.Braces h.0) (h.1 ∙ sym (eform.rolls-Braces h.0)) b)
  layer (P.Member q k i) t e h b = q.1 h.0 h.3 (opened e (E.Member h.0 h.1) (h.2 ∙ sym (eform.rolls-Member h.0 h.1)) b)
  layer (P.Index q j) t e h b =
      let a = both_true (expr_whole h.0) (expr_whole h.1) (opened e (E.Index h.0 h.1) (h.2 ∙ sym (eform.rolls-Index h.0 h.1)) b) in
      both _ _ (q.1 h.0 h.3 a.0) (j.1 h.1 h.4 a.1)
  layer (P.Slice q j m) t e h b =
      let a = both_true (expr_whole h.0) (expr_whole h.1) (opened e (E.Slice h.0 h.1 h.2) (h.3 ∙ sym (eform.rolls-Slice h.0 h.1 h.2)) b) in
      both _ _ (q.1 h.0 h.4 a.0) (j.1 h.1 h.5 a.1)
  layer (P.Unary o q) t e h b = q.1 h.1 h.4 (opened e (E.Unary h.0 h.1) (h.2 ∙ sym (eform.rolls-Unary h.0 h.1)) b)
  layer (P.Binary o q j) t e h b =
      let a = both_true (expr_whole h.1) (expr_whole h.2) (opened e (E.Binary h.0 h.1 h.2) (h.3 ∙ sym (eform.rolls-Binary h.0 h.1 h.2)) b) in
      both _ _ (q.1 h.1 h.5 a.0) (j.1 h.2 h.6 a.1)
  layer (P.Cond z q j) t e h b =
      let a = both_true (expr_whole h.0) (expr_whole h.1 && expr_whole h.2) (opened e (E.Cond h.0 h.1 h.2) (h.3 ∙ sym (eform.rolls-Cond h.0 h.1 h.2)) b) in
      let c = both_true (expr_whole h.1) (expr_whole h.2) a.1 in
      both _ _ (z.1 h.0 h.4 a.0) (both _ _ (q.1 h.1 h.5 c.0) (j.1 h.2 h.6 c.1))
  layer (P.ToInt q) t e h b = q.1 e h.0 b
  layer (P.Pad q) t e h b = q.1 e h.0 b

  in_expr : (s : Span) (t : Option Ty) (f : PEForm) → FormGood f → ExprGood (record { span = s; ty = t; form = f })
  in_expr s t f h e m b =
      para-roll-PExpr Bool Bool Bool (eform_patterns prog) (λ p. p.form.1) (λ f. f.value.1) (record { span = s; ty = t; form = f })
      ∙ h t e (means_parts context scope (record { span = s; ty = t; form = f }) e m).1 b

  in_field : (k : ℕ) (p : PExpr) → ExprGood p → FieldGood (record { field = k; value = p })
  in_field k p h d n m b =
      let r : FieldMeans context scope (record { field = k; value = p }) ≡ (λ d x. (t : Ty) × IsField d k x.name t × Means context scope p x.value × (p.ty ≡ Some t)) = rec-roll-PField EFormRule ExprRule FieldRule (eform_means context scope) (expr_means context scope) (field_means context scope) (λ X Y Z u v w f k n x. refl) (record { field = k; value = p }) in
      let g = subst (λ (M : FieldRule). M d n) r m in
      para-roll-PField Bool Bool Bool (eform_patterns prog) (λ p. p.form.1) (λ f. f.value.1) (record { field = k; value = p })
      ∙ h n.value g.2 (sym (field_whole_is n) ∙ b)

  form_from : (y : P.PEForm-F Such Such' Such'') → FormGood (roll-PEForm (down y))
  form_from y t e m b =
      para-roll-PEForm Bool Bool Bool (eform_patterns prog) (λ p. p.form.1) (λ f. f.value.1) (down y)
      ∙ layer y t e (subst (λ (M : EFormRule). M t e) (form_means_are context scope (down y)) m) b

  pub expr_good : (p : PExpr) → ExprGood p
  expr_good = ind-PExpr FormGood ExprGood FieldGood
      (λ x y is. subst (λ z. FormGood (roll-PEForm z)) is (form_from y))
      (λ x y is. subst (λ z. ExprGood (roll-PExpr z)) is (in_expr y.span y.ty y.form.0 y.form.1))
      (λ x y is. subst (λ z. FieldGood (roll-PField z)) is (in_field y.field y.value.0 y.value.1))
