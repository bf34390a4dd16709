-- What a tree means has numbers that a text can spell.
use Rattle.std.proofs.Common.{◌≡◌, ℕ, ◌-◌, ◌<◌, ◌≤◌, ◌^◌, Bool, true, false, List, [], ◌∷◌, ◌++◌, length, Option, Some, None, refl, sym, ap, subst, ◌∙◌, arith, inl, inr}
use Rattle.std.specs.Prelude.{◌&&◌, map, nat_le, nat_lt, if◌then◌else◌}
use Rattle.std.specs.List.{list_all}
use Rattle.std.proofs.lemmas.Bool.{le-leb, leb-true, ltb-true}
use Rattle.std.proofs.Math.Pow.{pow_mono}
use Rattle.sk_base.specs.declared.span.Span.{Span}
use Rattle.sk_base.specs.declared.bounds.Bounds.{Bounds}
use Rattle.sk_tree.specs.declared.expr.Expr.{Expr}
use Rattle.sk_tree.specs.declared.expr.NewField.{NewField}
use Rattle.sk_tree.specs.declared.stmt.Stmt.{Stmt}
use Rattle.sk_tree.specs.declared.stmt.Form.{Form}
use Rattle.sk_tree.specs.declared.stmt.Form.TheVariants as form
use Rattle.sk_tree.specs.declared.item.TyTree.{TyTree}
use Rattle.sk_tree.specs.declared.item.Field.{Field}
use Rattle.sk_tree.specs.declared.item.Param.{Param}
use Rattle.sk_tree.specs.declared.item.FunItem.{FunItem}
use Rattle.sk_tree.specs.declared.item.Item.{Item}
use Rattle.sk_tree.specs.declared.item.Item.TheVariants as item
use Rattle.sk_prog.specs.declared.ty.Ty.{Ty}
use Rattle.sk_prog.specs.declared.ty.Ty.TheVariants as ty
use Rattle.sk_prog.specs.declared.ty.Elem.{Elem}
use Rattle.sk_prog.specs.declared.expr.PExpr.{PExpr}
use Rattle.sk_prog.specs.declared.expr.PField.{PField}
use Rattle.sk_prog.specs.declared.expr.PEForm.{PEForm}
use Rattle.sk_prog.specs.declared.expr.PEForm.TheVariants as pform
use Rattle.sk_prog.specs.declared.expr.PEForm.TheOpen as P
use Rattle.sk_prog.specs.declared.expr.PEForm.TheViews.{roll-PEForm, roll-PExpr, roll-PField}
use Rattle.sk_prog.specs.declared.expr.PEForm.TheFolds.{map-PEForm, fold-PEForm, fold-PField, fold-roll-PEForm, fold-roll-PExpr, fold-roll-PField, rec-roll-PField, ind-PExpr}
use Rattle.sk_prog.specs.declared.stmt.PStmt.{PStmt}
use Rattle.sk_prog.specs.declared.stmt.PForm.{PForm}
use Rattle.sk_prog.specs.declared.stmt.PForm.TheOpen as S
use Rattle.sk_prog.specs.declared.stmt.PForm.TheViews.{roll-PForm}
use Rattle.sk_prog.specs.declared.stmt.PForm.TheFolds.{map-PForm, fold-PForm, fold-roll-PForm, fold-roll-PStmt}
use Rattle.sk_prog.specs.declared.prog.FieldDef.{FieldDef}
use Rattle.sk_prog.specs.declared.prog.StructDef.{StructDef}
use Rattle.sk_prog.specs.declared.prog.ConstDef.{ConstDef}
use Rattle.sk_prog.specs.declared.prog.ParamDef.{ParamDef}
use Rattle.sk_prog.specs.declared.prog.Fun.{Fun}
use Rattle.sk_prog.specs.declared.prog.Prog.{Prog}
use Rattle.sk_prog.specs.Names.{is_yes}
use Rattle.sk_types_rules.specs.declared.scope.Variable.{Variable}
use Rattle.sk_types_rules.specs.Rules.{◌>>=◌, int, bit, only_if, in_range, is_length, is_grid}
use Rattle.sk_types_rules.specs.Scope.{Known, Context, top_of}
use Rattle.sk_types_rules.specs.Constants.{whole_number, constant_number}
use Rattle.sk_types_rules.specs.Sorts.{kept, kept_targets, base_elem, with_lengths, written_type}
use Rattle.sk_types_rules.specs.Plain.{plain}
use Rattle.sk_types_rules.specs.Types.{EFormRule, ExprRule, FieldRule, EachMeans, ArgumentsMean, FieldsMean, IsField, eform_means, expr_means, field_means, Means, IsAt, AnyAt, IsTarget, FormRule, StmtRule, BlockMeans, AnyMeans, OneMeans, CountMeans, ReturnMeans, after, StmtMeans, parameters, ParamsMean, ResultMeans, StructFieldsMean, ItemsMean}
use Rattle.sk_types_rules.proofs.Layers.{FormMeans, FieldMeans, rule, form_means_are, means_parts, ActMeans, act_rule, act_means_are, stmt_means_is}
use Rattle.sk_types_laws.proofs.Ats.{both_true, both, bind_some, some_same}
use Rattle.sk_types_laws.proofs.Scopes.{pstmt_law}
use Rattle.sk_print_laws.specs.Numbers.{is_small, ty_small, any_ty_small, eform_small, expr_small, any_expr_small, form_small, stmt_small, struct_small, const_small, fun_small, numbers_small}
use Rattle.sk_print_laws.specs.NumbersSmall.{NumbersAreSmall}
use Rattle.sk_print_laws.proofs.MeansAgain.{natural_range}

-- Numbers

below_small : (n : ℕ) → n < 2147483648 → is_small n ≡ true
below_small n h = le-leb n 2147483647 (omega (arith, h))

range_small : (bounds : Bounds) (n : ℕ) → bounds.int_bits ≤ 32 → in_range bounds n ≡ true → is_small n ≡ true
range_small bounds n narrow h =
    let below : n < 2 ^ (bounds.int_bits - 1) = ltb-true n (2 ^ (bounds.int_bits - 1)) h in
    let at_most : bounds.int_bits - 1 ≤ 31 = omega (arith, narrow) in
    let most : 2 ^ (bounds.int_bits - 1) ≤ 2147483648 = pow_mono {i = bounds.int_bits - 1} {j = 31} at_most in
    below_small n (omega (arith, below, most))

length_small : (n : ℕ) → is_length n ≡ true → is_small n ≡ true
length_small n h =
    let few : n ≤ 64 = leb-true n 64 (both_true (nat_le 1 n) (nat_le n 64) h).1 in
    below_small n (omega (arith, few))

width_small : (bounds : Bounds) (n : ℕ) → bounds.int_bits ≤ 32 → (nat_le 1 n && nat_lt n bounds.int_bits) ≡ true → is_small n ≡ true
width_small bounds n narrow h =
    let below : n < bounds.int_bits = ltb-true n bounds.int_bits (both_true (nat_le 1 n) (nat_lt n bounds.int_bits) h).1 in
    below_small n (omega (arith, narrow, below))

-- Types

when_small : (b : Bool) (u t : Ty) → (b ≡ true → ty_small u ≡ true) → only_if b u ≡ Some t → ty_small t ≡ true
when_small true u t k h = subst (λ t. ty_small t ≡ true) (some_same u t h) (k refl)
when_small false u t k h = cc

module _ (context : Context) (scope : List Variable) where
  lengths_small : (a : Elem) (ns : List (Option ℕ)) (t : Ty) → with_lengths context scope a ns ≡ Some t → ty_small t ≡ true
  lengths_small a [] t h = subst (λ t. ty_small t ≡ true) (some_same _ _ h) refl
  lengths_small a (None ∷ ns) t h = cc
  lengths_small a (Some n ∷ []) t h = when_small (is_length n) (ty.Array a n) t (length_small n) h
  lengths_small a (Some n ∷ None ∷ ns) t h = cc
  lengths_small a (Some n ∷ Some m ∷ []) t h = when_small (is_grid n m) (ty.Grid a n m) t (λ k. let i = both_true (is_length n) _ k in let j = both_true (is_length m) _ i.1 in both _ _ (length_small n i.0) (length_small m j.0)) h
  lengths_small a (Some n ∷ Some m ∷ o ∷ ns) t h = cc

  written_small : (y : TyTree) (t : Ty) → written_type context scope y ≡ Some t → ty_small t ≡ true
  written_small y t h = let a = bind_some (base_elem context scope y.base) _ t h in lengths_small a.0 (map (constant_number context scope) y.lengths) t a.2

-- Expressions

abbrev form_ok : PEForm → Bool
form_ok = fold-PEForm Bool Bool Bool eform_small (λ x. x.form) (λ f. f.value)

abbrev field_ok : PField → Bool
field_ok = fold-PField Bool Bool Bool eform_small (λ x. x.form) (λ f. f.value)

abbrev oks : P.PEForm-F PEForm PExpr PField → P.PEForm-F Bool Bool Bool
oks = map-PEForm PEForm PExpr PField Bool Bool Bool form_ok expr_small field_ok

-- whether the numbers of an expression are small, by its form
small_at : (s : Span) (t : Option Ty) (f : PEForm) (l : P.PEForm-F PEForm PExpr PField) → roll-PEForm l ≡ f → expr_small (record { span = s; ty = t; form = f }) ≡ eform_small (oks l)
small_at s t f l is =
    fold-roll-PExpr Bool Bool Bool eform_small (λ x. x.form) (λ f. f.value) (record { span = s; ty = t; form = f })
    ∙ ap form_ok (sym is)
    ∙ fold-roll-PEForm Bool Bool Bool eform_small (λ x. x.form) (λ f. f.value) l

module _ (context : Context) (narrow : (context.bounds).int_bits ≤ 32) where
  constant_small : (s : List Variable) (e : Expr) (n : ℕ) → constant_number context s e ≡ Some n → is_small n ≡ true
  constant_small s e n h = range_small context.bounds n narrow (natural_range context.bounds (whole_number context s e) n h)

  module _ (scope : List Variable) where
    abbrev FormSmall : PEForm → Type 0
    FormSmall f = (t : Option Ty) (e : Expr) → FormMeans context scope f t e → form_ok f ≡ true

    abbrev ExprSmall : PExpr → Type 0
    ExprSmall p = (e : Expr) → Means context scope p e → expr_small p ≡ true

    abbrev FieldSmall : PField → Type 0
    FieldSmall q = (d : StructDef) (n : NewField) → FieldMeans context scope q d n → field_ok q ≡ true

    abbrev Such : Type 0
    Such = (f : PEForm) × FormSmall f

    abbrev Such' : Type 0
    Such' = (e : PExpr) × ExprSmall e

    abbrev Such'' : Type 0
    Such'' = (f : PField) × FieldSmall f

    abbrev down : P.PEForm-F Such Such' Such'' → P.PEForm-F PEForm PExpr PField
    down = map-PEForm Such Such' Such'' PEForm PExpr PField (λ q. q.0) (λ q. q.0) (λ q. q.0)

    abbrev firsts : List Such' → List PExpr
    firsts qs = map (λ (q : Such'). q.0) qs

    each_small : (qs : List Such') (t : Ty) (es : List Expr) → EachMeans (λ y. y) (Means context scope) t (firsts qs) es → list_all is_yes (map expr_small (firsts qs)) ≡ true
    each_small [] t es m = refl
    each_small (q ∷ qs) t [] m = absurd m
    each_small (q ∷ qs) t (e ∷ es) m = both _ _ (q.1 e m.0) (each_small qs t es m.2)

    args_small : (ds : List ParamDef) (qs : List Such') (es : List Expr) → ArgumentsMean (λ y. y) (Means context scope) scope ds (firsts qs) es → list_all is_yes (map expr_small (firsts qs)) ≡ true
    args_small [] [] es m = refl
    args_small (d ∷ ds) (q ∷ qs) (e ∷ es) m = both _ _ (q.1 e m.0) (args_small ds qs es m.3)
    args_small [] (q ∷ qs) es m = absurd m
    args_small (d ∷ ds) [] es m = refl
    args_small (d ∷ ds) (q ∷ qs) [] m = absurd m

    sets_small : (d : StructDef) (qs : List Such'') (ns : List NewField) → FieldsMean (FieldMeans context scope) d (map (λ (q : Such''). q.0) qs) ns → list_all is_yes (map field_ok (map (λ (q : Such''). q.0) qs)) ≡ true
    sets_small d [] ns m = refl
    sets_small d (q ∷ qs) [] m = absurd m
    sets_small d (q ∷ qs) (n ∷ ns) m = both _ _ (q.1 d n m.0) (sets_small d qs ns m.1)

    layer : (y : P.PEForm-F Such Such' Such'') (t : Option Ty) (e : Expr) → rule context scope (down y) t e → eform_small (oks (down y)) ≡ true
    layer (P.Number n) t e h = range_small context.bounds n narrow h.1
    layer (P.Hole None) t e h = refl
    layer (P.Hole (Some n)) t e h = width_small context.bounds n narrow h.1
    layer (P.Pattern qs) t e h = each_small qs h.3 (kept context scope h.3 h.1) h.6
    layer (P.Paren q) t e h = q.1 h.0 h.2
    layer (P.Call g qs) t e h = args_small (h.3).params qs h.1 h.5
    layer (P.New k qs) t e h = sets_small h.3 qs h.1 h.5
    layer (P.Braces qs) t e h = each_small qs h.3 h.0 h.4
    layer (P.Member q k i) t e h = q.1 h.0 h.3
    layer (P.Index q j) t e h = both _ _ (q.1 h.0 h.3) (j.1 h.1 h.4)
    layer (P.Slice q j m) t e h = both _ _ (q.1 h.0 h.4) (both _ _ (j.1 h.1 h.5) (constant_small scope h.2 m h.10))
    layer (P.Unary o q) t e h = q.1 h.1 h.4
    layer (P.Binary o q j) t e h = both _ _ (q.1 h.1 h.5) (j.1 h.2 h.6)
    layer (P.Cond z q j) t e h = both _ _ (z.1 h.0 h.4) (both _ _ (q.1 h.1 h.5) (j.1 h.2 h.6))
    layer (P.ToInt q) t e h = q.1 e h.0
    layer (P.Pad q) t e h = q.1 e h.0
    layer P.True t e h = refl
    layer P.False t e h = refl
    layer P.Null t e h = refl
    layer (P.Var slot x) t e h = refl
    layer (P.Const c) t e h = refl

    in_expr : (s : Span) (t : Option Ty) (f : PEForm) → FormSmall f → ExprSmall (record { span = s; ty = t; form = f })
    in_expr s t f h e m =
        fold-roll-PExpr Bool Bool Bool eform_small (λ x. x.form) (λ f. f.value) (record { span = s; ty = t; form = f })
        ∙ h t e (means_parts context scope (record { span = s; ty = t; form = f }) e m).1

    in_field : (k : ℕ) (p : PExpr) → ExprSmall p → FieldSmall (record { field = k; value = p })
    in_field k p h d n m =
        let r : FieldMeans context scope (record { field = k; value = p }) ≡ (λ d x. (t : Ty) × IsField d k x.name t × Means context scope p x.value × (p.ty ≡ Some t)) = rec-roll-PField EFormRule ExprRule FieldRule (eform_means context scope) (expr_means context scope) (field_means context scope) (λ X Y Z u v w f k n x. refl) (record { field = k; value = p }) in
        let g = subst (λ (M : FieldRule). M d n) r m in
        fold-roll-PField Bool Bool Bool eform_small (λ x. x.form) (λ f. f.value) (record { field = k; value = p }) ∙ h n.value g.2

    form_from : (y : P.PEForm-F Such Such' Such'') → FormSmall (roll-PEForm (down y))
    form_from y t e m =
        fold-roll-PEForm Bool Bool Bool eform_small (λ x. x.form) (λ f. f.value) (down y)
        ∙ layer y t e (subst (λ (M : EFormRule). M t e) (form_means_are context scope (down y)) m)

    small : (p : PExpr) → ExprSmall p
    small = ind-PExpr FormSmall ExprSmall FieldSmall
        (λ x y is. subst (λ z. FormSmall (roll-PEForm z)) is (form_from y))
        (λ x y is. subst (λ z. ExprSmall (roll-PExpr z)) is (in_expr y.span y.ty y.form.0 y.form.1))
        (λ x y is. subst (λ z. FieldSmall (roll-PField z)) is (in_field y.field y.value.0 y.value.1))

  -- Expressions of statements

  at_small : (s : List Variable) (t : Ty) (p : PExpr) (e : Expr) → IsAt context s t p e → expr_small p ≡ true
  at_small s t p e m = small s p e m.means

  any_small_at : (s : List Variable) (t : Ty) (p : Option PExpr) (e : Option Expr) → AnyAt context s t p e → any_expr_small p ≡ true
  any_small_at s t None None m = refl
  any_small_at s t (Some p) (Some e) m = at_small s t p e m
  any_small_at s t None (Some e) m = absurd m
  any_small_at s t (Some p) None m = absurd m

  parts_small : (s : List Variable) (t : Ty) (ps : List PExpr) (es : List Expr) → EachMeans (λ q. q) (Means context s) t ps es → list_all is_yes (map expr_small ps) ≡ true
  parts_small s t [] [] m = refl
  parts_small s t (p ∷ ps) (e ∷ es) m = both _ _ (small s p e m.0) (parts_small s t ps es m.2)
  parts_small s t [] (e ∷ es) m = absurd m
  parts_small s t (p ∷ ps) [] m = absurd m

  target_small : (s : List Variable) (t : Ty) (p : PExpr) (e : Expr) → IsTarget context s t p e → expr_small p ≡ true
  target_small s t p e (inl m) = at_small s t p e m.is_at
  target_small s t p e (inr m) =
      ap expr_small m.made
      ∙ small_at e.span (Some t) (pform.Pattern m.parts) (P.Pattern m.parts) (pform.rolls-Pattern m.parts)
      ∙ parts_small s t m.parts (kept_targets context s t m.strings) m.kept

  module _ (result : Option Ty) where
    count_small : (s : List Variable) (p : PExpr) (e : Expr) → CountMeans context result s p e → expr_small p ≡ true
    count_small s p e (inl m) = at_small s int p e m.2
    count_small s p e (inr m) =
        let n = m.0 in
        ap expr_small m.3
        ∙ small_at e.span (Some int) (pform.Number n) (P.Number n) (pform.rolls-Number n)
        ∙ constant_small s e n m.1

    return_small : (s : List Variable) (t : Option Ty) (p : Option PExpr) (e : Option Expr) → ReturnMeans context result s t p e → any_expr_small p ≡ true
    return_small s None None None m = refl
    return_small s (Some t) (Some p) (Some e) m = at_small s t p e m
    return_small s None None (Some e) m = absurd m
    return_small s None (Some p) None m = absurd m
    return_small s None (Some p) (Some e) m = absurd m
    return_small s (Some t) None None m = absurd m
    return_small s (Some t) None (Some e) m = absurd m
    return_small s (Some t) (Some p) None m = absurd m

    -- Statements

    abbrev act_ok : PForm → Bool
    act_ok = fold-PForm Bool Bool form_small (λ s. s.form)

    abbrev ActSmall : PForm → Type 0
    ActSmall a = (from : ℕ) (s : List Variable) (f : Form) → ActMeans context result a from s f → act_ok a ≡ true

    abbrev StmtSmall : PStmt → Type 0
    StmtSmall p = (from : ℕ) (s : List Variable) (e : Stmt) → StmtMeans context result p from s e → stmt_small p ≡ true

    abbrev Met : Type 0
    Met = (p : PStmt) × StmtSmall p

    abbrev acts : S.PForm-F ((a : PForm) × ActSmall a) Met → S.PForm-F PForm PStmt
    acts y = map-PForm ((a : PForm) × ActSmall a) Met PForm PStmt (λ q. q.0) (λ q. q.0) y

    of_act : (l : S.PForm-F PForm PStmt) → ((from : ℕ) (s : List Variable) (f : Form) → act_rule context result l from s f → form_small (map-PForm PForm PStmt Bool Bool act_ok stmt_small l) ≡ true) → ActSmall (roll-PForm l)
    of_act l k from s f m = fold-roll-PForm Bool Bool form_small (λ s. s.form) l ∙ k from s f (subst (λ (R : FormRule). R from s f) (act_means_are context result l) m)

    block_small : (from : ℕ) (s : List Variable) (qs : List Met) (es : List Stmt) → BlockMeans (λ p. p) (StmtMeans context result) from s (map (λ q. q.0) qs) es → list_all is_yes (map stmt_small (map (λ (q : Met). q.0) qs)) ≡ true
    block_small from s [] es m = refl
    block_small from s (q ∷ qs) (e ∷ es) m = both _ _ (q.1 from s e m.0) (block_small from (after q.0 s) qs es m.1)
    block_small from s (q ∷ qs) [] m = absurd m

    copy_small : (from : ℕ) (s : List Variable) (qs : List Met) (e : Stmt) → OneMeans (StmtMeans context result) from s (map (λ q. q.0) qs) e → list_all is_yes (map stmt_small (map (λ (q : Met). q.0) qs)) ≡ true
    copy_small from s [] e m = absurd m
    copy_small from s (q ∷ []) e m = both _ _ (q.1 from s e m) refl
    copy_small from s (q ∷ r ∷ qs) e m = absurd m

    stmts_small : (p : PStmt) → StmtSmall p
    stmts_small = pstmt_law ActSmall StmtSmall form_layer stmt_layer
      where
        stmt_layer : (p : PStmt) → ActSmall p.form → StmtSmall p
        stmt_layer p k from s e m =
            let r = subst (λ (R : StmtRule). R from s e) (stmt_means_is context result p) m in
            fold-roll-PStmt Bool Bool form_small (λ s. s.form) (record { span = p.span; form = p.form }) ∙ k from s e.form r.1

        form_layer : (y : S.PForm-F ((a : PForm) × ActSmall a) Met) → ActSmall (roll-PForm (acts y))
        form_layer (S.Block qs) = of_act (S.Block (map (λ q. q.0) qs)) (λ from s f r. block_small (length s) s qs r.0 r.2)
        form_layer (S.Declare slot x t v) = of_act (S.Declare slot x t v) (λ from s f r. both _ _ (written_small context s r.0 t (r.3).type) (any_small_at s t v (r.1).value (r.3).value))
        form_layer (S.Assign p q) = of_act (S.Assign p q) (λ from s f r. both _ _ (target_small s r.3 p r.0 (r.4).target) (at_small s r.3 q r.1 (r.4).value))
        form_layer (S.Call p) = of_act (S.Call p) (λ from s f r. small s p r.0 r.3)
        form_layer (S.If p a None) = of_act (S.If p a.0 None) (λ from s f r. both _ _ (at_small s bit p r.0 r.4) (both _ _ (a.1 from s r.1 r.5) refl))
        form_layer (S.If p a (Some b)) = of_act (S.If p a.0 (Some b.0)) (λ from s f r. some from s r.0 r.1 r.2 r.4 r.5 r.6)
          where
            some : (from : ℕ) (s : List Variable) (x : Expr) (y : Stmt) (z : Option Stmt) → IsAt context s bit p x → StmtMeans context result a.0 from s y → AnyMeans (StmtMeans context result) from s (Some b.0) z → (expr_small p && (stmt_small a.0 && stmt_small b.0)) ≡ true
            some from s x y None m n o = absurd o
            some from s x y (Some z) m n o = both _ _ (at_small s bit p x m) (both _ _ (a.1 from s y n) (b.1 from s z o))
        form_layer (S.While p a) = of_act (S.While p a.0) (λ from s f r. both _ _ (at_small s bit p r.0 r.3) (a.1 from s r.1 r.4))
        form_layer (S.Return v) = of_act (S.Return v) (λ from s f r. return_small s result v r.0 r.2)
        form_layer (S.Assert p) = of_act (S.Assert p) (λ from s f r. at_small s bit p r.0 r.2)
        form_layer (S.Assume p) = of_act (S.Assume p) (λ from s f r. at_small s bit p r.0 r.2)
        form_layer (S.Minimize p) = of_act (S.Minimize p) (λ from s f r. at_small s int p r.0 r.2)
        form_layer (S.Repeat p qs) = of_act (S.Repeat p (map (λ q. q.0) qs)) (λ from s f r. both _ _ (count_small s p r.0 r.3) (copy_small from s qs r.1 r.4))
        form_layer (S.MinRepeat qs) = of_act (S.MinRepeat (map (λ q. q.0) qs)) (λ from s f r. copy_small from s qs r.0 r.2)
        form_layer (S.Reorder qs) = of_act (S.Reorder (map (λ q. q.0) qs)) (λ from s f r. block_small (length s) s qs r.0 r.3)

    body_small : (from : ℕ) (s : List Variable) (ps : List PStmt) (es : List Stmt) → BlockMeans (λ p. p) (StmtMeans context result) from s ps es → list_all stmt_small ps ≡ true
    body_small from s [] es m = refl
    body_small from s (p ∷ ps) (e ∷ es) m = both _ _ (stmts_small p from s e m.0) (body_small from (after p s) ps es m.1)
    body_small from s (p ∷ ps) [] m = absurd m

  -- Items

  result_small : (y : Option TyTree) (t : Option Ty) → ResultMeans context y t → any_ty_small t ≡ true
  result_small None None m = refl
  result_small (Some y) (Some t) m = written_small context [] y t m
  result_small None (Some t) m = absurd m
  result_small (Some y) None m = absurd m

  params_small : (ps : List Param) (ds : List ParamDef) → ParamsMean context ps ds → list_all (λ (d : ParamDef). ty_small d.ty) ds ≡ true
  params_small ps [] m = refl
  params_small (p ∷ ps) (d ∷ ds) m = both _ _ (written_small context [] p.ty d.ty m.0.type) (params_small ps ds m.1)
  params_small [] (d ∷ ds) m = absurd m

  fields_small : (ys : List Field) (ds : List FieldDef) → StructFieldsMean context ys ds → list_all (λ (f : FieldDef). ty_small f.ty) ds ≡ true
  fields_small ys [] m = refl
  fields_small (y ∷ ys) (d ∷ ds) m = both _ _ (written_small context [] y.ty d.ty m.1) (fields_small ys ds m.2)
  fields_small [] (d ∷ ds) m = absurd m

module _ (prog : Prog) (bounds : Bounds) (narrow : bounds.int_bits ≤ 32) where
  abbrev context_of : List Known → Context
  context_of known = record { bounds = bounds; top = top_of prog; known = known }

  record AreSmall (ds : List StructDef) (cs : List ConstDef) (fs : List Fun) : Type 0 where
    structs : list_all struct_small ds ≡ true
    consts : list_all const_small cs ≡ true
    funs : list_all fun_small fs ≡ true

  items_small : (known : List Known) (is : List Item) (ds : List StructDef) (cs : List ConstDef) (fs : List Fun) → ItemsMean bounds (top_of prog) known is ds cs fs → AreSmall ds cs fs
  items_small known [] [] [] [] m = record { structs = refl; consts = refl; funs = refl }
  items_small known (item.Struct x ys ∷ is) (d ∷ ds) cs fs m =
      let rest = items_small known is ds cs fs m.1 in
      record { structs = both _ _ (fields_small (context_of known) narrow ys d.fields m.0.fields) rest.structs; consts = rest.consts; funs = rest.funs }
  items_small known (item.Const x e ∷ is) ds (c ∷ cs) fs m =
      let rest = items_small (known ++ record { name = x; number = m.0 } ∷ []) is ds cs fs m.2 in
      record { structs = rest.structs; consts = both _ _ (small (context_of known) narrow [] c.value e m.1.value.means) rest.consts; funs = rest.funs }
  items_small known (item.Fun g ∷ is) ds cs (f ∷ fs) m =
      let rest = items_small known is ds cs fs m.1 in
      let context = context_of known in
      let one = both _ _ (result_small context narrow g.result f.result m.0.result) (both _ _ (params_small context narrow g.params f.params m.0.params) (body_small context narrow f.result 0 (parameters f.params) f.body g.body m.0.body)) in
      record { structs = rest.structs; consts = rest.consts; funs = both _ _ one rest.funs }
  items_small known [] [] [] (f ∷ fs) m = absurd m
  items_small known [] [] (c ∷ cs) fs m = absurd m
  items_small known [] (d ∷ ds) cs fs m = absurd m
  items_small known (item.Pragma word text ∷ is) ds cs fs m = absurd m
  items_small known (item.Struct x ys ∷ is) [] cs fs m = absurd m
  items_small known (item.Const x e ∷ is) ds [] fs m = absurd m
  items_small known (item.Fun g ∷ is) ds cs [] m = absurd m

pub numbers_are_small : NumbersAreSmall
unfolding numbers_small
numbers_are_small bounds tree prog narrow types =
    let all = items_small prog bounds narrow [] (plain tree).items prog.structs prog.consts prog.funs types.items in
    both _ _ all.structs (both _ _ all.consts all.funs)
