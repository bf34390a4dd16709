-- A test that all calls of a statement pass is passed by those that stand.
use Rattle.std.proofs.Common.{◌≡◌, ℕ, zero, suc, ◌+◌, Bool, true, false, ◌&&◌, List, [], ◌∷◌, map, Option, Some, None, sym, subst, ◌∙◌}
use Rattle.std.specs.Prelude.{if◌then◌else◌}
use Rattle.std.specs.List.{list_all}
use Rattle.std.proofs.lemmas.Bool.{and_parts}
use Rattle.sk_base.specs.declared.span.Span.{Span}
use Rattle.sk_prog.specs.declared.ty.Ty.{Ty}
use Rattle.sk_prog.specs.declared.expr.PExpr.{PExpr}
use Rattle.sk_prog.specs.declared.expr.PField.{PField}
use Rattle.sk_prog.specs.declared.expr.PEForm.{PEForm}
use Rattle.sk_prog.specs.declared.expr.PEForm.TheOpen as P
use Rattle.sk_prog.specs.declared.expr.PEForm.TheFolds.{map-PEForm, fold-PEForm, fold-PField, fold-roll-PEForm, fold-roll-PExpr, fold-roll-PField}
use Rattle.sk_prog.specs.declared.stmt.PStmt.{PStmt}
use Rattle.sk_prog.specs.declared.stmt.PForm.{PForm}
use Rattle.sk_prog.specs.declared.stmt.PForm.TheVariants as pform
use Rattle.sk_prog.specs.declared.stmt.PForm.TheOpen as S
use Rattle.sk_prog.specs.declared.stmt.PForm.TheViews as W
use Rattle.sk_prog.specs.declared.stmt.PForm.TheFolds.{map-PForm, fold-PForm}
use Rattle.sk_prog.specs.Names.{is_yes}
use Rattle.sk_types_laws.proofs.Ats.{pexpr_law}
use Rattle.sk_model.specs.Parts.{Part, value}
use Rattle.sk_model.specs.Sites.{is_hole}
use Rattle.sk_model.specs.Stands.{Standing, own, beside, in_row, first_of, only, by_value, eform_standing, expr_standing, value_standing, form_standing, stmt_standing}
use Rattle.sk_model.proofs.Layers.{stmt_layer}
use Rattle.sk_model.proofs.Induction.{StmtCases, stmt_ind}
use Rattle.sk_holes_laws.specs.Callees.{eform_callees, expr_callees, any_callees, form_callees, stmt_callees}
use Rattle.sk_holes_laws.specs.Filling.{Every}
use Rattle.sk_holes_laws.proofs.Rows.{every_join}
use Rattle.sk_holes_laws.proofs.Exprs.{every_of}
use Rattle.sk_holes_laws.proofs.Declared.{SLayer}

module _ (test : ℕ → Bool) (values : List ℕ) where
  abbrev Passes : ℕ → Type 0
  Passes m = test m ≡ true

  abbrev Good : Part Standing → Type 0
  Good T = (i : ℕ) → Every Passes (T.at i).called

  both_good : (T U : Part Standing) → Good T → Good U → Good (beside T U)
  both_good T U h k i = every_join Passes (T.at i).called (U.at (i + T.count)).called (h i) (k (i + T.count))

  row_good : (ps : List (Part Standing)) → Every Good ps → Good (in_row ps)
  row_good [] h i = tt
  row_good (p ∷ ps) h i = both_good p (in_row ps) h.0 (row_good ps h.1) i

  first_good : (v : ℕ) (ps : List (Part Standing)) → Every Good ps → Every Good (first_of v ps)
  first_good v [] h = tt
  first_good zero (p ∷ ps) h = ((λ i. tt), first_good zero ps h.1)
  first_good (suc v) (p ∷ ps) h = (h.0, first_good v ps h.1)

  only_good : (v : ℕ) (ps : List (Part Standing)) → Every Good ps → Every Good (only v ps)
  only_good v [] h = tt
  only_good zero (p ∷ ps) h = (h.0, first_good zero ps h.1)
  only_good (suc v) (p ∷ ps) h = ((λ i. tt), only_good v ps h.1)

  -- Expressions

  abbrev act_test : PEForm → Bool
  act_test = fold-PEForm Bool Bool Bool (eform_callees test) (λ x. x.form) (λ x. x.value)

  abbrev field_test : PField → Bool
  field_test = fold-PField Bool Bool Bool (eform_callees test) (λ x. x.form) (λ x. x.value)

  abbrev act_standing : PEForm → Option Ty → Part Standing
  act_standing = fold-PEForm (Option Ty → Part Standing) (Part Standing) (Part Standing) (eform_standing values) (λ e. e.form e.ty) (λ x. x.value)

  abbrev field_standing : PField → Part Standing
  field_standing = fold-PField (Option Ty → Part Standing) (Part Standing) (Part Standing) (eform_standing values) (λ e. e.form e.ty) (λ x. x.value)

  abbrev FormGood : PEForm → Type 0
  FormGood g = act_test g ≡ true → (t : Option Ty) → Good (act_standing g t)

  abbrev ExprGood : PExpr → Type 0
  ExprGood p = expr_callees test p ≡ true → Good (expr_standing values p)

  abbrev FieldGood : PField → Type 0
  FieldGood x = field_test x ≡ true → Good (field_standing x)

  abbrev Above : Type 0
  Above = P.PEForm-F ((g : PEForm) × FormGood g) ((p : PExpr) × ExprGood p) ((x : PField) × FieldGood x)

  abbrev below : Above → P.PEForm-F PEForm PExpr PField
  below y = map-PEForm ((g : PEForm) × FormGood g) ((p : PExpr) × ExprGood p) ((x : PField) × FieldGood x) PEForm PExpr PField (λ q. q.0) (λ q. q.0) (λ q. q.0) y

  abbrev tests_of : P.PEForm-F PEForm PExpr PField → P.PEForm-F Bool Bool Bool
  tests_of l = map-PEForm PEForm PExpr PField Bool Bool Bool act_test (expr_callees test) field_test l

  abbrev stands_of : P.PEForm-F PEForm PExpr PField → P.PEForm-F (Option Ty → Part Standing) (Part Standing) (Part Standing)
  stands_of l = map-PEForm PEForm PExpr PField (Option Ty → Part Standing) (Part Standing) (Part Standing) act_standing (expr_standing values) field_standing l

  good_rows : (qs : List ((p : PExpr) × ExprGood p)) → list_all is_yes (map (expr_callees test) (map (λ q. q.0) qs)) ≡ true → Every Good (map (expr_standing values) (map (λ q. q.0) qs))
  good_rows [] h = tt
  good_rows (q ∷ qs) h = let b = and_parts (expr_callees test q.0) (list_all is_yes (map (expr_callees test) (map (λ q. q.0) qs))) h in (q.1 b.0, good_rows qs b.1)

  good_sets : (qs : List ((x : PField) × FieldGood x)) → list_all is_yes (map field_test (map (λ q. q.0) qs)) ≡ true → Every Good (map field_standing (map (λ q. q.0) qs))
  good_sets [] h = tt
  good_sets (q ∷ qs) h = let b = and_parts (field_test q.0) (list_all is_yes (map field_test (map (λ q. q.0) qs))) h in (q.1 b.0, good_sets qs b.1)

  two_good : (p q : (p : PExpr) × ExprGood p) → (expr_callees test p.0 && expr_callees test q.0) ≡ true → Good (beside (expr_standing values p.0) (expr_standing values q.0))
  two_good p q h = let b = and_parts (expr_callees test p.0) (expr_callees test q.0) h in both_good (expr_standing values p.0) (expr_standing values q.0) (p.1 b.0) (q.1 b.1)

  good_layer : (y : Above) → eform_callees test (tests_of (below y)) ≡ true → (t : Option Ty) (i : ℕ) → Every Passes ((eform_standing values (stands_of (below y)) t).at i).called
  good_layer (P.Number n) h t i = tt
  good_layer P.True h t i = tt
  good_layer P.False h t i = tt
  good_layer P.Null h t i = tt
  good_layer (P.Var slot x) h t i = tt
  good_layer (P.Const c) h t i = tt
  good_layer (P.Hole w) h t i = tt
  good_layer (P.Pattern qs) h t i = row_good (only (value values i) (map (expr_standing values) (map (λ q. q.0) qs))) (only_good (value values i) (map (expr_standing values) (map (λ q. q.0) qs)) (good_rows qs h)) (i + 1)
  good_layer (P.Paren q) h t i = q.1 h i
  good_layer (P.Call g qs) h t i = let b = and_parts (test g.index) (list_all is_yes (map (expr_callees test) (map (λ q. q.0) qs))) h in (b.0, row_good (map (expr_standing values) (map (λ q. q.0) qs)) (good_rows qs b.1) i)
  good_layer (P.New k qs) h t i = row_good (map field_standing (map (λ q. q.0) qs)) (good_sets qs h) i
  good_layer (P.Braces qs) h t i = row_good (map (expr_standing values) (map (λ q. q.0) qs)) (good_rows qs h) i
  good_layer (P.Member q k j) h t i = q.1 h i
  good_layer (P.Index q j) h t i = two_good q j h i
  good_layer (P.Slice q j m) h t i = two_good q j h i
  good_layer (P.Unary o q) h t i = q.1 h i
  good_layer (P.Binary o q j) h t i = two_good q j h i
  good_layer (P.Cond c q j) h t i = let b = and_parts (expr_callees test c.0) (expr_callees test q.0 && expr_callees test j.0) h in both_good (expr_standing values c.0) (beside (expr_standing values q.0) (expr_standing values j.0)) (c.1 b.0) (two_good q j b.1) i
  good_layer (P.ToInt q) h t i = q.1 h i
  good_layer (P.Pad q) h t i = q.1 h i

  expr_good : (p : PExpr) → ExprGood p
  expr_good = pexpr_law FormGood ExprGood FieldGood
      (λ y h t. subst (λ (z : Option Ty → Part Standing). Good (z t)) (sym (fold-roll-PEForm (Option Ty → Part Standing) (Part Standing) (Part Standing) (eform_standing values) (λ e. e.form e.ty) (λ x. x.value) (below y))) (good_layer y (sym (fold-roll-PEForm Bool Bool Bool (eform_callees test) (λ x. x.form) (λ x. x.value) (below y)) ∙ h) t))
      (λ p k h. subst Good (sym (fold-roll-PExpr (Option Ty → Part Standing) (Part Standing) (Part Standing) (eform_standing values) (λ e. e.form e.ty) (λ x. x.value) (record { span = p.span; ty = p.ty; form = p.form }))) (k (sym (fold-roll-PExpr Bool Bool Bool (eform_callees test) (λ x. x.form) (λ x. x.value) (record { span = p.span; ty = p.ty; form = p.form })) ∙ h) p.ty))
      (λ x k h. subst Good (sym (fold-roll-PField (Option Ty → Part Standing) (Part Standing) (Part Standing) (eform_standing values) (λ e. e.form e.ty) (λ x. x.value) (record { field = x.field; value = x.value }))) (k (sym (fold-roll-PField Bool Bool Bool (eform_callees test) (λ x. x.form) (λ x. x.value) (record { field = x.field; value = x.value })) ∙ h)))

  value_good : (v : Option PExpr) → any_callees test v ≡ true → Good (value_standing values v)
  value_good None h i = tt
  value_good (Some p) h i = expr_good p h i

  -- Statements

  abbrev StmtGood : PStmt → Type 0
  StmtGood p = stmt_callees test p ≡ true → Good (stmt_standing values p)

  abbrev act_stmt_test : PForm → Bool
  act_stmt_test = fold-PForm Bool Bool (form_callees test) (λ s. s.form)

  abbrev act_stmt_standing : PForm → Span → Part Standing
  act_stmt_standing = fold-PForm (Span → Part Standing) (Part Standing) (form_standing values) (λ s. s.form s.span)

  abbrev layer_test : SLayer → Bool
  layer_test x = form_callees test (map-PForm PForm PStmt Bool Bool act_stmt_test (stmt_callees test) x)

  abbrev layer_standing : SLayer → Span → Part Standing
  layer_standing x s = form_standing values (map-PForm PForm PStmt (Span → Part Standing) (Part Standing) act_stmt_standing (stmt_standing values) x) s

  by_form : (x : SLayer) (g : PForm) → W.roll-PForm x ≡ g → (s : Span) → (layer_test x ≡ true → Good (layer_standing x s)) → StmtGood (record { span = s; form = g })
  by_form x g is s h k = subst Good (sym (stmt_layer (Span → Part Standing) (Part Standing) (form_standing values) (λ s. s.form s.span) x g is s)) (h (sym (stmt_layer Bool Bool (form_callees test) (λ s. s.form) x g is s) ∙ k))

  stmt_rows : (ps : List PStmt) → Every StmtGood ps → list_all is_yes (map (stmt_callees test) ps) ≡ true → Every Good (map (stmt_standing values) ps)
  stmt_rows [] h k = tt
  stmt_rows (p ∷ ps) h k = let b = and_parts (stmt_callees test p) (list_all is_yes (map (stmt_callees test) ps)) k in (h.0 b.0, stmt_rows ps h.1 b.1)

  repeat_good : (c : Bool) (ps : List PStmt) → Every Good (map (stmt_standing values) ps) → Good (if c then by_value values first_of (map (stmt_standing values) ps) else in_row (map (stmt_standing values) ps))
  repeat_good true ps h i = row_good (first_of (value values i) (map (stmt_standing values) ps)) (first_good (value values i) (map (stmt_standing values) ps) h) (i + 1)
  repeat_good false ps h i = row_good (map (stmt_standing values) ps) h i

  cases : StmtCases StmtGood
  cases = record {
    block = λ s ps h. by_form (S.Block ps) (pform.Block ps) (pform.rolls-Block ps) s (λ k. row_good (map (stmt_standing values) ps) (stmt_rows ps (every_of StmtGood ps h) k));
    declare = λ s slot x t v. by_form (S.Declare slot x t v) (pform.Declare slot x t v) (pform.rolls-Declare slot x t v) s (λ k. value_good v k);
    assign = λ s p e. by_form (S.Assign p e) (pform.Assign p e) (pform.rolls-Assign p e) s (λ k. let b = and_parts (expr_callees test p) (expr_callees test e) k in both_good (expr_standing values p) (expr_standing values e) (expr_good p b.0) (expr_good e b.1));
    calls = λ s p. by_form (S.Call p) (pform.Call p) (pform.rolls-Call p) s (λ k. expr_good p k);
    if_only = λ s c a h. by_form (S.If c a None) (pform.If c a None) (pform.rolls-If c a None) s (λ k. let b = and_parts (expr_callees test c) (stmt_callees test a && true) k in let d = and_parts (stmt_callees test a) true b.1 in both_good (expr_standing values c) (beside (stmt_standing values a) (own 0)) (expr_good c b.0) (both_good (stmt_standing values a) (own 0) (h d.0) (λ i. tt)));
    if_else = λ s c a e h g. by_form (S.If c a (Some e)) (pform.If c a (Some e)) (pform.rolls-If c a (Some e)) s (λ k. let b = and_parts (expr_callees test c) (stmt_callees test a && stmt_callees test e) k in let d = and_parts (stmt_callees test a) (stmt_callees test e) b.1 in both_good (expr_standing values c) (beside (stmt_standing values a) (stmt_standing values e)) (expr_good c b.0) (both_good (stmt_standing values a) (stmt_standing values e) (h d.0) (g d.1)));
    loop = λ s c a h. by_form (S.While c a) (pform.While c a) (pform.rolls-While c a) s (λ k. let b = and_parts (expr_callees test c) (stmt_callees test a) k in both_good (expr_standing values c) (stmt_standing values a) (expr_good c b.0) (h b.1));
    returns = λ s v. by_form (S.Return v) (pform.Return v) (pform.rolls-Return v) s (λ k. value_good v k);
    asserts = λ s p. by_form (S.Assert p) (pform.Assert p) (pform.rolls-Assert p) s (λ k. expr_good p k);
    assumes = λ s p. by_form (S.Assume p) (pform.Assume p) (pform.rolls-Assume p) s (λ k. expr_good p k);
    minimizes = λ s p. by_form (S.Minimize p) (pform.Minimize p) (pform.rolls-Minimize p) s (λ k. expr_good p k);
    repeats = λ s c ps h. by_form (S.Repeat c ps) (pform.Repeat c ps) (pform.rolls-Repeat c ps) s (λ k. let b = and_parts (expr_callees test c) (list_all is_yes (map (stmt_callees test) ps)) k in repeat_good (is_hole c.form) ps (stmt_rows ps (every_of StmtGood ps h) b.1));
    minrepeat = λ s ps h. by_form (S.MinRepeat ps) (pform.MinRepeat ps) (pform.rolls-MinRepeat ps) s (λ k i. repeat_good true ps (stmt_rows ps (every_of StmtGood ps h) k) i);
    reorder = λ s ps h. by_form (S.Reorder ps) (pform.Reorder ps) (pform.rolls-Reorder ps) s (λ k i. row_good (map (stmt_standing values) ps) (stmt_rows ps (every_of StmtGood ps h) k) _);
  }

  stmt_good : (p : PStmt) → StmtGood p
  stmt_good = stmt_ind StmtGood cases

  all_good : (ps : List PStmt) → list_all (stmt_callees test) ps ≡ true → Every Good (map (stmt_standing values) ps)
  all_good [] h = tt
  all_good (p ∷ ps) h = let b = and_parts (stmt_callees test p) (list_all (stmt_callees test) ps) h in (stmt_good p b.0, all_good ps b.1)

  -- each call of a body that stands passes
  pub body_called : (ps : List PStmt) → list_all (stmt_callees test) ps ≡ true → (i : ℕ) → Every Passes ((in_row (map (stmt_standing values) ps)).at i).called
  body_called ps h i = row_good (map (stmt_standing values) ps) (all_good ps h) i
