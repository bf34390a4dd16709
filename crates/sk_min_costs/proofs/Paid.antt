-- A program without costs has no `minrepeat` that stands, and so pays for none.
use Rattle.std.proofs.Common.{◌≡◌, ℕ, zero, suc, ◌+◌, ◌-◌, Bool, true, false, List, [], ◌∷◌, ◌++◌, map, length, Option, Some, None, refl, sym, ap, subst, ◌∙◌, true≢false}
use Rattle.std.specs.Prelude.{◌||◌, nat_lt}
use Rattle.std.specs.List.{list_all}
use Rattle.sk_base.specs.declared.span.Span.{Span}
use Rattle.sk_prog.specs.declared.expr.PExpr.{PExpr}
use Rattle.sk_prog.specs.declared.stmt.PStmt.{PStmt}
use Rattle.sk_prog.specs.declared.stmt.PForm.{PForm}
use Rattle.sk_prog.specs.declared.stmt.PForm.TheVariants as form
use Rattle.sk_prog.specs.declared.stmt.PForm.TheOpen as S
use Rattle.sk_prog.specs.declared.stmt.PForm.TheViews as W
use Rattle.sk_prog.specs.declared.stmt.PForm.TheFolds.{map-PForm, fold-PForm}
use Rattle.sk_prog.specs.declared.prog.Fun.{Fun}
use Rattle.sk_prog.specs.Names.{is_yes}
use Rattle.sk_model.specs.Parts.{Part, value}
use Rattle.sk_model.specs.Sites.{is_hole}
use Rattle.sk_model.specs.Stands.{Standing, FunStanding, own, beside, in_row, first_of, expr_standing, value_standing, form_standing, stmt_standing, body_standing, part_if, is_called, fun_standing, standing_from, all_paid}
use Rattle.sk_model.proofs.Induction.{Each, StmtCases, stmt_ind}
use Rattle.sk_model.proofs.Layers.{stmt_layer}
use Rattle.sk_holes_laws.specs.Filling.{Every}
use Rattle.sk_holes_laws.proofs.Paid.{expr_free}
use Rattle.sk_min_costs.specs.Free.{form_free, stmt_free, form_free_of, stmts_free}
use Rattle.sk_min_costs.proofs.Places.{both_true}

abbrev PaysNothing : Part Standing → Type 0
PaysNothing p = (i : ℕ) → (p.at i).paid ≡ []

both_pay : (p q : Part Standing) → PaysNothing p → PaysNothing q → PaysNothing (beside p q)
both_pay p q h k i = λ j. h i j ++ k (i + p.count) j

row_pays : (ps : List (Part Standing)) → Every PaysNothing ps → PaysNothing (in_row ps)
row_pays [] h i = refl
row_pays (p ∷ ps) h i = both_pay p (in_row ps) h.0 (row_pays ps h.1) i

first_pay : (v : ℕ) (ps : List (Part Standing)) → Every PaysNothing ps → Every PaysNothing (first_of v ps)
first_pay v [] h = tt
first_pay zero (p ∷ ps) h = ((λ i. refl), first_pay zero ps h.1)
first_pay (suc v) (p ∷ ps) h = (h.0, first_pay v ps h.1)

module _ (values : List ℕ) where
  abbrev Stands : Type 0
  Stands = Span → Part Standing

  abbrev stand : PStmt → Part Standing
  stand = stmt_standing values

  abbrev stand_f : PForm → Stands
  stand_f = fold-PForm Stands (Part Standing) (form_standing values) (λ s. s.form s.span)

  abbrev At : PStmt → Type 0
  At s = stmt_free s ≡ true → PaysNothing (stand s)

  expr : (e : PExpr) → PaysNothing (expr_standing values e)
  expr e i = expr_free values e i

  any_expr : (e : Option PExpr) → PaysNothing (value_standing values e)
  any_expr None i = refl
  any_expr (Some e) i = expr e i

  rows : (ss : List PStmt) → Each At ss → list_all is_yes (map stmt_free ss) ≡ true → Every PaysNothing (map stand ss)
  rows [] h free = tt
  rows (s ∷ ss) h free =
      let two = both_true (stmt_free s) (list_all is_yes (map stmt_free ss)) free in
      (h.0 two.0, rows ss h.1 two.1)

  abbrev Layer : Type 0
  Layer = S.PForm-F PForm PStmt

  abbrev free_layer : Layer → Bool
  free_layer x = form_free (map-PForm PForm PStmt Bool Bool form_free_of stmt_free x)

  abbrev stand_layer : Layer → Stands
  stand_layer x = form_standing values (map-PForm PForm PStmt Stands (Part Standing) stand_f stand x)

  rolled : (x : Layer) (f : PForm) → W.roll-PForm x ≡ f → (s : Span) → (free_layer x ≡ true → PaysNothing (stand_layer x s)) → At (record { span = s; form = f })
  rolled x f is s h free i =
      let a = stmt_layer Bool Bool form_free (λ s. s.form) x f is s in
      let d = stmt_layer Stands (Part Standing) (form_standing values) (λ s. s.form s.span) x f is s in
      subst (λ (p : Part Standing). (p.at i).paid ≡ []) (sym d) (h (sym a ∙ free) i)

  repeat_at : (s : Span) (c : PExpr) (ss : List PStmt) → Every PaysNothing (map stand ss) → (b : Bool) → is_hole c.form ≡ b → PaysNothing (stand_layer (S.Repeat c ss) s)
  repeat_at s c ss h true e i = rw e (row_pays (first_of (value values i) (map stand ss)) (first_pay (value values i) (map stand ss) h) (i + 1))
  repeat_at s c ss h false e i = rw e (row_pays (map stand ss) h i)

  cases : StmtCases At
  cases = record {
    block = λ s ss h. rolled (S.Block ss) (form.Block ss) (W.rolls-Block ss) s (λ free i. row_pays (map stand ss) (rows ss h free) i);
    declare = λ s slot x t e. rolled (S.Declare slot x t e) (form.Declare slot x t e) (W.rolls-Declare slot x t e) s (λ free i. any_expr e i);
    assign = λ s p e. rolled (S.Assign p e) (form.Assign p e) (W.rolls-Assign p e) s (λ free i. both_pay (expr_standing values p) (expr_standing values e) (expr p) (expr e) i);
    calls = λ s e. rolled (S.Call e) (form.Call e) (W.rolls-Call e) s (λ free i. expr e i);
    if_only = λ s c a h. rolled (S.If c a None) (form.If c a None) (W.rolls-If c a None) s (λ free i. both_pay (expr_standing values c) (beside (stand a) (own 0)) (expr c) (both_pay (stand a) (own 0) (h (both_true (stmt_free a) true free).0) (λ i. refl)) i);
    if_else = λ s c a b h k. rolled (S.If c a (Some b)) (form.If c a (Some b)) (W.rolls-If c a (Some b)) s (λ free i. (let two = both_true (stmt_free a) (stmt_free b) free in both_pay (expr_standing values c) (beside (stand a) (stand b)) (expr c) (both_pay (stand a) (stand b) (h two.0) (k two.1)) i));
    loop = λ s c a h. rolled (S.While c a) (form.While c a) (W.rolls-While c a) s (λ free i. both_pay (expr_standing values c) (stand a) (expr c) (h free) i);
    returns = λ s e. rolled (S.Return e) (form.Return e) (W.rolls-Return e) s (λ free i. any_expr e i);
    asserts = λ s e. rolled (S.Assert e) (form.Assert e) (W.rolls-Assert e) s (λ free i. expr e i);
    assumes = λ s e. rolled (S.Assume e) (form.Assume e) (W.rolls-Assume e) s (λ free i. expr e i);
    minimizes = λ s e. rolled (S.Minimize e) (form.Minimize e) (W.rolls-Minimize e) s (λ free i. absurd (true≢false (sym free)));
    repeats = λ s c ss h. rolled (S.Repeat c ss) (form.Repeat c ss) (W.rolls-Repeat c ss) s (λ free. repeat_at s c ss (rows ss h free) (is_hole c.form) refl);
    minrepeat = λ s ss h. rolled (S.MinRepeat ss) (form.MinRepeat ss) (W.rolls-MinRepeat ss) s (λ free i. absurd (true≢false (sym free)));
    reorder = λ s ss h. rolled (S.Reorder ss) (form.Reorder ss) (W.rolls-Reorder ss) s (λ free i. row_pays (map stand ss) (rows ss h free) (i + (length (map stand ss) - 1)));
  }

  stmt_pays : (s : PStmt) → At s
  stmt_pays = stmt_ind At cases

  all_pay : (ss : List PStmt) → Each At ss
  all_pay [] = tt
  all_pay (s ∷ ss) = (stmt_pays s, all_pay ss)

  body_pays : (ss : List PStmt) → stmts_free ss ≡ true → PaysNothing (body_standing values ss)
  body_pays ss free = row_pays (map stand ss) (rows ss (all_pay ss) free)

  part_pays : (b : Bool) (p : Part Standing) → PaysNothing p → PaysNothing (part_if b p)
  part_pays true p h i = h i
  part_pays false p h i = refl

  -- functions whose bodies are free pay nothing
  pub funs_pay : (ordinary : ℕ) (called : List ℕ) (n i : ℕ) (fs : List Fun) → list_all (λ (f : Fun). stmts_free f.body) fs ≡ true → all_paid (standing_from values ordinary called n i fs) ≡ []
  funs_pay ordinary called n i [] free = refl
  funs_pay ordinary called n i (f ∷ fs) free =
      let two = both_true (stmts_free f.body) (list_all (λ (f : Fun). stmts_free f.body) fs) free in
      let s : FunStanding = fun_standing values ordinary (nat_lt n ordinary || is_called called n) i f in
      let rest = standing_from values ordinary (called ++ s.within.called) (n + 1) (i + (body_standing values f.body).count) fs in
      ap (λ ps. ps ++ all_paid rest) (part_pays (nat_lt n ordinary || is_called called n) (body_standing values f.body) (body_pays f.body two.0) i)
      ∙ funs_pay ordinary (called ++ s.within.called) (n + 1) (i + (body_standing values f.body).count) fs two.1
