-- What leaves nothing open holds no pattern.
use Rattle.std.proofs.Common.{◌≡◌, Bool, true, ◌&&◌, List, [], ◌∷◌, map, Option, Some, None, refl, sym, ◌∙◌}
use Rattle.std.specs.List.{list_all}
use Rattle.std.proofs.lemmas.Bool.{and_parts}
use Rattle.sk_base.specs.declared.span.Span.{Span}
use Rattle.sk_prog.specs.declared.expr.PExpr.{PExpr}
use Rattle.sk_prog.specs.declared.expr.PField.{PField}
use Rattle.sk_prog.specs.declared.expr.PEForm.{PEForm}
use Rattle.sk_prog.specs.declared.expr.PEForm.TheOpen as P
use Rattle.sk_prog.specs.declared.expr.PEForm.TheFolds.{map-PEForm, fold-PEForm, fold-PField, fold-roll-PEForm, fold-roll-PExpr, fold-roll-PField, para-PEForm, para-PField, para-roll-PEForm, para-roll-PExpr, para-roll-PField}
use Rattle.sk_prog.specs.declared.stmt.PStmt.{PStmt}
use Rattle.sk_prog.specs.declared.stmt.PForm.{PForm}
use Rattle.sk_prog.specs.declared.stmt.PForm.TheVariants as pform
use Rattle.sk_prog.specs.declared.stmt.PForm.TheOpen as S
use Rattle.sk_prog.specs.declared.stmt.PForm.TheViews as W
use Rattle.sk_prog.specs.declared.stmt.PForm.TheFolds.{map-PForm, fold-PForm}
use Rattle.sk_prog.specs.declared.prog.Fun.{Fun}
use Rattle.sk_prog.specs.declared.prog.Prog.{Prog}
use Rattle.sk_types_rules.specs.WellTyped.{is_yes, eform_patterns, expr_patterns, any_patterns, form_patterns, stmt_patterns, fun_patterns}
use Rattle.sk_types_laws.proofs.Ats.{pexpr_law}
use Rattle.sk_model.specs.Filled.{eform_filled, expr_filled, any_filled, form_filled, stmt_filled, fun_filled}
use Rattle.sk_model.proofs.Layers.{stmt_layer}
use Rattle.sk_model.proofs.Induction.{StmtCases, stmt_ind}
use Rattle.sk_holes_laws.specs.Filling.{Every}
use Rattle.sk_holes_laws.proofs.Exprs.{every_of}
use Rattle.sk_holes_laws.proofs.Declared.{SLayer}

module _ (prog : Prog) where
  abbrev act_filled : PEForm → Bool
  act_filled = fold-PEForm Bool Bool Bool eform_filled (λ x. x.form) (λ x. x.value)

  abbrev field_filled : PField → Bool
  field_filled = fold-PField Bool Bool Bool eform_filled (λ x. x.form) (λ x. x.value)

  abbrev act_patterns : PEForm → Bool
  act_patterns = para-PEForm Bool Bool Bool (eform_patterns prog) (λ p. p.form.1) (λ f. f.value.1)

  abbrev field_patterns : PField → Bool
  field_patterns = para-PField Bool Bool Bool (eform_patterns prog) (λ p. p.form.1) (λ f. f.value.1)

  abbrev Above : Type 0
  Above = P.PEForm-F ((g : PEForm) × (act_filled g ≡ true → act_patterns g ≡ true)) ((p : PExpr) × (expr_filled p ≡ true → expr_patterns prog p ≡ true)) ((x : PField) × (field_filled x ≡ true → field_patterns x ≡ true))

  abbrev below : Above → P.PEForm-F PEForm PExpr PField
  below y = map-PEForm ((g : PEForm) × (act_filled g ≡ true → act_patterns g ≡ true)) ((p : PExpr) × (expr_filled p ≡ true → expr_patterns prog p ≡ true)) ((x : PField) × (field_filled x ≡ true → field_patterns x ≡ true)) PEForm PExpr PField (λ q. q.0) (λ q. q.0) (λ q. q.0) y

  abbrev fills_of : P.PEForm-F PEForm PExpr PField → P.PEForm-F Bool Bool Bool
  fills_of l = map-PEForm PEForm PExpr PField Bool Bool Bool act_filled expr_filled field_filled l

  abbrev patterns_of : P.PEForm-F PEForm PExpr PField → P.PEForm-F (PEForm × Bool) (PExpr × Bool) (PField × Bool)
  patterns_of l = map-PEForm PEForm PExpr PField (PEForm × Bool) (PExpr × Bool) (PField × Bool) (λ f. (f, act_patterns f)) (λ e. (e, expr_patterns prog e)) (λ x. (x, field_patterns x)) l

  rows : (qs : List ((p : PExpr) × (expr_filled p ≡ true → expr_patterns prog p ≡ true))) → list_all is_yes (map expr_filled (map (λ q. q.0) qs)) ≡ true → list_all (λ (e : PExpr × Bool). e.1) (map (λ e. (e, expr_patterns prog e)) (map (λ q. q.0) qs)) ≡ true
  rows [] h = refl
  rows (q ∷ qs) h =
      let b = and_parts (expr_filled q.0) (list_all is_yes (map expr_filled (map (λ q. q.0) qs))) h in
      let one = q.1 b.0 in
      let rest = rows qs b.1 in
      λ i. one i && rest i

  sets : (qs : List ((x : PField) × (field_filled x ≡ true → field_patterns x ≡ true))) → list_all is_yes (map field_filled (map (λ q. q.0) qs)) ≡ true → list_all (λ (e : PField × Bool). e.1) (map (λ e. (e, field_patterns e)) (map (λ q. q.0) qs)) ≡ true
  sets [] h = refl
  sets (q ∷ qs) h =
      let b = and_parts (field_filled q.0) (list_all is_yes (map field_filled (map (λ q. q.0) qs))) h in
      let one = q.1 b.0 in
      let rest = sets qs b.1 in
      λ i. one i && rest i

  abbrev Part : Type 0
  Part = (p : PExpr) × (expr_filled p ≡ true → expr_patterns prog p ≡ true)

  two : (p q : Part) → (expr_filled p.0 && expr_filled q.0) ≡ true → (expr_patterns prog p.0 && expr_patterns prog q.0) ≡ true
  two p q h = let b = and_parts (expr_filled p.0) (expr_filled q.0) h in let x = p.1 b.0 in let y = q.1 b.1 in λ i. x i && y i

  layer : (y : Above) → eform_filled (fills_of (below y)) ≡ true → eform_patterns prog (patterns_of (below y)) ≡ true
  layer (P.Number n) h = refl
  layer P.True h = refl
  layer P.False h = refl
  layer P.Null h = refl
  layer (P.Var slot x) h = refl
  layer (P.Const c) h = refl
  layer (P.Hole w) h = cc
  layer (P.Pattern qs) h = cc
  layer (P.Paren q) h = q.1 h
  layer (P.Call g qs) h = rows qs h
  layer (P.New k qs) h = sets qs h
  layer (P.Braces qs) h = rows qs h
  layer (P.Member q k j) h = q.1 h
  layer (P.Index q j) h = two q j h
  layer (P.Slice q j m) h = two q j h
  layer (P.Unary o q) h = q.1 h
  layer (P.Binary o q j) h = two q j h
  layer (P.Cond c q j) h =
      let b = and_parts (expr_filled c.0) (expr_filled q.0 && expr_filled j.0) h in
      let x = c.1 b.0 in
      let y = two q j b.1 in
      λ i. x i && y i
  layer (P.ToInt q) h = q.1 h
  layer (P.Pad q) h = q.1 h

  pub expr_holds : (p : PExpr) → expr_filled p ≡ true → expr_patterns prog p ≡ true
  expr_holds = pexpr_law (λ g. act_filled g ≡ true → act_patterns g ≡ true) (λ p. expr_filled p ≡ true → expr_patterns prog p ≡ true) (λ x. field_filled x ≡ true → field_patterns x ≡ true)
      (λ y h. para-roll-PEForm Bool Bool Bool (eform_patterns prog) (λ p. p.form.1) (λ f. f.value.1) (below y) ∙ layer y (sym (fold-roll-PEForm Bool Bool Bool eform_filled (λ x. x.form) (λ x. x.value) (below y)) ∙ h))
      (λ p k h. para-roll-PExpr Bool Bool Bool (eform_patterns prog) (λ p. p.form.1) (λ f. f.value.1) (record { span = p.span; ty = p.ty; form = p.form }) ∙ k (sym (fold-roll-PExpr Bool Bool Bool eform_filled (λ x. x.form) (λ x. x.value) (record { span = p.span; ty = p.ty; form = p.form })) ∙ h))
      (λ x k h. para-roll-PField Bool Bool Bool (eform_patterns prog) (λ p. p.form.1) (λ f. f.value.1) (record { field = x.field; value = x.value }) ∙ k (sym (fold-roll-PField Bool Bool Bool eform_filled (λ x. x.form) (λ x. x.value) (record { field = x.field; value = x.value })) ∙ h))

  value_holds : (v : Option PExpr) → any_filled v ≡ true → any_patterns prog v ≡ true
  value_holds None h = refl
  value_holds (Some p) h = expr_holds p h

  -- Statements

  abbrev StmtHolds : PStmt → Type 0
  StmtHolds p = stmt_filled p ≡ true → stmt_patterns prog p ≡ true

  abbrev act_stmt_filled : PForm → Bool
  act_stmt_filled = fold-PForm Bool Bool form_filled (λ s. s.form)

  abbrev act_stmt_patterns : PForm → Bool
  act_stmt_patterns = fold-PForm Bool Bool (form_patterns prog) (λ s. s.form)

  abbrev layer_filled : SLayer → Bool
  layer_filled x = form_filled (map-PForm PForm PStmt Bool Bool act_stmt_filled stmt_filled x)

  abbrev layer_patterns : SLayer → Bool
  layer_patterns x = form_patterns prog (map-PForm PForm PStmt Bool Bool act_stmt_patterns (stmt_patterns prog) x)

  by_form : (x : SLayer) (g : PForm) → W.roll-PForm x ≡ g → (s : Span) → (layer_filled x ≡ true → layer_patterns x ≡ true) → StmtHolds (record { span = s; form = g })
  by_form x g is s h k = stmt_layer Bool Bool (form_patterns prog) (λ s. s.form) x g is s ∙ h (sym (stmt_layer Bool Bool form_filled (λ s. s.form) x g is s) ∙ k)

  block_holds : (ps : List PStmt) → Every StmtHolds ps → list_all is_yes (map stmt_filled ps) ≡ true → list_all is_yes (map (stmt_patterns prog) ps) ≡ true
  block_holds [] h k = refl
  block_holds (p ∷ ps) h k =
      let b = and_parts (stmt_filled p) (list_all is_yes (map stmt_filled ps)) k in
      let one = h.0 b.0 in
      let rest = block_holds ps h.1 b.1 in
      λ i. one i && rest i

  cases : StmtCases StmtHolds
  cases = record {
    block = λ s ps h. by_form (S.Block ps) (pform.Block ps) (pform.rolls-Block ps) s (λ k. block_holds ps (every_of StmtHolds ps h) k);
    declare = λ s slot x t v. by_form (S.Declare slot x t v) (pform.Declare slot x t v) (pform.rolls-Declare slot x t v) s (λ k. value_holds v k);
    assign = λ s p e. by_form (S.Assign p e) (pform.Assign p e) (pform.rolls-Assign p e) s (λ k. let b = and_parts (expr_filled p) (expr_filled e) k in let x = expr_holds p b.0 in let y = expr_holds e b.1 in λ i. x i && y i);
    calls = λ s p. by_form (S.Call p) (pform.Call p) (pform.rolls-Call p) s (λ k. expr_holds p k);
    if_only = λ s c a h. by_form (S.If c a None) (pform.If c a None) (pform.rolls-If c a None) s (λ k. let b = and_parts (expr_filled c) (stmt_filled a && true) k in let d = and_parts (stmt_filled a) true b.1 in let x = expr_holds c b.0 in let y = h d.0 in λ i. x i && (y i && true));
    if_else = λ s c a e h g. by_form (S.If c a (Some e)) (pform.If c a (Some e)) (pform.rolls-If c a (Some e)) s (λ k. let b = and_parts (expr_filled c) (stmt_filled a && stmt_filled e) k in let d = and_parts (stmt_filled a) (stmt_filled e) b.1 in let x = expr_holds c b.0 in let y = h d.0 in let z = g d.1 in λ i. x i && (y i && z i));
    loop = λ s c a h. by_form (S.While c a) (pform.While c a) (pform.rolls-While c a) s (λ k. let b = and_parts (expr_filled c) (stmt_filled a) k in let x = expr_holds c b.0 in let y = h b.1 in λ i. x i && y i);
    returns = λ s v. by_form (S.Return v) (pform.Return v) (pform.rolls-Return v) s (λ k. value_holds v k);
    asserts = λ s p. by_form (S.Assert p) (pform.Assert p) (pform.rolls-Assert p) s (λ k. expr_holds p k);
    assumes = λ s p. by_form (S.Assume p) (pform.Assume p) (pform.rolls-Assume p) s (λ k. expr_holds p k);
    minimizes = λ s p. by_form (S.Minimize p) (pform.Minimize p) (pform.rolls-Minimize p) s (λ k. expr_holds p k);
    repeats = λ s c ps h. by_form (S.Repeat c ps) (pform.Repeat c ps) (pform.rolls-Repeat c ps) s (λ k. cc);
    minrepeat = λ s ps h. by_form (S.MinRepeat ps) (pform.MinRepeat ps) (pform.rolls-MinRepeat ps) s (λ k. cc);
    reorder = λ s ps h. by_form (S.Reorder ps) (pform.Reorder ps) (pform.rolls-Reorder ps) s (λ k. cc);
  }

  stmt_holds : (p : PStmt) → StmtHolds p
  stmt_holds = stmt_ind StmtHolds cases

  body_holds : (ps : List PStmt) → list_all stmt_filled ps ≡ true → list_all (stmt_patterns prog) ps ≡ true
  body_holds [] h = refl
  body_holds (p ∷ ps) h =
      let b = and_parts (stmt_filled p) (list_all stmt_filled ps) h in
      let one = stmt_holds p b.0 in
      let rest = body_holds ps b.1 in
      λ i. one i && rest i

  pub funs_hold : (fs : List Fun) → list_all fun_filled fs ≡ true → list_all (fun_patterns prog) fs ≡ true
  funs_hold [] h = refl
  funs_hold (f ∷ fs) h =
      let b = and_parts (fun_filled f) (list_all fun_filled fs) h in
      let one = body_holds f.body b.0 in
      let rest = funs_hold fs b.1 in
      λ i. one i && rest i
