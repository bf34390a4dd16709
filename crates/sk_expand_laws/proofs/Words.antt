-- All names in a walk are words, and it calls only what passes a test, where all that calls become passes it.
use Rattle.std.proofs.Common.{◌≡◌, ℕ, zero, suc, ◌+◌, ◌≤◌, Bool, true, ◌&&◌, List, [], ◌∷◌, ◌++◌, map, length, Option, Some, None, refl, sym, ap, ◌∙◌, subst, arith}
use Rattle.std.specs.Prelude.{nat_lt}
use Rattle.std.specs.List.{list_all}
use Rattle.std.proofs.lemmas.Bool.{and_parts}
use Rattle.sk_base.specs.declared.span.Span.{Span}
use Rattle.sk_base.specs.declared.bounds.Bounds.{Bounds}
use Rattle.sk_prog.specs.declared.ty.Ty.{Ty}
use Rattle.sk_prog.specs.declared.ids.StructId.{StructId}
use Rattle.sk_prog.specs.declared.expr.PExpr.{PExpr}
use Rattle.sk_prog.specs.declared.expr.PField.{PField}
use Rattle.sk_prog.specs.declared.expr.PEForm.{PEForm}
use Rattle.sk_prog.specs.declared.expr.PEForm.TheVariants as pform
use Rattle.sk_prog.specs.declared.expr.PEForm.TheOpen as P
use Rattle.sk_prog.specs.declared.expr.PEForm.TheViews.{roll-PEForm, roll-PExpr, roll-PField}
use Rattle.sk_prog.specs.declared.expr.PEForm.TheViews as V
use Rattle.sk_prog.specs.declared.expr.PEForm.TheFolds.{map-PEForm, fold-PEForm, fold-PField, fold-roll-PEForm, fold-roll-PExpr, fold-roll-PField, ind-PExpr}
use Rattle.sk_prog.specs.declared.stmt.PStmt.{PStmt}
use Rattle.sk_prog.specs.declared.stmt.PForm.{PForm}
use Rattle.sk_prog.specs.declared.stmt.PForm.TheVariants as form
use Rattle.sk_prog.specs.declared.stmt.PForm.TheOpen as S
use Rattle.sk_prog.specs.declared.stmt.PForm.TheViews.{roll-PForm, roll-PStmt}
use Rattle.sk_prog.specs.declared.stmt.PForm.TheViews as W
use Rattle.sk_prog.specs.declared.stmt.PForm.TheFolds.{map-PForm, fold-PForm, fold-roll-PForm, fold-roll-PStmt, ind-PStmt}
use Rattle.sk_prog.specs.declared.prog.Prog.{Prog}
use Rattle.sk_prog.specs.Names.{is_yes, eform_names, expr_names, any_names, form_names, stmt_names}
use Rattle.sk_prog.specs.Fits.{is_name, has_struct, has_fun, has_field, ty_fits, any_ty_fits, eform_fits, layer_fits, pfield_fits, expr_fits, any_expr_fits, form_fits, stmt_fits}
use Rattle.sk_model.specs.Expand.{Walk, as_walk, in_order, times, most_copies, copies_held, CallWalk, fun_id, eform_walk, expr_step, field_step, walk_expr, walk_value, form_walk, stmt_step, walk_stmt}
use Rattle.sk_holes_laws.specs.Callees.{eform_callees, expr_callees, any_callees, form_callees, stmt_callees}
use Rattle.sk_expand_laws.proofs.Counts.{is_count, form_counts, stmt_counts, act_counts}

module _ (bounds : Bounds) (call : CallWalk) (prog : Prog) (slots : ℕ) (begin : ℕ) (test : ℕ → Bool) (calls : (s : Span) (f k : ℕ) → begin ≤ k → has_fun prog (fun_id f) ≡ true → test (call s f k).made ≡ true) where
  abbrev form_walks : PEForm → Span → Walk PEForm
  form_walks = fold-PEForm (Span → Walk PEForm) (Walk PExpr) (Walk PField) (eform_walk bounds call) (expr_step bounds call) (field_step bounds call)

  abbrev field_walks : PField → Walk PField
  field_walks = fold-PField (Span → Walk PEForm) (Walk PExpr) (Walk PField) (eform_walk bounds call) (expr_step bounds call) (field_step bounds call)

  abbrev walks : PExpr → Walk PExpr
  walks = walk_expr bounds call

  abbrev PLayer : Type 0
  PLayer = P.PEForm-F PEForm PExpr PField

  abbrev form_good : PEForm → Bool
  form_good = fold-PEForm Bool Bool (StructId → Bool) (eform_fits prog slots) (layer_fits prog slots) (pfield_fits prog slots)

  abbrev field_good : PField → StructId → Bool
  field_good = fold-PField Bool Bool (StructId → Bool) (eform_fits prog slots) (layer_fits prog slots) (pfield_fits prog slots)

  abbrev expr_good : PExpr → Bool
  expr_good = expr_fits prog slots

  abbrev goods : PLayer → P.PEForm-F Bool Bool (StructId → Bool)
  goods l = map-PEForm PEForm PExpr PField Bool Bool (StructId → Bool) form_good expr_good field_good l

  -- the two tests of forms, expressions and fields

  abbrev form_words : PEForm → Bool
  form_words = fold-PEForm Bool Bool Bool (eform_names is_name) (λ x. x.form) (λ x. x.value)

  abbrev field_words : PField → Bool
  field_words = fold-PField Bool Bool Bool (eform_names is_name) (λ x. x.form) (λ x. x.value)

  abbrev expr_words : PExpr → Bool
  expr_words = expr_names is_name

  abbrev words : PLayer → P.PEForm-F Bool Bool Bool
  words l = map-PEForm PEForm PExpr PField Bool Bool Bool form_words expr_words field_words l

  abbrev form_calls : PEForm → Bool
  form_calls = fold-PEForm Bool Bool Bool (eform_callees test) (λ x. x.form) (λ x. x.value)

  abbrev field_calls : PField → Bool
  field_calls = fold-PField Bool Bool Bool (eform_callees test) (λ x. x.form) (λ x. x.value)

  abbrev expr_calls : PExpr → Bool
  expr_calls = expr_callees test

  abbrev called : PLayer → P.PEForm-F Bool Bool Bool
  called l = map-PEForm PEForm PExpr PField Bool Bool Bool form_calls expr_calls field_calls l

  abbrev pub Both : Bool → Bool → Type 0
  Both a b = (a ≡ true) × (b ≡ true)

  both_and : (a b c d : Bool) → Both a b → Both c d → Both (a && c) (b && d)
  both_and a b c d x y = ((λ i. x.0 i && y.0 i), (λ i. x.1 i && y.1 i))

  made : (m : PLayer) (g : PEForm) → roll-PEForm m ≡ g → Both (eform_names is_name (words m)) (eform_callees test (called m)) → Both (form_words g) (form_calls g)
  made m g is h = (
    ap form_words (sym is) ∙ fold-roll-PEForm Bool Bool Bool (eform_names is_name) (λ x. x.form) (λ x. x.value) m ∙ h.0,
    ap form_calls (sym is) ∙ fold-roll-PEForm Bool Bool Bool (eform_callees test) (λ x. x.form) (λ x. x.value) m ∙ h.1,
  )

  abbrev FormOk : PEForm → Type 0
  FormOk f = (s : Span) (k : ℕ) → begin ≤ k → form_good f ≡ true → Both (form_words (form_walks f s k).made) (form_calls (form_walks f s k).made)

  abbrev pub ExprOk : PExpr → Type 0
  ExprOk p = (k : ℕ) → begin ≤ k → expr_good p ≡ true → Both (expr_words (walks p k).made) (expr_calls (walks p k).made)

  abbrev FieldOk : PField → Type 0
  FieldOk x = (r : StructId) (k : ℕ) → begin ≤ k → field_good x r ≡ true → Both (field_words (field_walks x k).made) (field_calls (field_walks x k).made)

  abbrev Such : Type 0
  Such = (f : PEForm) × FormOk f

  abbrev Such' : Type 0
  Such' = (e : PExpr) × ExprOk e

  abbrev Such'' : Type 0
  Such'' = (x : PField) × FieldOk x

  abbrev down : P.PEForm-F Such Such' Such'' → PLayer
  down = map-PEForm Such Such' Such'' PEForm PExpr PField (λ q. q.0) (λ q. q.0) (λ q. q.0)

  abbrev firsts : List Such' → List PExpr
  firsts qs = map (λ (q : Such'). q.0) qs

  abbrev sets : List Such'' → List PField
  sets qs = map (λ (q : Such''). q.0) qs

  each : (qs : List Such') (k : ℕ) → begin ≤ k → list_all is_yes (map expr_good (firsts qs)) ≡ true → Both (list_all is_yes (map expr_words (in_order (map walks (firsts qs)) k).made)) (list_all is_yes (map expr_calls (in_order (map walks (firsts qs)) k).made))
  each [] k le h = (refl, refl)
  each (q ∷ qs) k le h =
      let w = walks q.0 k in
      let n = k + length w.copies in
      let a = and_parts (expr_good q.0) (list_all is_yes (map expr_good (firsts qs))) h in
      both_and _ _ _ _ (q.1 k le a.0) (each qs n (omega (arith, le)) a.1)

  each_set : (r : StructId) (qs : List Such'') (k : ℕ) → begin ≤ k → list_all (λ f. f r) (map field_good (sets qs)) ≡ true → Both (list_all is_yes (map field_words (in_order (map field_walks (sets qs)) k).made)) (list_all is_yes (map field_calls (in_order (map field_walks (sets qs)) k).made))
  each_set r [] k le h = (refl, refl)
  each_set r (q ∷ qs) k le h =
      let w = field_walks q.0 k in
      let n = k + length w.copies in
      let a = and_parts (field_good q.0 r) (list_all (λ f. f r) (map field_good (sets qs))) h in
      both_and _ _ _ _ (q.1 r k le a.0) (each_set r qs n (omega (arith, le)) a.1)

  abbrev walk_of : P.PEForm-F Such Such' Such'' → Span → Walk PEForm
  walk_of y = eform_walk bounds call (map-PEForm PEForm PExpr PField (Span → Walk PEForm) (Walk PExpr) (Walk PField) form_walks walks field_walks (down y))

  layer : (y : P.PEForm-F Such Such' Such'') (s : Span) (k : ℕ) → begin ≤ k → eform_fits prog slots (goods (down y)) ≡ true → Both (form_words (walk_of y s k).made) (form_calls (walk_of y s k).made)
  layer (P.Number n) s k le h = made (P.Number n) _ (V.rolls-Number n) (refl, refl)
  layer P.True s k le h = made P.True _ V.rolls-True (refl, refl)
  layer P.False s k le h = made P.False _ V.rolls-False (refl, refl)
  layer P.Null s k le h = made P.Null _ V.rolls-Null (refl, refl)
  layer (P.Var slot x) s k le h = made (P.Var slot x) _ (V.rolls-Var slot x) ((and_parts (nat_lt slot slots) (is_name x) h).1, refl)
  layer (P.Const r) s k le h = made (P.Const r) _ (V.rolls-Const r) (refl, refl)
  layer (P.Hole n) s k le h = made (P.Hole n) _ (V.rolls-Hole n) (refl, refl)
  layer (P.Pattern qs) s k le h = let ps = (in_order (map walks (firsts qs)) k).made in made (P.Pattern ps) (pform.Pattern ps) (V.rolls-Pattern ps) (each qs k le h)
  layer (P.Paren q) s k le h = let p = (walks q.0 k).made in made (P.Paren p) (pform.Paren p) (V.rolls-Paren p) (q.1 k le h)
  layer (P.Call f qs) s k le h =
      let w = call s f.index k in
      let n = k + length w.copies in
      let ps = (in_order (map walks (firsts qs)) n).made in
      let a = and_parts (has_fun prog f) (list_all is_yes (map expr_good (firsts qs))) h in
      let r = each qs n (omega (arith, le)) a.1 in
      let t = calls s f.index k le a.0 in
      made (P.Call (fun_id w.made) ps) (pform.Call (fun_id w.made) ps) (V.rolls-Call (fun_id w.made) ps) (r.0, (λ i. t i && r.1 i))
  layer (P.New d qs) s k le h =
      let ps = (in_order (map field_walks (sets qs)) k).made in
      let a = and_parts (has_struct prog d) (list_all (λ f. f d) (map field_good (sets qs))) h in
      made (P.New d ps) (pform.New d ps) (V.rolls-New d ps) (each_set d qs k le a.1)
  layer (P.Braces qs) s k le h = let ps = (in_order (map walks (firsts qs)) k).made in made (P.Braces ps) (pform.Braces ps) (V.rolls-Braces ps) (each qs k le h)
  layer (P.Member q d i) s k le h =
      let p = (walks q.0 k).made in
      made (P.Member p d i) (pform.Member p d i) (V.rolls-Member p d i) (q.1 k le (and_parts (expr_good q.0) (has_field prog d i) h).0)
  layer (P.Index q j) s k le h =
      let w = walks q.0 k in
      let n = k + length w.copies in
      let p = (walks j.0 n).made in
      let a = and_parts (expr_good q.0) (expr_good j.0) h in
      made (P.Index w.made p) (pform.Index w.made p) (V.rolls-Index w.made p) (both_and _ _ _ _ (q.1 k le a.0) (j.1 n (omega (arith, le)) a.1))
  layer (P.Slice q j m) s k le h =
      let w = walks q.0 k in
      let n = k + length w.copies in
      let p = (walks j.0 n).made in
      let a = and_parts (expr_good q.0) (expr_good j.0) h in
      made (P.Slice w.made p m) (pform.Slice w.made p m) (V.rolls-Slice w.made p m) (both_and _ _ _ _ (q.1 k le a.0) (j.1 n (omega (arith, le)) a.1))
  layer (P.Unary o q) s k le h = let p = (walks q.0 k).made in made (P.Unary o p) (pform.Unary o p) (V.rolls-Unary o p) (q.1 k le h)
  layer (P.Binary o q j) s k le h =
      let w = walks q.0 k in
      let n = k + length w.copies in
      let p = (walks j.0 n).made in
      let a = and_parts (expr_good q.0) (expr_good j.0) h in
      made (P.Binary o w.made p) (pform.Binary o w.made p) (V.rolls-Binary o w.made p) (both_and _ _ _ _ (q.1 k le a.0) (j.1 n (omega (arith, le)) a.1))
  layer (P.Cond d q j) s k le h =
      let v = walks d.0 k in
      let m = k + length v.copies in
      let w = walks q.0 m in
      let n = m + length w.copies in
      let p = (walks j.0 n).made in
      let a = and_parts (expr_good d.0) (expr_good q.0 && expr_good j.0) h in
      let b = and_parts (expr_good q.0) (expr_good j.0) a.1 in
      made (P.Cond v.made w.made p) (pform.Cond v.made w.made p) (V.rolls-Cond v.made w.made p) (both_and _ _ _ _ (d.1 k le a.0) (both_and _ _ _ _ (q.1 m (omega (arith, le)) b.0) (j.1 n (omega (arith, le)) b.1)))
  layer (P.ToInt q) s k le h = let p = (walks q.0 k).made in made (P.ToInt p) (pform.ToInt p) (V.rolls-ToInt p) (q.1 k le h)
  layer (P.Pad q) s k le h = let p = (walks q.0 k).made in made (P.Pad p) (pform.Pad p) (V.rolls-Pad p) (q.1 k le h)

  form_from : (y : P.PEForm-F Such Such' Such'') → FormOk (roll-PEForm (down y))
  form_from y s k le h = subst (λ (w : Span → Walk PEForm). Both (form_words (w s k).made) (form_calls (w s k).made)) (sym (fold-roll-PEForm (Span → Walk PEForm) (Walk PExpr) (Walk PField) (eform_walk bounds call) (expr_step bounds call) (field_step bounds call) (down y)))
      (layer y s k le (sym (fold-roll-PEForm Bool Bool (StructId → Bool) (eform_fits prog slots) (layer_fits prog slots) (pfield_fits prog slots) (down y)) ∙ h))

  in_expr : (s : Span) (t : Option Ty) (f : PEForm) → FormOk f → ExprOk (record { span = s; ty = t; form = f })
  in_expr s t f ok k le h =
      let w : walks (record { span = s; ty = t; form = f }) ≡ as_walk (λ g. record { span = s; ty = t; form = g }) (form_walks f s) = fold-roll-PExpr (Span → Walk PEForm) (Walk PExpr) (Walk PField) (eform_walk bounds call) (expr_step bounds call) (field_step bounds call) (record { span = s; ty = t; form = f }) in
      let g = (form_walks f s k).made in
      let fits = sym (fold-roll-PExpr Bool Bool (StructId → Bool) (eform_fits prog slots) (layer_fits prog slots) (pfield_fits prog slots) (record { span = s; ty = t; form = f })) ∙ h in
      let r = ok s k le (and_parts (any_ty_fits prog t) (form_good f) fits).1 in
      subst (λ (w : Walk PExpr). Both (expr_words (w k).made) (expr_calls (w k).made)) (sym w) (
        fold-roll-PExpr Bool Bool Bool (eform_names is_name) (λ x. x.form) (λ x. x.value) (record { span = s; ty = t; form = g }) ∙ r.0,
        fold-roll-PExpr Bool Bool Bool (eform_callees test) (λ x. x.form) (λ x. x.value) (record { span = s; ty = t; form = g }) ∙ r.1,
      )

  in_field : (i : ℕ) (p : PExpr) → ExprOk p → FieldOk (record { field = i; value = p })
  in_field i p ok r k le h =
      let w : field_walks (record { field = i; value = p }) ≡ as_walk (λ v. record { field = i; value = v }) (walks p) = fold-roll-PField (Span → Walk PEForm) (Walk PExpr) (Walk PField) (eform_walk bounds call) (expr_step bounds call) (field_step bounds call) (record { field = i; value = p }) in
      let g = (walks p k).made in
      let fits = ap (λ (f : StructId → Bool). f r) (sym (fold-roll-PField Bool Bool (StructId → Bool) (eform_fits prog slots) (layer_fits prog slots) (pfield_fits prog slots) (record { field = i; value = p }))) ∙ h in
      let a = ok k le (and_parts (has_field prog r i) (expr_good p) fits).1 in
      subst (λ (w : Walk PField). Both (field_words (w k).made) (field_calls (w k).made)) (sym w) (
        fold-roll-PField Bool Bool Bool (eform_names is_name) (λ x. x.form) (λ x. x.value) (record { field = i; value = g }) ∙ a.0,
        fold-roll-PField Bool Bool Bool (eform_callees test) (λ x. x.form) (λ x. x.value) (record { field = i; value = g }) ∙ a.1,
      )

  pub expr_ok : (p : PExpr) → ExprOk p
  expr_ok = ind-PExpr FormOk ExprOk FieldOk
      (λ x y is. subst (λ z. FormOk (roll-PEForm z)) is (form_from y))
      (λ x y is. subst (λ z. ExprOk (roll-PExpr z)) is (in_expr y.span y.ty y.form.0 y.form.1))
      (λ x y is. subst (λ z. FieldOk (roll-PField z)) is (in_field y.field y.value.0 y.value.1))

  value_ok : (o : Option PExpr) (k : ℕ) → begin ≤ k → any_expr_fits prog slots o ≡ true → Both (any_names is_name (walk_value bounds call o k).made) (any_callees test (walk_value bounds call o k).made)
  value_ok None k le h = (refl, refl)
  value_ok (Some p) k le h = expr_ok p k le h

  -- a count
  count_ok : (p : PExpr) → is_count p.form ≡ true → Both (expr_words p) (expr_calls p)
  count_ok p h =
      let r = go p.form h in (
        fold-roll-PExpr Bool Bool Bool (eform_names is_name) (λ x. x.form) (λ x. x.value) (record { span = p.span; ty = p.ty; form = p.form }) ∙ r.0,
        fold-roll-PExpr Bool Bool Bool (eform_callees test) (λ x. x.form) (λ x. x.value) (record { span = p.span; ty = p.ty; form = p.form }) ∙ r.1,
      )
    where
      go : (f : PEForm) → is_count f ≡ true → Both (form_words f) (form_calls f)
      go (pform.Number n) h = made (P.Number n) (pform.Number n) (V.rolls-Number n) (refl, refl)
      go (pform.Hole n) h = made (P.Hole n) (pform.Hole n) (V.rolls-Hole n) (refl, refl)
      go _ h = cc

  -- Statements

  abbrev acts : PForm → Walk PForm
  acts = fold-PForm (Walk PForm) (Walk PStmt) (form_walk bounds call) (stmt_step bounds call)

  abbrev steps : PStmt → Walk PStmt
  steps = walk_stmt bounds call

  abbrev Acts : Type 0
  Acts = S.PForm-F PForm PStmt

  abbrev act_good : PForm → Bool
  act_good = fold-PForm Bool Bool (form_fits prog slots) (λ s. s.form)

  abbrev stmt_good : PStmt → Bool
  stmt_good = stmt_fits prog slots

  abbrev act_words : PForm → Bool
  act_words = fold-PForm Bool Bool (form_names is_name) (λ s. s.form)

  abbrev stmt_words : PStmt → Bool
  stmt_words = stmt_names is_name

  abbrev act_calls : PForm → Bool
  act_calls = fold-PForm Bool Bool (form_callees test) (λ s. s.form)

  abbrev stmt_calls : PStmt → Bool
  stmt_calls = stmt_callees test

  abbrev bools : (PForm → Bool) → (PStmt → Bool) → Acts → S.PForm-F Bool Bool
  bools f g l = map-PForm PForm PStmt Bool Bool f g l

  act_made : (m : Acts) (g : PForm) → roll-PForm m ≡ g → Both (form_names is_name (bools act_words stmt_words m)) (form_callees test (bools act_calls stmt_calls m)) → Both (act_words g) (act_calls g)
  act_made m g is h = (
    ap act_words (sym is) ∙ fold-roll-PForm Bool Bool (form_names is_name) (λ s. s.form) m ∙ h.0,
    ap act_calls (sym is) ∙ fold-roll-PForm Bool Bool (form_callees test) (λ s. s.form) m ∙ h.1,
  )

  abbrev ActOk : PForm → Type 0
  ActOk f = (k : ℕ) → begin ≤ k → act_good f ≡ true → act_counts f ≡ true → Both (act_words (acts f k).made) (act_calls (acts f k).made)

  abbrev pub StmtOk : PStmt → Type 0
  StmtOk p = (k : ℕ) → begin ≤ k → stmt_good p ≡ true → stmt_counts p ≡ true → Both (stmt_words (steps p k).made) (stmt_calls (steps p k).made)

  abbrev Met : Type 0
  Met = (p : PStmt) × StmtOk p

  abbrev below : S.PForm-F ((f : PForm) × ActOk f) Met → Acts
  below = map-PForm ((f : PForm) × ActOk f) Met PForm PStmt (λ q. q.0) (λ q. q.0)

  abbrev stmts : List Met → List PStmt
  stmts qs = map (λ (q : Met). q.0) qs

  abbrev AllOk : List PStmt → Type 0
  AllOk ps = Both (list_all is_yes (map stmt_words ps)) (list_all is_yes (map stmt_calls ps))

  each_stmt : (qs : List Met) (k : ℕ) → begin ≤ k → list_all is_yes (map stmt_good (stmts qs)) ≡ true → list_all is_yes (map stmt_counts (stmts qs)) ≡ true → AllOk (in_order (map steps (stmts qs)) k).made
  each_stmt [] k le h c = (refl, refl)
  each_stmt (q ∷ qs) k le h c =
      let w = steps q.0 k in
      let n = k + length w.copies in
      let a = and_parts (stmt_good q.0) (list_all is_yes (map stmt_good (stmts qs))) h in
      let b = and_parts (stmt_counts q.0) (list_all is_yes (map stmt_counts (stmts qs))) c in
      both_and _ _ _ _ (q.1 k le a.0 b.0) (each_stmt qs n (omega (arith, le)) a.1 b.1)

  append_ok : (ps qs : List PStmt) → AllOk ps → AllOk qs → AllOk (ps ++ qs)
  append_ok [] qs h j = j
  append_ok (p ∷ ps) qs h j =
      let a = and_parts (stmt_words p) (list_all is_yes (map stmt_words ps)) h.0 in
      let b = and_parts (stmt_calls p) (list_all is_yes (map stmt_calls ps)) h.1 in
      both_and _ _ _ _ (a.0, b.0) (append_ok ps qs (a.1, b.1) j)

  many_times : (n : ℕ) (qs : List Met) (k : ℕ) → begin ≤ k → list_all is_yes (map stmt_good (stmts qs)) ≡ true → list_all is_yes (map stmt_counts (stmts qs)) ≡ true → AllOk (times n (in_order (map steps (stmts qs))) k).made
  many_times zero qs k le h c = (refl, refl)
  many_times (suc n) qs k le h c =
      let v = in_order (map steps (stmts qs)) k in
      let j = k + length v.copies in
      append_ok v.made (times n (in_order (map steps (stmts qs))) j).made (each_stmt qs k le h c) (many_times n qs j (omega (arith, le)) h c)

  abbrev act_of : S.PForm-F ((f : PForm) × ActOk f) Met → Walk PForm
  act_of y = form_walk bounds call (map-PForm PForm PStmt (Walk PForm) (Walk PStmt) acts steps (below y))

  act_layer : (y : S.PForm-F ((f : PForm) × ActOk f) Met) (k : ℕ) → begin ≤ k → form_fits prog slots (bools act_good stmt_good (below y)) ≡ true → form_counts (bools act_counts stmt_counts (below y)) ≡ true → Both (act_words (act_of y k).made) (act_calls (act_of y k).made)
  act_layer (S.Block qs) k le h c = let ps = (in_order (map steps (stmts qs)) k).made in act_made (S.Block ps) (form.Block ps) (W.rolls-Block ps) (each_stmt qs k le h c)
  act_layer (S.Declare slot x t value) k le h c =
      let v = (walk_value bounds call value k).made in
      let a = and_parts (nat_lt slot slots) (is_name x && (ty_fits prog t && any_expr_fits prog slots value)) h in
      let b = and_parts (is_name x) (ty_fits prog t && any_expr_fits prog slots value) a.1 in
      let d = and_parts (ty_fits prog t) (any_expr_fits prog slots value) b.1 in
      let r = value_ok value k le d.1 in
      act_made (S.Declare slot x t v) (form.Declare slot x t v) (W.rolls-Declare slot x t v) ((λ i. b.0 i && r.0 i), r.1)
  act_layer (S.Assign p q) k le h c =
      let w = walks p k in
      let n = k + length w.copies in
      let b = (walks q n).made in
      let a = and_parts (expr_good p) (expr_good q) h in
      act_made (S.Assign w.made b) (form.Assign w.made b) (W.rolls-Assign w.made b) (both_and _ _ _ _ (expr_ok p k le a.0) (expr_ok q n (omega (arith, le)) a.1))
  act_layer (S.Call p) k le h c = let a = (walks p k).made in act_made (S.Call a) (form.Call a) (W.rolls-Call a) (expr_ok p k le h)
  act_layer (S.If p a None) k le h c =
      let w = walks p k in
      let n = k + length w.copies in
      let v = (steps a.0 n).made in
      let d = and_parts (expr_good p) (stmt_good a.0 && true) h in
      let f = and_parts (stmt_good a.0) true d.1 in
      let g = and_parts (stmt_counts a.0) true c in
      act_made (S.If w.made v None) (form.If w.made v None) (W.rolls-If w.made v None) (both_and _ _ _ _ (expr_ok p k le d.0) (both_and _ _ _ _ (a.1 n (omega (arith, le)) f.0 g.0) (refl, refl)))
  act_layer (S.If p a (Some b)) k le h c =
      let w = walks p k in
      let n = k + length w.copies in
      let v = steps a.0 n in
      let j = n + length v.copies in
      let o = (steps b.0 j).made in
      let d = and_parts (expr_good p) (stmt_good a.0 && stmt_good b.0) h in
      let f = and_parts (stmt_good a.0) (stmt_good b.0) d.1 in
      let g = and_parts (stmt_counts a.0) (stmt_counts b.0) c in
      act_made (S.If w.made v.made (Some o)) (form.If w.made v.made (Some o)) (W.rolls-If w.made v.made (Some o)) (both_and _ _ _ _ (expr_ok p k le d.0) (both_and _ _ _ _ (a.1 n (omega (arith, le)) f.0 g.0) (b.1 j (omega (arith, le)) f.1 g.1)))
  act_layer (S.While p a) k le h c =
      let w = walks p k in
      let n = k + length w.copies in
      let v = (steps a.0 n).made in
      let d = and_parts (expr_good p) (stmt_good a.0) h in
      act_made (S.While w.made v) (form.While w.made v) (W.rolls-While w.made v) (both_and _ _ _ _ (expr_ok p k le d.0) (a.1 n (omega (arith, le)) d.1 c))
  act_layer (S.Return p) k le h c = let v = (walk_value bounds call p k).made in act_made (S.Return v) (form.Return v) (W.rolls-Return v) (value_ok p k le h)
  act_layer (S.Assert p) k le h c = let a = (walks p k).made in act_made (S.Assert a) (form.Assert a) (W.rolls-Assert a) (expr_ok p k le h)
  act_layer (S.Assume p) k le h c = let a = (walks p k).made in act_made (S.Assume a) (form.Assume a) (W.rolls-Assume a) (expr_ok p k le h)
  act_layer (S.Minimize p) k le h c = let a = (walks p k).made in act_made (S.Minimize a) (form.Minimize a) (W.rolls-Minimize a) (expr_ok p k le h)
  act_layer (S.Repeat p qs) k le h c =
      let n = copies_held bounds p.form in
      let ps = (times n (in_order (map steps (stmts qs))) k).made in
      let a = and_parts (expr_good p) (list_all is_yes (map stmt_good (stmts qs))) h in
      let b = and_parts (is_count p.form) (list_all is_yes (map stmt_counts (stmts qs))) c in
      act_made (S.Repeat p ps) (form.Repeat p ps) (W.rolls-Repeat p ps) (both_and _ _ _ _ (count_ok p b.0) (many_times n qs k le a.1 b.1))
  act_layer (S.MinRepeat qs) k le h c =
      let n = most_copies bounds bounds.cbits in
      let ps = (times n (in_order (map steps (stmts qs))) k).made in
      act_made (S.MinRepeat ps) (form.MinRepeat ps) (W.rolls-MinRepeat ps) (many_times n qs k le h c)
  act_layer (S.Reorder qs) k le h c = let ps = (in_order (map steps (stmts qs)) k).made in act_made (S.Reorder ps) (form.Reorder ps) (W.rolls-Reorder ps) (each_stmt qs k le h c)

  act_from : (y : S.PForm-F ((f : PForm) × ActOk f) Met) → ActOk (roll-PForm (below y))
  act_from y k le h c = subst (λ (w : Walk PForm). Both (act_words (w k).made) (act_calls (w k).made)) (sym (fold-roll-PForm (Walk PForm) (Walk PStmt) (form_walk bounds call) (stmt_step bounds call) (below y)))
      (act_layer y k le (sym (fold-roll-PForm Bool Bool (form_fits prog slots) (λ s. s.form) (below y)) ∙ h) (sym (fold-roll-PForm Bool Bool form_counts (λ s. s.form) (below y)) ∙ c))

  in_stmt : (s : Span) (f : PForm) → ActOk f → StmtOk (record { span = s; form = f })
  in_stmt s f ok k le h c =
      let w : steps (record { span = s; form = f }) ≡ as_walk (λ g. record { span = s; form = g }) (acts f) = fold-roll-PStmt (Walk PForm) (Walk PStmt) (form_walk bounds call) (stmt_step bounds call) (record { span = s; form = f }) in
      let g = (acts f k).made in
      let r = ok k le (sym (fold-roll-PStmt Bool Bool (form_fits prog slots) (λ s. s.form) (record { span = s; form = f })) ∙ h) (sym (fold-roll-PStmt Bool Bool form_counts (λ s. s.form) (record { span = s; form = f })) ∙ c) in
      subst (λ (w : Walk PStmt). Both (stmt_words (w k).made) (stmt_calls (w k).made)) (sym w) (
        fold-roll-PStmt Bool Bool (form_names is_name) (λ s. s.form) (record { span = s; form = g }) ∙ r.0,
        fold-roll-PStmt Bool Bool (form_callees test) (λ s. s.form) (record { span = s; form = g }) ∙ r.1,
      )

  pub stmt_ok : (p : PStmt) → StmtOk p
  stmt_ok = ind-PStmt ActOk StmtOk
      (λ x y is. subst (λ z. ActOk (roll-PForm z)) is (act_from y))
      (λ x y is. subst (λ z. StmtOk (roll-PStmt z)) is (in_stmt y.span y.form.0 y.form.1))

  -- the statements of a body
  pub stmts_ok : (ps : List PStmt) (k : ℕ) → begin ≤ k → list_all stmt_good ps ≡ true → list_all stmt_counts ps ≡ true → Both (list_all stmt_words (in_order (map steps ps) k).made) (list_all stmt_calls (in_order (map steps ps) k).made)
  stmts_ok [] k le h c = (refl, refl)
  stmts_ok (p ∷ ps) k le h c =
      let w = steps p k in
      let n = k + length w.copies in
      let a = and_parts (stmt_good p) (list_all stmt_good ps) h in
      let b = and_parts (stmt_counts p) (list_all stmt_counts ps) c in
      both_and _ _ _ _ (stmt_ok p k le a.0 b.0) (stmts_ok ps n (omega (arith, le)) a.1 b.1)
