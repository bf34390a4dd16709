-- What a statement that leaves nothing open does under a choice is what it does in a run, and it has no sites.
use Rattle.std.proofs.Common.{◌≡◌, ℕ, ◌+◌, List, [], ◌∷◌, map, Option, Some, None, Bool, true, false, not, ◌&&◌, length, refl, sym, ap, subst, ◌∙◌, arith}
use Rattle.std.specs.Prelude.{IsTrue, nat_le, if◌then◌else◌}
use Rattle.std.specs.List.{list_all}
use Rattle.std.proofs.lemmas.Bool.{false≢true, and_parts, leb-true}
use Rattle.sk_base.specs.declared.span.Span.{Span}
use Rattle.sk_base.specs.declared.bounds.Bounds.{Bounds}
use Rattle.sk_prog.specs.declared.expr.PExpr.{PExpr}
use Rattle.sk_prog.specs.declared.stmt.PStmt.{PStmt}
use Rattle.sk_prog.specs.declared.stmt.PForm.{PForm}
use Rattle.sk_prog.specs.declared.stmt.PForm.TheOpen as S
use Rattle.sk_prog.specs.declared.stmt.PForm.TheViews as W
use Rattle.sk_prog.specs.declared.stmt.PForm.TheFolds.{map-PForm, map-PStmt, fold-PForm, fold-roll-PForm, fold-roll-PStmt, ind-PStmt}
use Rattle.sk_prog.specs.declared.prog.Prog.{Prog}
use Rattle.sk_model.specs.Parts.{Part, in_turn}
use Rattle.sk_model.specs.Step.{Comp, fail}
use Rattle.sk_model.specs.Eval.{Calls, Does, does}
use Rattle.sk_model.specs.Exec.{Flow, exec_form, exec_stmt, one_by_one, declare, assign, drop_value, branch, turns, return, assert, assume, minimize, any_meaning}
use Rattle.sk_model.specs.Sites.{is_hole}
use Rattle.sk_model.specs.Filled.{is_yes}
use Rattle.sk_model.specs.ClosedExprs.{expr_closed, any_closed}
use Rattle.sk_model.specs.Closed.{form_closed, stmt_closed}
use Rattle.sk_model.specs.Open.{block_part, copies_part, reorder_part, any_open, open_expr, open_form, open_stmt}
use Rattle.sk_model.proofs.OpenExprs.{Says, none_in, all_say, closed_expr}

module _ (prog : Prog) (bounds : Bounds) (values : List ℕ) (call : Calls) where
  abbrev opened : PExpr → Part Does
  opened = open_expr prog bounds values call

  abbrev done : PExpr → Does
  done = does prog bounds.int_bits call

  abbrev step : S.PForm-F (Part (Span → Comp Flow)) (Part (Comp Flow)) → Part (Span → Comp Flow)
  step = open_form prog bounds values call

  abbrev stmt_step : S.PStmt-F (Part (Span → Comp Flow)) (Part (Comp Flow)) → Part (Comp Flow)
  stmt_step s = record { count = s.form.count; at = λ i. s.form.at i s.span }

  abbrev form_is_closed : PForm → Bool
  form_is_closed = fold-PForm Bool Bool form_closed (λ s. s.form)

  abbrev form_open : PForm → Part (Span → Comp Flow)
  form_open = fold-PForm (Part (Span → Comp Flow)) (Part (Comp Flow)) step stmt_step

  abbrev form_exec : PForm → Span → Comp Flow
  form_exec = fold-PForm (Span → Comp Flow) (Comp Flow) (exec_form prog bounds call) (λ s. s.form s.span)

  abbrev stmt_open : PStmt → Part (Comp Flow)
  stmt_open = open_stmt prog bounds values call

  abbrev stmt_exec : PStmt → Comp Flow
  stmt_exec = exec_stmt prog bounds call

  abbrev At_form : PForm → Type 0
  At_form f = IsTrue (form_is_closed f) → Says (form_open f) (form_exec f)

  abbrev At_stmt : PStmt → Type 0
  At_stmt s = IsTrue (stmt_closed s) → Says (stmt_open s) (stmt_exec s)

  abbrev Form : Type 0
  Form = (f : PForm) × At_form f

  abbrev Stmt : Type 0
  Stmt = (s : PStmt) × At_stmt s

  abbrev down : S.PForm-F Form Stmt → S.PForm-F PForm PStmt
  down = map-PForm Form Stmt PForm PStmt (λ q. q.0) (λ q. q.0)

  rolled : (x : S.PForm-F PForm PStmt) → (IsTrue (form_closed (map-PForm PForm PStmt Bool Bool form_is_closed stmt_closed x)) → Says (step (map-PForm PForm PStmt (Part (Span → Comp Flow)) (Part (Comp Flow)) form_open stmt_open x)) (exec_form prog bounds call (map-PForm PForm PStmt (Span → Comp Flow) (Comp Flow) form_exec stmt_exec x))) → At_form (W.roll-PForm x)
  rolled x h closed =
      let says = h (subst IsTrue (fold-roll-PForm Bool Bool form_closed (λ s. s.form) x) closed) in
      subst (λ (p : Part (Span → Comp Flow)). Says p (form_exec (W.roll-PForm x))) (sym (fold-roll-PForm (Part (Span → Comp Flow)) (Part (Comp Flow)) step stmt_step x))
      (subst (λ (m : Span → Comp Flow). Says (step (map-PForm PForm PStmt (Part (Span → Comp Flow)) (Part (Comp Flow)) form_open stmt_open x)) m) (sym (fold-roll-PForm (Span → Comp Flow) (Comp Flow) (exec_form prog bounds call) (λ s. s.form s.span) x)) says)

  expr_says : (e : PExpr) → IsTrue (expr_closed e) → Says (opened e) (done e)
  expr_says = closed_expr prog bounds values call

  any_says : (e : Option PExpr) → IsTrue (any_closed e) → Says (any_open prog bounds values call e) (any_meaning prog bounds call e)
  any_says None h = (refl, λ i. refl)
  any_says (Some e) h = let g = expr_says e h in (g.0, λ i. ap (λ d. Some d) (g.1 i))

  of_expr : (e : PExpr) (act : Span → Does → Comp Flow) → IsTrue (expr_closed e) → ((opened e).count ≡ 0) × ((i : ℕ) → ◌≡◌ {A = Span → Comp Flow} (λ span. act span ((opened e).at i)) (λ span. act span (done e)))
  of_expr e act h = let g = expr_says e h in (g.0, λ i. ap (λ d span. act span d) (g.1 i))

  abbrev stmts : List Stmt → List PStmt
  stmts = map (λ q. q.0)

  -- one after another
  all_in_turn : (ss : List Stmt) → IsTrue (list_all is_yes (map stmt_closed (stmts ss))) → Says (block_part values (map stmt_open (stmts ss))) (λ (span : Span). one_by_one (map stmt_exec (stmts ss)))
  all_in_turn ss h = (none_in stmt_closed stmt_open stmt_exec ss h, λ i. ap (λ ms (span : Span). one_by_one ms) (all_say stmt_closed stmt_open stmt_exec ss i h))

  repeat_says : (hole : Bool) (ss : List Stmt) → IsTrue (not hole && list_all is_yes (map stmt_closed (stmts ss))) → Says (if hole then copies_part values (map stmt_open (stmts ss)) else block_part values (map stmt_open (stmts ss))) (λ (span : Span). if hole then fail span else one_by_one (map stmt_exec (stmts ss)))
  repeat_says true ss h = absurd (false≢true h)
  repeat_says false ss h = all_in_turn ss h

  reorder_says : (ss : List Stmt) → IsTrue (nat_le (length (map stmt_closed (stmts ss))) 1 && list_all is_yes (map stmt_closed (stmts ss))) → Says (reorder_part values (map stmt_open (stmts ss))) (λ (span : Span). if nat_le (length (map stmt_exec (stmts ss))) 1 then one_by_one (map stmt_exec (stmts ss)) else fail span)
  reorder_says [] h = (refl, λ i. refl)
  reorder_says (q ∷ []) h =
      let both = and_parts (stmt_closed q.0) true h in
      let says = q.1 both.0 in
      (rw says.0 refl, λ i. ap (λ m (span : Span). one_by_one (m ∷ [])) (says.1 (i + 0)))
  reorder_says (q ∷ r ∷ ss) h =
      let few = leb-true (length (map stmt_closed (stmts (q ∷ r ∷ ss)))) 1 (and_parts (nat_le (length (map stmt_closed (stmts (q ∷ r ∷ ss)))) 1) (list_all is_yes (map stmt_closed (stmts (q ∷ r ∷ ss)))) h).0 in
      absurd (omega (arith, few))

  layer : (y : S.PForm-F Form Stmt) → At_form (W.roll-PForm (down y))
  layer (S.Block ss) = rolled (down (S.Block ss)) (λ h. (none_in stmt_closed stmt_open stmt_exec ss h, λ i. ap (λ ms (span : Span). one_by_one ms) (all_say stmt_closed stmt_open stmt_exec ss i h)))
  layer (S.Declare slot x t e) = rolled (S.Declare slot x t e) (λ h. let g = any_says e h in (g.0, λ i. ap (λ d span. declare span slot t d) (g.1 i)))
  layer (S.Assign a e) = rolled (S.Assign a e) (λ h.
      let both = and_parts (expr_closed a) (expr_closed e) h in let g = expr_says a both.0 in let k = expr_says e both.1 in
      (rw (g.0, k.0) refl, λ i. ap (λ d span. assign span d ((opened e).at (i + (opened a).count))) (g.1 i) ∙ ap (λ d span. assign span (done a) d) (k.1 (i + (opened a).count))))
  layer (S.Call e) = rolled (S.Call e) (of_expr e drop_value)
  layer (S.If c a None) = rolled (S.If c a.0 None) (λ h.
      let first = and_parts (expr_closed c) (stmt_closed a.0 && true) h in
      let second = and_parts (stmt_closed a.0) true first.1 in
      let g = expr_says c first.0 in let k = a.1 second.0 in
      (rw (g.0, k.0) refl, λ i. ap (λ d span. branch span d ((stmt_open a.0).at (i + (opened c).count)) None) (g.1 i) ∙ ap (λ m span. branch span (done c) m None) (k.1 (i + (opened c).count))))
  layer (S.If c a (Some b)) = rolled (S.If c a.0 (Some b.0)) (λ h.
      let first = and_parts (expr_closed c) (stmt_closed a.0 && stmt_closed b.0) h in
      let both = and_parts (stmt_closed a.0) (stmt_closed b.0) first.1 in
      let g = expr_says c first.0 in let k = a.1 both.0 in let l = b.1 both.1 in
      let j : ℕ → ℕ = λ i. i + ((opened c).count + (stmt_open a.0).count) in (
        rw (g.0, k.0, l.0) refl,
        λ i.
            ap (λ d span. branch span d ((stmt_open a.0).at (i + (opened c).count)) (Some ((stmt_open b.0).at (j i)))) (g.1 i)
            ∙ ap (λ m span. branch span (done c) m (Some ((stmt_open b.0).at (j i)))) (k.1 (i + (opened c).count))
            ∙ ap (λ m span. branch span (done c) (stmt_exec a.0) (Some m)) (l.1 (j i)),
      ))
  layer (S.While c a) = rolled (S.While c a.0) (λ h.
      let both = and_parts (expr_closed c) (stmt_closed a.0) h in let g = expr_says c both.0 in let k = a.1 both.1 in
      (rw (g.0, k.0) refl, λ i. ap (λ d span. turns bounds.unroll span d ((stmt_open a.0).at (i + (opened c).count))) (g.1 i) ∙ ap (λ m span. turns bounds.unroll span (done c) m) (k.1 (i + (opened c).count))))
  layer (S.Return e) = rolled (S.Return e) (λ h. let g = any_says e h in (g.0, λ i. ap (λ d span. return span d) (g.1 i)))
  layer (S.Assert e) = rolled (S.Assert e) (of_expr e assert)
  layer (S.Assume e) = rolled (S.Assume e) (of_expr e assume)
  layer (S.Minimize e) = rolled (S.Minimize e) (of_expr e minimize)
  layer (S.Repeat c ss) = rolled (down (S.Repeat c ss)) (λ h. repeat_says (is_hole c.form) ss h)
  layer (S.MinRepeat ss) = rolled (down (S.MinRepeat ss)) (λ h. absurd (false≢true h))
  layer (S.Reorder ss) = rolled (down (S.Reorder ss)) (λ h. reorder_says ss h)

  stmt_layer : (y : S.PStmt-F Form Stmt) → At_stmt (W.roll-PStmt (map-PStmt Form Stmt PForm PStmt (λ q. q.0) (λ q. q.0) y))
  stmt_layer y closed =
      let x : S.PStmt-F PForm PStmt = map-PStmt Form Stmt PForm PStmt (λ q. q.0) (λ q. q.0) y in
      let says = y.form.1 (subst IsTrue (fold-roll-PStmt Bool Bool form_closed (λ s. s.form) x) closed) in
      subst (λ (p : Part (Comp Flow)). Says p (stmt_exec (W.roll-PStmt x))) (sym (fold-roll-PStmt (Part (Span → Comp Flow)) (Part (Comp Flow)) step stmt_step x))
      (subst (λ (m : Comp Flow). Says (stmt_step (map-PStmt PForm PStmt (Part (Span → Comp Flow)) (Part (Comp Flow)) form_open stmt_open x)) m) (sym (fold-roll-PStmt (Span → Comp Flow) (Comp Flow) (exec_form prog bounds call) (λ s. s.form s.span) x)) (says.0, λ i. ap (λ m. m y.span) (says.1 i)))

  pub closed_stmt : (s : PStmt) → At_stmt s
  closed_stmt = ind-PStmt At_form At_stmt
      (λ x y is. subst (λ z. At_form (W.roll-PForm z)) is (layer y))
      (λ x y is. subst (λ z. At_stmt (W.roll-PStmt z)) is (stmt_layer y))

  -- a body
  pub closed_turn : (ss : List PStmt) (i : ℕ) → IsTrue (list_all stmt_closed ss) → in_turn (map stmt_open ss) i ≡ map stmt_exec ss
  closed_turn [] i h = refl
  closed_turn (s ∷ ss) i h =
      let both = and_parts (stmt_closed s) (list_all stmt_closed ss) h in
      rw ((closed_stmt s both.0).1 i, closed_turn ss (i + (stmt_open s).count) both.1) refl
