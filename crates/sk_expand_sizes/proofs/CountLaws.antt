-- What a walk counts, in the numbers of the model: with the calls that are still to be counted, its tally grows by
-- the steps and the records of what it walks over, as many times as that is done.
use Rattle.std.proofs.Common.{◌≡◌, ℕ, zero, suc, ◌+◌, ◌*◌, Bool, true, false, List, [], ◌∷◌, ◌++◌, map, length, Option, Some, None, refl, sym, ap, subst, ◌∙◌, arith}
use Rattle.std.specs.Prelude.{if◌then◌else◌}
use Rattle.std.proofs.lemmas.List.{length-map}
use Rattle.std.proofs.Math.Nat.{mul_assoc}
use Rattle.sk_prog.specs.declared.expr.PExpr.{PExpr}
use Rattle.sk_prog.specs.declared.expr.PField.{PField}
use Rattle.sk_prog.specs.declared.expr.PEForm.{PEForm}
use Rattle.sk_prog.specs.declared.expr.PEForm.TheOpen as P
use Rattle.sk_prog.specs.declared.expr.PEForm.TheViews as V
use Rattle.sk_prog.specs.declared.expr.PEForm.TheFolds.{map-PEForm, map-PExpr, map-PField, fold-PEForm, fold-PField, fold-roll-PEForm, fold-roll-PExpr, fold-roll-PField, ind-PExpr}
use Rattle.sk_prog.specs.declared.stmt.PStmt.{PStmt}
use Rattle.sk_prog.specs.declared.stmt.PForm.{PForm}
use Rattle.sk_prog.specs.declared.stmt.PForm.TheOpen as S
use Rattle.sk_prog.specs.declared.stmt.PForm.TheViews as W
use Rattle.sk_prog.specs.declared.stmt.PForm.TheFolds.{map-PForm, map-PStmt, fold-PForm, fold-roll-PForm, fold-roll-PStmt, ind-PStmt}
use Rattle.sk_model.specs.Parts.{total}
use Rattle.sk_model.specs.Steps.{Measure, eform_work, expr_work, value_work, form_work, stmt_work}
use Rattle.sk_expand_sizes.specs.declared.tally.Tally.{Tally}
use Rattle.sk_expand_sizes.specs.declared.tally.Tally.TheVariants as tally
use Rattle.sk_expand_sizes.specs.declared.count.Due.{Due}
use Rattle.sk_expand_sizes.specs.declared.count.Count.{Count}
use Rattle.sk_expand_sizes.specs.Tally.{added, is_over}
use Rattle.sk_expand_sizes.specs.Count.{Counting, in_turn, charged, with_call, unless_over, node, eform_counted, expr_counted, field_counted, value_counted, Repeated, row_counted, body_counted, loop_counted, form_counted, stmt_counted, stmts_counted}
use Rattle.sk_expand_sizes.proofs.Tallies.{added_over, added_twice, added_as, added_swap, IsProper, proper_sum, over_is}

abbrev pub by_steps : Measure
by_steps = record { node = 1; fresh = 0 }

abbrev pub by_news : Measure
by_news = record { node = 0; fresh = 1 }

-- the work of calls that are still to be counted
abbrev pub due_work : (ℕ → ℕ) → List Due → ℕ
due_work call [] = 0
due_work call (d ∷ ds) = d.times * call d.callee + due_work call ds

one_more : (call : ℕ → ℕ) (ds : List Due) (d : Due) → due_work call (ds ++ d ∷ []) ≡ due_work call ds + d.times * call d.callee
one_more call [] d = omega arith
one_more call (e ∷ ds) d = omega (arith, one_more call ds d)

times_sum : (t a b : ℕ) → t * (a + b) ≡ t * a + t * b
times_sum t a b = omega arith

module _ (turns : ℕ) (steps_of news_of : ℕ → ℕ) where
  -- the tally once all calls are counted
  abbrev pub worth : Count → Tally
  worth c = added c.tally (due_work steps_of c.due) (due_work news_of c.due)

  -- From c to d, steps and records are counted so many times.
  pub record Adds (c d : Count) (t a b : ℕ) : Type 0 where
    pub adds : worth d ≡ added (worth c) (t * a) (t * b)
    pub proper : IsProper c.tally → IsProper d.tally

  nothing : (c : Count) (t : ℕ) → Adds c c t 0 0
  nothing c t = record {
    adds =
        let s : ℕ = due_work steps_of c.due in
        let n : ℕ = due_work news_of c.due in
        added_as c.tally s n (s + t * 0) (n + t * 0) (omega arith) (omega arith) ∙ sym (added_twice c.tally s n (t * 0) (t * 0));
    proper = λ h. h;
  }

  -- one after another
  next : (c d e : Count) (t a b a' b' : ℕ) → Adds c d t a b → Adds d e t a' b' → Adds c e t (a + a') (b + b')
  next c d e t a b a' b' h k = record {
    adds = k.adds ∙ ap (λ w. added w (t * a') (t * b')) h.adds ∙ added_twice (worth c) (t * a) (t * b) (t * a') (t * b') ∙ added_as (worth c) (t * a + t * a') (t * b + t * b') (t * (a + a')) (t * (b + b')) (sym (times_sum t a a')) (sym (times_sum t b b'));
    proper = λ p. k.proper (h.proper p);
  }

  -- the same by equal numbers
  same : (c d : Count) (t a b a' b' : ℕ) → a ≡ a' → b ≡ b' → Adds c d t a b → Adds c d t a' b'
  same c d t a b a' b' e f h = record {
    adds = h.adds ∙ added_as (worth c) (t * a) (t * b) (t * a') (t * b') (ap (λ n. t * n) e) (ap (λ n. t * n) f);
    proper = h.proper;
  }

  -- what is done k times more often
  scaled : (c d : Count) (t k a b : ℕ) → Adds c d (t * k) a b → Adds c d t (k * a) (k * b)
  scaled c d t k a b h = record {
    adds = h.adds ∙ added_as (worth c) (t * k * a) (t * k * b) (t * (k * a)) (t * (k * b)) (mul_assoc t k a) (mul_assoc t k b);
    proper = h.proper;
  }

  charge : (c : Count) (s n t a b : ℕ) → s ≡ t * a → n ≡ t * b → Adds c (charged s n c) t a b
  unfolding charged
  charge c s n t a b e f = record {
    adds = added_swap c.tally s n (due_work steps_of c.due) (due_work news_of c.due) ∙ added_as (worth c) s n (t * a) (t * b) e f;
    proper = λ h. proper_sum c.tally s n;
  }

  step : (c : Count) (t : ℕ) → Adds c (node t c) t 1 0
  step c t = charge c t 0 t 1 0 (omega arith) (omega arith)

  over_adds : (c : Count) (t a b : ℕ) → is_over c.tally ≡ true → Adds c c t a b
  over_adds c t a b h =
      let over : worth c ≡ tally.Over = ap (λ w. added w (due_work steps_of c.due) (due_work news_of c.due)) (over_is c.tally h) ∙ added_over (due_work steps_of c.due) (due_work news_of c.due) in
      record {
        adds = over ∙ sym (ap (λ w. added w (t * a) (t * b)) over ∙ added_over (t * a) (t * b));
        proper = λ p. p;
      }

  unless : (part : Counting) (c : Count) (t a b : ℕ) → Adds c (part c) t a b → Adds c (unless_over part c) t a b
  unless part c t a b h = at (is_over c.tally) refl
    where
      at : (v : Bool) → is_over c.tally ≡ v → Adds c (if v then c else part c) t a b
      at true e = over_adds c t a b e
      at false e = h

  waits : (c : Count) (f t : ℕ) → Adds c (with_call f t c) t (steps_of f) (news_of f)
  waits c f t = record {
    adds =
        let d : Due = record { callee = f; times = t } in
        added_as c.tally (due_work steps_of (c.due ++ d ∷ [])) (due_work news_of (c.due ++ d ∷ [])) (due_work steps_of c.due + t * steps_of f) (due_work news_of c.due + t * news_of f) (one_more steps_of c.due d) (one_more news_of c.due d)
        ∙ sym (added_twice c.tally (due_work steps_of c.due) (due_work news_of c.due) (t * steps_of f) (t * news_of f));
    proper = λ p. p;
  }

  calls : (c : Count) (f t : ℕ) → Adds c (unless_over (with_call f t) c) t (steps_of f) (news_of f)
  calls c f t = unless (with_call f t) c t (steps_of f) (news_of f) (waits c f t)

  swapped : (c d d' : Count) (t a b a' b' : ℕ) → d ≡ d' → a ≡ a' → b ≡ b' → Adds c d' t a' b' → Adds c d t a b
  swapped c d d' t a b a' b' e f g h = same c d t a' b' a b (sym f) (sym g) (subst (λ (z : Count). Adds c z t a' b') (sym e) h)

  -- Expressions

  abbrev form_counts : ℕ → PEForm → Counting
  form_counts t = fold-PEForm Counting Counting Counting (eform_counted t) (λ e. e.form) (λ x. x.value)

  abbrev form_does : Measure → (ℕ → ℕ) → PEForm → ℕ
  form_does measure call = fold-PEForm ℕ ℕ ℕ (eform_work measure turns call) (λ e. e.form) (λ x. x.value)

  abbrev field_does : Measure → (ℕ → ℕ) → PField → ℕ
  field_does measure call = fold-PField ℕ ℕ ℕ (eform_work measure turns call) (λ e. e.form) (λ x. x.value)

  abbrev expr_steps : PExpr → ℕ
  expr_steps = expr_work by_steps turns steps_of

  abbrev expr_news : PExpr → ℕ
  expr_news = expr_work by_news turns news_of

  abbrev field_steps : PField → ℕ
  field_steps = field_does by_steps steps_of

  abbrev field_news : PField → ℕ
  field_news = field_does by_news news_of

  abbrev At_eform : PEForm → Type 0
  At_eform f = (t : ℕ) (c : Count) → Adds c (form_counts t f c) t (form_does by_steps steps_of f) (form_does by_news news_of f)

  abbrev At_expr : PExpr → Type 0
  At_expr e = (t : ℕ) (c : Count) → Adds c (expr_counted t e c) t (expr_steps e) (expr_news e)

  abbrev At_field : PField → Type 0
  At_field x = (t : ℕ) (c : Count) → Adds c (field_counted t x c) t (field_steps x) (field_news x)

  abbrev EForm : Type 0
  EForm = (f : PEForm) × At_eform f

  abbrev Expr : Type 0
  Expr = (e : PExpr) × At_expr e

  abbrev Set : Type 0
  Set = (x : PField) × At_field x

  abbrev down : P.PEForm-F EForm Expr Set → P.PEForm-F PEForm PExpr PField
  down = map-PEForm EForm Expr Set PEForm PExpr PField (λ q. q.0) (λ q. q.0) (λ q. q.0)

  abbrev counts_in : ℕ → P.PEForm-F PEForm PExpr PField → P.PEForm-F Counting Counting Counting
  counts_in t = map-PEForm PEForm PExpr PField Counting Counting Counting (form_counts t) (expr_counted t) (field_counted t)

  abbrev steps_in : P.PEForm-F PEForm PExpr PField → P.PEForm-F ℕ ℕ ℕ
  steps_in = map-PEForm PEForm PExpr PField ℕ ℕ ℕ (form_does by_steps steps_of) expr_steps field_steps

  abbrev news_in_form : P.PEForm-F PEForm PExpr PField → P.PEForm-F ℕ ℕ ℕ
  news_in_form = map-PEForm PEForm PExpr PField ℕ ℕ ℕ (form_does by_news news_of) expr_news field_news

  rolled : (x : P.PEForm-F PEForm PExpr PField) → ((t : ℕ) (c : Count) → Adds c (eform_counted t (counts_in t x) c) t (eform_work by_steps turns steps_of (steps_in x)) (eform_work by_news turns news_of (news_in_form x))) → At_eform (V.roll-PEForm x)
  rolled x h t c = swapped c (form_counts t (V.roll-PEForm x) c) (eform_counted t (counts_in t x) c) t
      (form_does by_steps steps_of (V.roll-PEForm x)) (form_does by_news news_of (V.roll-PEForm x))
      (eform_work by_steps turns steps_of (steps_in x)) (eform_work by_news turns news_of (news_in_form x))
      (ap (λ (d : Counting). d c) (fold-roll-PEForm Counting Counting Counting (eform_counted t) (λ e. e.form) (λ x. x.value) x))
      (fold-roll-PEForm ℕ ℕ ℕ (eform_work by_steps turns steps_of) (λ e. e.form) (λ x. x.value) x)
      (fold-roll-PEForm ℕ ℕ ℕ (eform_work by_news turns news_of) (λ e. e.form) (λ x. x.value) x)
      (h t c)

  exprs_add : (t : ℕ) (qs : List Expr) (c : Count) → Adds c (in_turn (map (expr_counted t) (map (λ q. q.0) qs)) c) t (total (map expr_steps (map (λ q. q.0) qs))) (total (map expr_news (map (λ q. q.0) qs)))
  exprs_add t [] c = nothing c t
  exprs_add t (q ∷ qs) c = next c (expr_counted t q.0 c) _ t (expr_steps q.0) (expr_news q.0) _ _ (q.1 t c) (exprs_add t qs (expr_counted t q.0 c))

  fields_add : (t : ℕ) (qs : List Set) (c : Count) → Adds c (in_turn (map (field_counted t) (map (λ q. q.0) qs)) c) t (total (map field_steps (map (λ q. q.0) qs))) (total (map field_news (map (λ q. q.0) qs)))
  fields_add t [] c = nothing c t
  fields_add t (q ∷ qs) c = next c (field_counted t q.0 c) _ t (field_steps q.0) (field_news q.0) _ _ (q.1 t c) (fields_add t qs (field_counted t q.0 c))

  -- a node, and then one part, two or three
  one : (a : Expr) (t : ℕ) (c : Count) → Adds c (expr_counted t a.0 (node t c)) t (1 + expr_steps a.0) (0 + expr_news a.0)
  one a t c = next c (node t c) _ t 1 0 _ _ (step c t) (a.1 t (node t c))

  two : (a b : Expr) (t : ℕ) (c : Count) → Adds c (expr_counted t b.0 (expr_counted t a.0 (node t c))) t (1 + (expr_steps a.0 + expr_steps b.0)) (0 + (expr_news a.0 + expr_news b.0))
  two a b t c =
      let d = expr_counted t a.0 (node t c) in
      same c _ t (1 + expr_steps a.0 + expr_steps b.0) (0 + expr_news a.0 + expr_news b.0) _ _ (omega arith) (omega arith) (next c d _ t (1 + expr_steps a.0) (0 + expr_news a.0) _ _ (one a t c) (b.1 t d))

  three : (a b d : Expr) (t : ℕ) (c : Count) → Adds c (expr_counted t d.0 (expr_counted t b.0 (expr_counted t a.0 (node t c)))) t (1 + (expr_steps a.0 + (expr_steps b.0 + expr_steps d.0))) (0 + (expr_news a.0 + (expr_news b.0 + expr_news d.0)))
  three a b d t c =
      let z = expr_counted t b.0 (expr_counted t a.0 (node t c)) in
      same c _ t (1 + (expr_steps a.0 + expr_steps b.0) + expr_steps d.0) (0 + (expr_news a.0 + expr_news b.0) + expr_news d.0) _ _ (omega arith) (omega arith) (next c z _ t (1 + (expr_steps a.0 + expr_steps b.0)) (0 + (expr_news a.0 + expr_news b.0)) _ _ (two a b t c) (d.1 t z))

  many : (es : List Expr) (t : ℕ) (c : Count) → Adds c (in_turn (map (expr_counted t) (map (λ q. q.0) es)) (node t c)) t (1 + total (map expr_steps (map (λ q. q.0) es))) (0 + total (map expr_news (map (λ q. q.0) es)))
  many es t c = next c (node t c) _ t 1 0 _ _ (step c t) (exprs_add t es (node t c))

  layer : (y : P.PEForm-F EForm Expr Set) → At_eform (V.roll-PEForm (down y))
  layer (P.Number n) = rolled (P.Number n) (λ t c. step c t)
  layer P.True = rolled P.True (λ t c. step c t)
  layer P.False = rolled P.False (λ t c. step c t)
  layer P.Null = rolled P.Null (λ t c. step c t)
  layer (P.Var slot x) = rolled (P.Var slot x) (λ t c. step c t)
  layer (P.Const k) = rolled (P.Const k) (λ t c. step c t)
  layer (P.Hole bits) = rolled (P.Hole bits) (λ t c. step c t)
  layer (P.Pattern es) = rolled (down (P.Pattern es)) (λ t c. many es t c)
  layer (P.Paren a) = rolled (P.Paren a.0) (λ t c. one a t c)
  layer (P.Call f es) = rolled (down (P.Call f es)) (λ t c.
      let d : Count = node t c in
      let e : Count = unless_over (with_call f.index t) d in
      let first = next c d e t 1 0 (steps_of f.index) (news_of f.index) (step c t) (calls d f.index t) in
      same c _ t (1 + steps_of f.index + total (map expr_steps (map (λ q. q.0) es))) (0 + news_of f.index + total (map expr_news (map (λ q. q.0) es))) _ _ (omega arith) (omega arith) (next c e _ t (1 + steps_of f.index) (0 + news_of f.index) _ _ first (exprs_add t es e)))
  layer (P.New s xs) = rolled (down (P.New s xs)) (λ t c.
      let d : Count = charged t t c in
      let a : ℕ = total (map field_steps (map (λ q. q.0) xs)) in
      let b : ℕ = total (map field_news (map (λ q. q.0) xs)) in
      same c _ t (1 + a) (1 + b) (1 + (0 + a)) (0 + (1 + b)) (omega arith) (omega arith) (next c d _ t 1 1 a b (charge c t t t 1 1 (omega arith) (omega arith)) (fields_add t xs d)))
  layer (P.Braces es) = rolled (down (P.Braces es)) (λ t c. many es t c)
  layer (P.Member a d k) = rolled (P.Member a.0 d k) (λ t c. one a t c)
  layer (P.Index a i) = rolled (P.Index a.0 i.0) (λ t c. two a i t c)
  layer (P.Slice a i n) = rolled (P.Slice a.0 i.0 n) (λ t c. two a i t c)
  layer (P.Unary o a) = rolled (P.Unary o a.0) (λ t c. one a t c)
  layer (P.Binary o a b) = rolled (P.Binary o a.0 b.0) (λ t c. two a b t c)
  layer (P.Cond test a b) = rolled (P.Cond test.0 a.0 b.0) (λ t c. three test a b t c)
  layer (P.ToInt a) = rolled (P.ToInt a.0) (λ t c. a.1 t c)
  layer (P.Pad a) = rolled (P.Pad a.0) (λ t c. a.1 t c)

  pub expr_adds : (e : PExpr) → At_expr e
  expr_adds = ind-PExpr At_eform At_expr At_field
      (λ x y is. subst (λ z. At_eform (V.roll-PEForm z)) is (layer y))
      (λ x y is. subst (λ z. At_expr (V.roll-PExpr z)) is (λ t c.
      let z : P.PExpr-F PEForm PExpr PField = map-PExpr EForm Expr Set PEForm PExpr PField (λ q. q.0) (λ q. q.0) (λ q. q.0) y in
      swapped c _ (form_counts t y.form.0 c) t _ _ (form_does by_steps steps_of y.form.0) (form_does by_news news_of y.form.0)
      (ap (λ (d : Counting). d c) (fold-roll-PExpr Counting Counting Counting (eform_counted t) (λ e. e.form) (λ x. x.value) z))
      (fold-roll-PExpr ℕ ℕ ℕ (eform_work by_steps turns steps_of) (λ e. e.form) (λ x. x.value) z)
      (fold-roll-PExpr ℕ ℕ ℕ (eform_work by_news turns news_of) (λ e. e.form) (λ x. x.value) z)
      (y.form.1 t c)))
      (λ x y is. subst (λ z. At_field (V.roll-PField z)) is (λ t c.
      let z : P.PField-F PEForm PExpr PField = map-PField EForm Expr Set PEForm PExpr PField (λ q. q.0) (λ q. q.0) (λ q. q.0) y in
      swapped c _ (expr_counted t y.value.0 c) t _ _ (expr_steps y.value.0) (expr_news y.value.0)
      (ap (λ (d : Counting). d c) (fold-roll-PField Counting Counting Counting (eform_counted t) (λ e. e.form) (λ x. x.value) z))
      (fold-roll-PField ℕ ℕ ℕ (eform_work by_steps turns steps_of) (λ e. e.form) (λ x. x.value) z)
      (fold-roll-PField ℕ ℕ ℕ (eform_work by_news turns news_of) (λ e. e.form) (λ x. x.value) z)
      (y.value.1 t c)))

  value_adds : (e : Option PExpr) (t : ℕ) (c : Count) → Adds c (value_counted t e c) t (value_work by_steps turns steps_of e) (value_work by_news turns news_of e)
  value_adds None t c = nothing c t
  value_adds (Some e) t c = expr_adds e t c

  -- Statements

  abbrev pform_counts : PForm → Repeated
  pform_counts = fold-PForm Repeated Repeated (form_counted turns) (λ s times c. s.form times (charged times 0 c))

  abbrev pform_steps : PForm → ℕ
  pform_steps = fold-PForm ℕ ℕ (form_work by_steps turns steps_of) (λ s. 1 + s.form)

  abbrev pform_news : PForm → ℕ
  pform_news = fold-PForm ℕ ℕ (form_work by_news turns news_of) (λ s. 0 + s.form)

  abbrev stmt_steps : PStmt → ℕ
  stmt_steps = stmt_work by_steps turns steps_of

  abbrev stmt_news : PStmt → ℕ
  stmt_news = stmt_work by_news turns news_of

  abbrev At_form : PForm → Type 0
  At_form f = (t : ℕ) (c : Count) → Adds c (pform_counts f t c) t (pform_steps f) (pform_news f)

  abbrev At_stmt : PStmt → Type 0
  At_stmt s = (t : ℕ) (c : Count) → Adds c (stmt_counted turns s t c) t (stmt_steps s) (stmt_news s)

  abbrev Form : Type 0
  Form = (f : PForm) × At_form f

  abbrev Stmt : Type 0
  Stmt = (s : PStmt) × At_stmt s

  abbrev below : S.PForm-F Form Stmt → S.PForm-F PForm PStmt
  below = map-PForm Form Stmt PForm PStmt (λ q. q.0) (λ q. q.0)

  abbrev stmts : List Stmt → List PStmt
  stmts = map (λ q. q.0)

  abbrev pcounts_in : S.PForm-F PForm PStmt → S.PForm-F Repeated Repeated
  pcounts_in = map-PForm PForm PStmt Repeated Repeated pform_counts (stmt_counted turns)

  abbrev psteps_in : S.PForm-F PForm PStmt → S.PForm-F ℕ ℕ
  psteps_in = map-PForm PForm PStmt ℕ ℕ pform_steps stmt_steps

  abbrev pnews_in : S.PForm-F PForm PStmt → S.PForm-F ℕ ℕ
  pnews_in = map-PForm PForm PStmt ℕ ℕ pform_news stmt_news

  rolled_form : (x : S.PForm-F PForm PStmt) → ((t : ℕ) (c : Count) → Adds c (form_counted turns (pcounts_in x) t c) t (form_work by_steps turns steps_of (psteps_in x)) (form_work by_news turns news_of (pnews_in x))) → At_form (W.roll-PForm x)
  rolled_form x h t c = swapped c (pform_counts (W.roll-PForm x) t c) (form_counted turns (pcounts_in x) t c) t
      (pform_steps (W.roll-PForm x)) (pform_news (W.roll-PForm x))
      (form_work by_steps turns steps_of (psteps_in x)) (form_work by_news turns news_of (pnews_in x))
      (ap (λ (d : Repeated). d t c) (fold-roll-PForm Repeated Repeated (form_counted turns) (λ s times c. s.form times (charged times 0 c)) x))
      (fold-roll-PForm ℕ ℕ (form_work by_steps turns steps_of) (λ s. 1 + s.form) x)
      (fold-roll-PForm ℕ ℕ (form_work by_news turns news_of) (λ s. 0 + s.form) x)
      (h t c)

  stmts_add : (qs : List Stmt) (t : ℕ) (c : Count) → Adds c (row_counted (map (stmt_counted turns) (stmts qs)) t c) t (total (map stmt_steps (stmts qs))) (total (map stmt_news (stmts qs)))
  stmts_add [] t c = nothing c t
  stmts_add (q ∷ qs) t c = next c (stmt_counted turns q.0 t c) _ t (stmt_steps q.0) (stmt_news q.0) _ _ (q.1 t c) (stmts_add qs t (stmt_counted turns q.0 t c))

  pair : (a b : PExpr) (t : ℕ) (c : Count) → Adds c (expr_counted t b (expr_counted t a c)) t (expr_steps a + expr_steps b) (expr_news a + expr_news b)
  pair a b t c = next c (expr_counted t a c) _ t (expr_steps a) (expr_news a) _ _ (expr_adds a t c) (expr_adds b t (expr_counted t a c))

  body_adds : (n : ℕ) (q : Stmt) (t : ℕ) (c : Count) → Adds c (body_counted n (stmt_counted turns q.0) t c) t (n * stmt_steps q.0) (n * stmt_news q.0)
  body_adds zero q t c = same c c t 0 0 (0 * stmt_steps q.0) (0 * stmt_news q.0) (omega arith) (omega arith) (nothing c t)
  body_adds (suc n) q t c = scaled c _ t (suc n) (stmt_steps q.0) (stmt_news q.0) (q.1 (t * suc n) c)

  loop_adds : (test : PExpr) (q : Stmt) (t : ℕ) (c : Count) → Adds c (loop_counted turns test (stmt_counted turns q.0) t c) t ((turns + 1) * expr_steps test + turns * stmt_steps q.0) ((turns + 1) * expr_news test + turns * stmt_news q.0)
  loop_adds test q t c =
      let d : Count = expr_counted (t * (turns + 1)) test c in
      next c d _ t ((turns + 1) * expr_steps test) ((turns + 1) * expr_news test) _ _ (scaled c d t (turns + 1) (expr_steps test) (expr_news test) (expr_adds test (t * (turns + 1)) c)) (body_adds turns q t d)

  reorder_adds : (qs : List Stmt) (t : ℕ) (c : Count) → Adds c (row_counted (map (stmt_counted turns) (stmts qs)) (t * length (map (stmt_counted turns) (stmts qs))) c) t (length (map stmt_steps (stmts qs)) * total (map stmt_steps (stmts qs))) (length (map stmt_news (stmts qs)) * total (map stmt_news (stmts qs)))
  reorder_adds qs t c =
      let n : ℕ = length (map (stmt_counted turns) (stmts qs)) in
      let s : ℕ = total (map stmt_steps (stmts qs)) in
      let m : ℕ = total (map stmt_news (stmts qs)) in
      let long : n ≡ length (stmts qs) = length-map (stmts qs) (stmt_counted turns) in
      same c _ t (n * s) (n * m) _ _
      (ap (λ k. k * s) (long ∙ sym (length-map (stmts qs) stmt_steps)))
      (ap (λ k. k * m) (long ∙ sym (length-map (stmts qs) stmt_news)))
      (scaled c _ t n s m (stmts_add qs (t * n) c))

  if_only : (test : PExpr) (a : Stmt) (t : ℕ) (c : Count) → Adds c (stmt_counted turns a.0 t (expr_counted t test c)) t (expr_steps test + (stmt_steps a.0 + 0)) (expr_news test + (stmt_news a.0 + 0))
  if_only test a t c =
      let d : Count = expr_counted t test c in
      same c _ t (expr_steps test + stmt_steps a.0) (expr_news test + stmt_news a.0) _ _ (omega arith) (omega arith)
      (next c d _ t (expr_steps test) (expr_news test) _ _ (expr_adds test t c) (a.1 t d))

  if_else : (test : PExpr) (a b : Stmt) (t : ℕ) (c : Count) → Adds c (stmt_counted turns b.0 t (stmt_counted turns a.0 t (expr_counted t test c))) t (expr_steps test + (stmt_steps a.0 + stmt_steps b.0)) (expr_news test + (stmt_news a.0 + stmt_news b.0))
  if_else test a b t c =
      let d : Count = stmt_counted turns a.0 t (expr_counted t test c) in
      same c _ t (expr_steps test + (stmt_steps a.0 + 0) + stmt_steps b.0) (expr_news test + (stmt_news a.0 + 0) + stmt_news b.0) _ _ (omega arith) (omega arith)
      (next c d _ t (expr_steps test + (stmt_steps a.0 + 0)) (expr_news test + (stmt_news a.0 + 0)) _ _ (if_only test a t c) (b.1 t d))

  form_layer : (y : S.PForm-F Form Stmt) → At_form (W.roll-PForm (below y))
  form_layer (S.Block ss) = rolled_form (below (S.Block ss)) (λ t c. stmts_add ss t c)
  form_layer (S.Declare slot x ty v) = rolled_form (S.Declare slot x ty v) (λ t c. value_adds v t c)
  form_layer (S.Assign a v) = rolled_form (S.Assign a v) (λ t c. pair a v t c)
  form_layer (S.Call v) = rolled_form (S.Call v) (λ t c. expr_adds v t c)
  form_layer (S.If test a None) = rolled_form (S.If test a.0 None) (λ t c. if_only test a t c)
  form_layer (S.If test a (Some b)) = rolled_form (S.If test a.0 (Some b.0)) (λ t c. if_else test a b t c)
  form_layer (S.While test a) = rolled_form (S.While test a.0) (λ t c. unless (loop_counted turns test (stmt_counted turns a.0) t) c t _ _ (loop_adds test a t c))
  form_layer (S.Return v) = rolled_form (S.Return v) (λ t c. value_adds v t c)
  form_layer (S.Assert v) = rolled_form (S.Assert v) (λ t c. expr_adds v t c)
  form_layer (S.Assume v) = rolled_form (S.Assume v) (λ t c. expr_adds v t c)
  form_layer (S.Minimize v) = rolled_form (S.Minimize v) (λ t c. expr_adds v t c)
  form_layer (S.Repeat k ss) = rolled_form (below (S.Repeat k ss)) (λ t c. stmts_add ss t c)
  form_layer (S.MinRepeat ss) = rolled_form (below (S.MinRepeat ss)) (λ t c. stmts_add ss t c)
  form_layer (S.Reorder ss) = rolled_form (below (S.Reorder ss)) (λ t c. unless (row_counted (map (stmt_counted turns) (stmts ss)) (t * length (map (stmt_counted turns) (stmts ss)))) c t _ _ (reorder_adds ss t c))

  pub stmt_adds : (s : PStmt) → At_stmt s
  stmt_adds = ind-PStmt At_form At_stmt
      (λ x y is. subst (λ z. At_form (W.roll-PForm z)) is (form_layer y))
      (λ x y is. subst (λ z. At_stmt (W.roll-PStmt z)) is (λ t c.
      let z : S.PStmt-F PForm PStmt = map-PStmt Form Stmt PForm PStmt (λ q. q.0) (λ q. q.0) y in
      let d : Count = charged t 0 c in
      swapped c _ (pform_counts y.form.0 t d) t _ _ (1 + pform_steps y.form.0) (0 + pform_news y.form.0)
      (ap (λ (d : Repeated). d t c) (fold-roll-PStmt Repeated Repeated (form_counted turns) (λ s times c. s.form times (charged times 0 c)) z))
      (fold-roll-PStmt ℕ ℕ (form_work by_steps turns steps_of) (λ s. 1 + s.form) z)
      (fold-roll-PStmt ℕ ℕ (form_work by_news turns news_of) (λ s. 0 + s.form) z)
      (next c d _ t 1 0 _ _ (charge c t 0 t 1 0 (omega arith) (omega arith)) (y.form.1 t d))))

  body_all : (ss : List PStmt) (t : ℕ) (c : Count) → Adds c (stmts_counted turns ss t c) t (total (map stmt_steps ss)) (total (map stmt_news ss))
  body_all [] t c = nothing c t
  body_all (s ∷ ss) t c = next c (stmt_counted turns s t c) _ t (stmt_steps s) (stmt_news s) _ _ (stmt_adds s t c) (body_all ss t (stmt_counted turns s t c))

  -- a function's own step, and its statements
  pub fun_adds : (ss : List PStmt) (t : ℕ) (c : Count) → Adds c (stmts_counted turns ss t (charged t 0 c)) t (1 + total (map stmt_steps ss)) (0 + total (map stmt_news ss))
  fun_adds ss t c = next c (charged t 0 c) _ t 1 0 _ _ (charge c t 0 t 1 0 (omega arith) (omega arith)) (body_all ss t (charged t 0 c))
