-- A walk makes no more copies than nodes.
use Rattle.std.proofs.Common.{◌≡◌, ℕ, zero, suc, ◌+◌, ◌≤◌, Bool, true, false, List, [], ◌∷◌, ◌++◌, map, length, length-append, Option, Some, None, sym, ap, ◌∙◌, subst, arith}
use Rattle.std.specs.Prelude.{slice_get, slice_index_or, if◌then◌else◌}
use Rattle.sk_base.specs.declared.span.Span.{Span}
use Rattle.sk_base.specs.declared.bounds.Bounds.{Bounds}
use Rattle.sk_prog.specs.declared.expr.PExpr.{PExpr}
use Rattle.sk_prog.specs.declared.expr.PField.{PField}
use Rattle.sk_prog.specs.declared.expr.PEForm.{PEForm}
use Rattle.sk_prog.specs.declared.expr.PEForm.TheVariants as eform
use Rattle.sk_prog.specs.declared.expr.PEForm.TheOpen as P
use Rattle.sk_prog.specs.declared.expr.PEForm.TheViews.{roll-PEForm}
use Rattle.sk_prog.specs.declared.expr.PEForm.TheViews as V
use Rattle.sk_prog.specs.declared.expr.PEForm.TheFolds.{map-PEForm, fold-PEForm, fold-PField, fold-roll-PEForm, fold-roll-PExpr, fold-roll-PField}
use Rattle.sk_prog.specs.declared.stmt.PStmt.{PStmt}
use Rattle.sk_prog.specs.declared.stmt.PForm.{PForm}
use Rattle.sk_prog.specs.declared.stmt.PForm.TheVariants as form
use Rattle.sk_prog.specs.declared.stmt.PForm.TheOpen as S
use Rattle.sk_prog.specs.declared.stmt.PForm.TheViews.{roll-PForm}
use Rattle.sk_prog.specs.declared.stmt.PForm.TheViews as W
use Rattle.sk_prog.specs.declared.stmt.PForm.TheFolds.{map-PForm, fold-PForm, fold-roll-PForm, fold-roll-PStmt}
use Rattle.sk_prog.specs.declared.prog.Fun.{Fun}
use Rattle.sk_model.specs.Parts.{rank, total}
use Rattle.sk_model.specs.Nodes.{eform_nodes, expr_nodes, value_nodes, form_nodes, stmt_nodes, stmts_nodes, funs_nodes}
use Rattle.sk_model.specs.Expand.{Walk, pure, in_order, times, copies_held, most_copies, CallWalk, fun_id, eform_walk, expr_step, field_step, walk_expr, walk_value, form_walk, stmt_step, walk_stmt, walk_stmts, is_generator, is_zero, are_ordinary, copied, call_of, calls_walk, one_less, stub, all_left, first_calls, walk_fun, walk_funs, expand}
use Rattle.sk_model.proofs.Principle.{expr_law, stmt_law}
use Rattle.sk_expand_laws.specs.Few.{CopiesAreFew}

-- no more copies than so many nodes and those of the copies
abbrev Few : ℕ → List Fun → Type 0
Few n cs = length cs ≤ n + funs_nodes cs

funs_append : (xs ys : List Fun) → funs_nodes (xs ++ ys) ≡ funs_nodes xs + funs_nodes ys
funs_append [] ys = omega arith
funs_append (x ∷ xs) ys = omega (arith, funs_append xs ys)

none : (n : ℕ) → Few n []
none n = omega arith

join : (a b : ℕ) (xs ys : List Fun) → Few a xs → Few b ys → Few (a + b) (xs ++ ys)
join a b xs ys h j = omega (arith, h, j, length-append xs ys, funs_append xs ys)

grow : (a : ℕ) (cs : List Fun) → Few a cs → Few (suc a) cs
grow a cs h = omega (arith, h)

at : (n m : ℕ) (cs : List Fun) → n ≡ m → Few m cs → Few n cs
at n m cs e h = subst (λ n. Few n cs) (sym e) h

module _ {A : Type 0} (count : A → ℕ) where
  abbrev FewMade : Walk A → Type 0
  FewMade w = (k : ℕ) → Few (count (w k).made) (w k).copies

  abbrev counted : List A → ℕ
  counted xs = total (map count xs)

  order : (qs : List ((w : Walk A) × FewMade w)) (k : ℕ) → Few (counted (in_order (map (λ q. q.0) qs) k).made) (in_order (map (λ q. q.0) qs) k).copies
  order [] k = none 0
  order (q ∷ qs) k =
      let w = q.0 k in
      let r = in_order (map (λ q. q.0) qs) (k + length w.copies) in
      join (count w.made) (counted r.made) w.copies r.copies (q.1 k) (order qs (k + length w.copies))

  counted_append : (xs ys : List A) → counted (xs ++ ys) ≡ counted xs + counted ys
  counted_append [] ys = omega arith
  counted_append (x ∷ xs) ys = omega (arith, counted_append xs ys)

  repeated : (n : ℕ) (w : Walk (List A)) → ((k : ℕ) → Few (counted (w k).made) (w k).copies) → (k : ℕ) → Few (counted (times n w k).made) (times n w k).copies
  repeated zero w h k = none 0
  repeated (suc n) w h k =
      let m = w k in
      let r = times n w (k + length m.copies) in
      at (counted (m.made ++ r.made)) (counted m.made + counted r.made) (m.copies ++ r.copies) (counted_append m.made r.made) (join (counted m.made) (counted r.made) m.copies r.copies (h k) (repeated n w h (k + length m.copies)))

module _ (bounds : Bounds) (call : CallWalk) (calls : (s : Span) (f k : ℕ) → Few 1 (call s f k).copies) where
  abbrev form_count : PEForm → ℕ
  form_count = fold-PEForm ℕ ℕ ℕ eform_nodes (λ e. e.form) (λ x. x.value)

  abbrev field_count : PField → ℕ
  field_count = fold-PField ℕ ℕ ℕ eform_nodes (λ e. e.form) (λ x. x.value)

  abbrev PLayer : Type 0
  PLayer = P.PEForm-F PEForm PExpr PField

  count_is : (l : PLayer) (f : PEForm) → roll-PEForm l ≡ f → form_count f ≡ eform_nodes (map-PEForm PEForm PExpr PField ℕ ℕ ℕ form_count expr_nodes field_count l)
  count_is l f is = ap form_count (sym is) ∙ fold-roll-PEForm ℕ ℕ ℕ eform_nodes (λ e. e.form) (λ x. x.value) l

  abbrev FormFew : (Span → Walk PEForm) → Type 0
  FormFew w = (s : Span) → FewMade form_count (w s)

  abbrev ExprFew : Walk PExpr → Type 0
  ExprFew w = FewMade expr_nodes w

  abbrev FieldFew : Walk PField → Type 0
  FieldFew w = FewMade field_count w

  abbrev Given : Type 0
  Given = P.PEForm-F ((w : Span → Walk PEForm) × FormFew w) ((w : Walk PExpr) × ExprFew w) ((w : Walk PField) × FieldFew w)

  abbrev down : Given → P.PEForm-F (Span → Walk PEForm) (Walk PExpr) (Walk PField)
  down y = map-PEForm ((w : Span → Walk PEForm) × FormFew w) ((w : Walk PExpr) × ExprFew w) ((w : Walk PField) × FieldFew w) (Span → Walk PEForm) (Walk PExpr) (Walk PField) (λ q. q.0) (λ q. q.0) (λ q. q.0) y

  abbrev walks : List ((w : Walk PExpr) × ExprFew w) → List (Walk PExpr)
  walks qs = map (λ (q : (w : Walk PExpr) × ExprFew w). q.0) qs

  abbrev field_walks : List ((w : Walk PField) × FieldFew w) → List (Walk PField)
  field_walks qs = map (λ (q : (w : Walk PField) × FieldFew w). q.0) qs

  layer : (y : Given) → FormFew (eform_walk bounds call (down y))
  layer (P.Number n) s k = none _
  layer P.True s k = none _
  layer P.False s k = none _
  layer P.Null s k = none _
  layer (P.Var slot x) s k = none _
  layer (P.Const r) s k = none _
  layer (P.Hole n) s k = none _
  layer (P.Pattern qs) s k = let m = in_order (walks qs) k in at _ _ m.copies (count_is (P.Pattern m.made) (eform.Pattern m.made) (V.rolls-Pattern m.made)) (grow _ m.copies (order expr_nodes qs k))
  layer (P.Paren q) s k = let m = q.0 k in at _ _ m.copies (count_is (P.Paren m.made) (eform.Paren m.made) (V.rolls-Paren m.made)) (grow _ m.copies (q.1 k))
  layer (P.Call f qs) s k =
      let w = call s f.index k in
      let n = k + length w.copies in
      let m = in_order (walks qs) n in
      let j = join 1 (counted expr_nodes m.made) w.copies m.copies (calls s f.index k) (order expr_nodes qs n) in
      let e : suc (counted expr_nodes m.made) ≡ 1 + counted expr_nodes m.made = omega arith in
      at _ _ (w.copies ++ m.copies) (count_is (P.Call (fun_id w.made) m.made) (eform.Call (fun_id w.made) m.made) (V.rolls-Call (fun_id w.made) m.made) ∙ e) j
  layer (P.New d qs) s k = let m = in_order (field_walks qs) k in at _ _ m.copies (count_is (P.New d m.made) (eform.New d m.made) (V.rolls-New d m.made)) (grow _ m.copies (order field_count qs k))
  layer (P.Braces qs) s k = let m = in_order (walks qs) k in at _ _ m.copies (count_is (P.Braces m.made) (eform.Braces m.made) (V.rolls-Braces m.made)) (grow _ m.copies (order expr_nodes qs k))
  layer (P.Member q d i) s k = let m = q.0 k in at _ _ m.copies (count_is (P.Member m.made d i) (eform.Member m.made d i) (V.rolls-Member m.made d i)) (grow _ m.copies (q.1 k))
  layer (P.Index q j) s k =
      let w = q.0 k in
      let m = j.0 (k + length w.copies) in
      at _ _ (w.copies ++ m.copies) (count_is (P.Index w.made m.made) (eform.Index w.made m.made) (V.rolls-Index w.made m.made)) (grow _ (w.copies ++ m.copies) (join (expr_nodes w.made) (expr_nodes m.made) w.copies m.copies (q.1 k) (j.1 (k + length w.copies))))
  layer (P.Slice q j n) s k =
      let w = q.0 k in
      let m = j.0 (k + length w.copies) in
      at _ _ (w.copies ++ m.copies) (count_is (P.Slice w.made m.made n) (eform.Slice w.made m.made n) (V.rolls-Slice w.made m.made n)) (grow _ (w.copies ++ m.copies) (join (expr_nodes w.made) (expr_nodes m.made) w.copies m.copies (q.1 k) (j.1 (k + length w.copies))))
  layer (P.Unary o q) s k = let m = q.0 k in at _ _ m.copies (count_is (P.Unary o m.made) (eform.Unary o m.made) (V.rolls-Unary o m.made)) (grow _ m.copies (q.1 k))
  layer (P.Binary o q j) s k =
      let w = q.0 k in
      let m = j.0 (k + length w.copies) in
      at _ _ (w.copies ++ m.copies) (count_is (P.Binary o w.made m.made) (eform.Binary o w.made m.made) (V.rolls-Binary o w.made m.made)) (grow _ (w.copies ++ m.copies) (join (expr_nodes w.made) (expr_nodes m.made) w.copies m.copies (q.1 k) (j.1 (k + length w.copies))))
  layer (P.Cond c q j) s k =
      let v = c.0 k in
      let w = q.0 (k + length v.copies) in
      let n = (k + length v.copies) + length w.copies in
      let m = j.0 n in
      let inner = join (expr_nodes w.made) (expr_nodes m.made) w.copies m.copies (q.1 (k + length v.copies)) (j.1 n) in
      at _ _ (v.copies ++ (w.copies ++ m.copies)) (count_is (P.Cond v.made w.made m.made) (eform.Cond v.made w.made m.made) (V.rolls-Cond v.made w.made m.made)) (grow _ (v.copies ++ (w.copies ++ m.copies)) (join (expr_nodes v.made) (expr_nodes w.made + expr_nodes m.made) v.copies (w.copies ++ m.copies) (c.1 k) inner))
  layer (P.ToInt q) s k = let m = q.0 k in at _ _ m.copies (count_is (P.ToInt m.made) (eform.ToInt m.made) (V.rolls-ToInt m.made)) (q.1 k)
  layer (P.Pad q) s k = let m = q.0 k in at _ _ m.copies (count_is (P.Pad m.made) (eform.Pad m.made) (V.rolls-Pad m.made)) (q.1 k)

  pub expr_few : (e : PExpr) → ExprFew (walk_expr bounds call e)
  expr_few = expr_law (Span → Walk PEForm) (Walk PExpr) (Walk PField) (eform_walk bounds call) (expr_step bounds call) (field_step bounds call) FormFew ExprFew FieldFew layer
      (λ y k. let m = y.form.0 y.span k in at _ _ m.copies (fold-roll-PExpr ℕ ℕ ℕ eform_nodes (λ e. e.form) (λ x. x.value) (record { span = y.span; ty = y.ty; form = m.made })) (y.form.1 y.span k))
      (λ y k. let m = y.value.0 k in at _ _ m.copies (fold-roll-PField ℕ ℕ ℕ eform_nodes (λ e. e.form) (λ x. x.value) (record { field = y.field; value = m.made })) (y.value.1 k))

  value_few : (o : Option PExpr) (k : ℕ) → Few (value_nodes (walk_value bounds call o k).made) (walk_value bounds call o k).copies
  value_few None k = none 0
  value_few (Some e) k = expr_few e k

  -- Statements

  abbrev act_count : PForm → ℕ
  act_count = fold-PForm ℕ ℕ form_nodes (λ s. suc s.form)

  act_is : (l : S.PForm-F PForm PStmt) (f : PForm) → roll-PForm l ≡ f → act_count f ≡ form_nodes (map-PForm PForm PStmt ℕ ℕ act_count stmt_nodes l)
  act_is l f is = ap act_count (sym is) ∙ fold-roll-PForm ℕ ℕ form_nodes (λ s. suc s.form) l

  abbrev ActFew : Walk PForm → Type 0
  ActFew w = FewMade act_count w

  abbrev StmtFew : Walk PStmt → Type 0
  StmtFew w = FewMade stmt_nodes w

  abbrev Met : Type 0
  Met = (w : Walk PStmt) × StmtFew w

  abbrev steps : List Met → List (Walk PStmt)
  steps qs = map (λ (q : Met). q.0) qs

  act : (y : S.PForm-F ((w : Walk PForm) × ActFew w) Met) → ActFew (form_walk bounds call (map-PForm ((w : Walk PForm) × ActFew w) Met (Walk PForm) (Walk PStmt) (λ q. q.0) (λ q. q.0) y))
  act (S.Block qs) k = let m = in_order (steps qs) k in at _ _ m.copies (act_is (S.Block m.made) (form.Block m.made) (W.rolls-Block m.made)) (order stmt_nodes qs k)
  act (S.Declare slot x t value) k = let m = walk_value bounds call value k in at _ _ m.copies (act_is (S.Declare slot x t m.made) (form.Declare slot x t m.made) (W.rolls-Declare slot x t m.made)) (value_few value k)
  act (S.Assign p q) k =
      let w = walk_expr bounds call p k in
      let m = walk_expr bounds call q (k + length w.copies) in
      at _ _ (w.copies ++ m.copies) (act_is (S.Assign w.made m.made) (form.Assign w.made m.made) (W.rolls-Assign w.made m.made)) (join (expr_nodes w.made) (expr_nodes m.made) w.copies m.copies (expr_few p k) (expr_few q (k + length w.copies)))
  act (S.Call p) k = let m = walk_expr bounds call p k in at _ _ m.copies (act_is (S.Call m.made) (form.Call m.made) (W.rolls-Call m.made)) (expr_few p k)
  act (S.If p a None) k =
      let w = walk_expr bounds call p k in
      let n = k + length w.copies in
      let v = a.0 n in
      let inner : Few (stmt_nodes v.made + 0) (v.copies ++ []) = join (stmt_nodes v.made) 0 v.copies [] (a.1 n) (none 0) in
      at _ _ (w.copies ++ (v.copies ++ [])) (act_is (S.If w.made v.made None) (form.If w.made v.made None) (W.rolls-If w.made v.made None)) (join (expr_nodes w.made) (stmt_nodes v.made + 0) w.copies (v.copies ++ []) (expr_few p k) inner)
  act (S.If p a (Some b)) k =
      let w = walk_expr bounds call p k in
      let n = k + length w.copies in
      let v = a.0 n in
      let j = n + length v.copies in
      let o = b.0 j in
      let inner = join (stmt_nodes v.made) (stmt_nodes o.made) v.copies o.copies (a.1 n) (b.1 j) in
      at _ _ (w.copies ++ (v.copies ++ o.copies)) (act_is (S.If w.made v.made (Some o.made)) (form.If w.made v.made (Some o.made)) (W.rolls-If w.made v.made (Some o.made))) (join (expr_nodes w.made) (stmt_nodes v.made + stmt_nodes o.made) w.copies (v.copies ++ o.copies) (expr_few p k) inner)
  act (S.While p a) k =
      let w = walk_expr bounds call p k in
      let n = k + length w.copies in
      let v = a.0 n in
      at _ _ (w.copies ++ v.copies) (act_is (S.While w.made v.made) (form.While w.made v.made) (W.rolls-While w.made v.made)) (join (expr_nodes w.made) (stmt_nodes v.made) w.copies v.copies (expr_few p k) (a.1 n))
  act (S.Return value) k = let m = walk_value bounds call value k in at _ _ m.copies (act_is (S.Return m.made) (form.Return m.made) (W.rolls-Return m.made)) (value_few value k)
  act (S.Assert p) k = let m = walk_expr bounds call p k in at _ _ m.copies (act_is (S.Assert m.made) (form.Assert m.made) (W.rolls-Assert m.made)) (expr_few p k)
  act (S.Assume p) k = let m = walk_expr bounds call p k in at _ _ m.copies (act_is (S.Assume m.made) (form.Assume m.made) (W.rolls-Assume m.made)) (expr_few p k)
  act (S.Minimize p) k = let m = walk_expr bounds call p k in at _ _ m.copies (act_is (S.Minimize m.made) (form.Minimize m.made) (W.rolls-Minimize m.made)) (expr_few p k)
  act (S.Repeat p qs) k =
      let m = times (copies_held bounds p.form) (in_order (steps qs)) k in
      let r = repeated stmt_nodes (copies_held bounds p.form) (in_order (steps qs)) (order stmt_nodes qs) k in
      at _ _ m.copies (act_is (S.Repeat p m.made) (form.Repeat p m.made) (W.rolls-Repeat p m.made)) (join (expr_nodes p) (counted stmt_nodes m.made) [] m.copies (none (expr_nodes p)) r)
  act (S.MinRepeat qs) k =
      let m = times (most_copies bounds bounds.cbits) (in_order (steps qs)) k in
      let r = repeated stmt_nodes (most_copies bounds bounds.cbits) (in_order (steps qs)) (order stmt_nodes qs) k in
      at _ _ m.copies (act_is (S.MinRepeat m.made) (form.MinRepeat m.made) (W.rolls-MinRepeat m.made)) r
  act (S.Reorder qs) k = let m = in_order (steps qs) k in at _ _ m.copies (act_is (S.Reorder m.made) (form.Reorder m.made) (W.rolls-Reorder m.made)) (order stmt_nodes qs k)

  stmt_few : (s : PStmt) → StmtFew (walk_stmt bounds call s)
  stmt_few = stmt_law (Walk PForm) (Walk PStmt) (form_walk bounds call) (stmt_step bounds call) ActFew StmtFew act
      (λ y k. let m = y.form.0 k in at _ _ m.copies (fold-roll-PStmt ℕ ℕ form_nodes (λ s. suc s.form) (record { span = y.span; form = m.made })) (grow _ m.copies (y.form.1 k)))

  pub stmts_few : (ss : List PStmt) (k : ℕ) → Few (stmts_nodes (walk_stmts bounds call ss k).made) (walk_stmts bounds call ss k).copies
  stmts_few [] k = none 0
  stmts_few (s ∷ ss) k =
      let w = walk_stmt bounds call s k in
      let n = k + length w.copies in
      let r = walk_stmts bounds call ss n in
      join (stmt_nodes w.made) (stmts_nodes r.made) w.copies r.copies (stmt_few s k) (stmts_few ss n)

-- Calls

module _ (bounds : Bounds) (funs : List Fun) where
  one_more : (fun : Fun) (body : Walk (List PStmt)) → ((k : ℕ) → Few (stmts_nodes (body k).made) (body k).copies) → (k : ℕ) → Few 1 (copied bounds funs fun body k).copies
  one_more fun body h k = let few = h (k + 1) in omega (arith, few)

  called : (inner : CallWalk) (left : List ℕ) (s : Span) (f k : ℕ) (o : Option Fun) → ((fun : Fun) → (j : ℕ) → Few (stmts_nodes (walk_stmts bounds inner fun.body j).made) (walk_stmts bounds inner fun.body j).copies) → Few 1 (call_of bounds funs inner left s f o k).copies
  called inner left s f k None h = none 1
  called inner left s f k (Some fun) h = by_kind (is_generator fun.kind) (is_zero (slice_index_or left f 0))
    where
      by_kind : (b z : Bool) → Few 1 ((if b then (if z then copied bounds funs fun (pure (stub s)) else copied bounds funs fun (walk_stmts bounds inner fun.body)) else pure (rank (are_ordinary funs) f)) k).copies
      by_kind true true = one_more fun (pure (stub s)) (λ j. none _) k
      by_kind true false = one_more fun (walk_stmts bounds inner fun.body) (λ j. h fun j) k
      by_kind false z = none 1

  calls_few : (fuel : ℕ) (left : List ℕ) (s : Span) (f k : ℕ) → Few 1 (calls_walk bounds funs fuel left s f k).copies
  unfolding calls_walk
  calls_few zero left s f k = called (λ inner_span g. pure g) left s f k (slice_get funs f) (λ fun j. stmts_few bounds (λ inner_span g. pure g) (λ s f k. none 1) fun.body j)
  calls_few (suc n) left s f k = called (calls_walk bounds funs n (one_less left f)) left s f k (slice_get funs f) (λ fun j. stmts_few bounds (calls_walk bounds funs n (one_less left f)) (λ t g i. calls_few n (one_less left f) t g i) fun.body j)

  funs_few : (fs : List Fun) (k : ℕ) → Few (funs_nodes (walk_funs bounds funs fs k).made) (walk_funs bounds funs fs k).copies
  funs_few [] k = none 0
  funs_few (f ∷ fs) k = by_kind (is_generator f.kind) (λ j. funs_few fs j)
    where
      by_kind : (b : Bool) → ((j : ℕ) → Few (funs_nodes (walk_funs bounds funs fs j).made) (walk_funs bounds funs fs j).copies) → Few (funs_nodes ((if b then walk_funs bounds funs fs else walk_fun bounds funs f (walk_funs bounds funs fs)) k).made) ((if b then walk_funs bounds funs fs else walk_fun bounds funs f (walk_funs bounds funs fs)) k).copies
      by_kind true rest = rest k
      by_kind false rest =
          let m = walk_stmts bounds (first_calls bounds funs) f.body k in
          let n = k + length m.copies in
          let r = walk_funs bounds funs fs n in
          join (stmts_nodes m.made) (funs_nodes r.made) m.copies r.copies (stmts_few bounds (first_calls bounds funs) (λ t g i. calls_few (total (all_left bounds funs)) (all_left bounds funs) t g i) f.body k) (rest n)

pub copies_are_few : CopiesAreFew
unfolding expand
copies_are_few prog bounds =
    let m = walk_funs bounds prog.funs prog.funs 0 in
    let few = funs_few bounds prog.funs prog.funs 0 in
    let all = funs_append m.made m.copies in
    omega (arith, few, all)
