-- What holds of the copies that each call makes, and of copies one after another, holds of those of a walk.
use Rattle.std.proofs.Common.{◌≡◌, ℕ, zero, suc, ◌+◌, List, [], ◌∷◌, ◌++◌, length, Option, Some, None, subst, arith}
use Rattle.std.specs.Prelude.{map}
use Rattle.sk_base.specs.declared.span.Span.{Span}
use Rattle.sk_base.specs.declared.bounds.Bounds.{Bounds}
use Rattle.sk_prog.specs.declared.expr.PExpr.{PExpr}
use Rattle.sk_prog.specs.declared.expr.PField.{PField}
use Rattle.sk_prog.specs.declared.expr.PEForm.{PEForm}
use Rattle.sk_prog.specs.declared.expr.PEForm.TheVariants as eform
use Rattle.sk_prog.specs.declared.expr.PEForm.TheOpen as P
use Rattle.sk_prog.specs.declared.expr.PEForm.TheFolds.{map-PEForm}
use Rattle.sk_prog.specs.declared.stmt.PStmt.{PStmt}
use Rattle.sk_prog.specs.declared.stmt.PForm.{PForm}
use Rattle.sk_prog.specs.declared.stmt.PForm.TheVariants as form
use Rattle.sk_prog.specs.declared.stmt.PForm.TheOpen as S
use Rattle.sk_prog.specs.declared.stmt.PForm.TheFolds.{map-PForm}
use Rattle.sk_prog.specs.declared.prog.Fun.{Fun}
use Rattle.sk_model.specs.Expand.{Walk, pure, as_walk, ◌>>=◌, in_order, times, CallWalk, fun_id, eform_walk, expr_step, field_step, walk_expr, walk_value, form_walk, stmt_step, walk_stmt, walk_stmts, copies_held, most_copies}
use Rattle.sk_model.proofs.Principle.{expr_law, stmt_law}
use Rattle.sk_expand_laws.specs.Copies.{Standing}

-- Functions that stand among others

pub next_is : (k n : ℕ) → (k + 1) + n ≡ k + suc n
next_is k n = omega arith

pub standing_parts : (all : List Fun) (k : ℕ) (xs ys : List Fun) → Standing all k (xs ++ ys) → Standing all k xs × Standing all (k + length xs) ys
standing_parts all k [] ys s = let e : k ≡ k + 0 = omega arith in (tt, subst (λ n. Standing all n ys) e s)
standing_parts all k (x ∷ xs) ys s =
    let r = standing_parts all (k + 1) xs ys s.1 in
    ((s.0, r.0), subst (λ n. Standing all n ys) (next_is k (length xs)) r.1)

-- A property of copies that come after so many others.
pub record Closed (Q : ℕ → List Fun → Type 0) : Type 0 where
  pub none : (k : ℕ) → Q k []
  pub more : (k : ℕ) (xs ys : List Fun) → Q k xs → Q (k + length xs) ys → Q k (xs ++ ys)

module _ (Q : ℕ → List Fun → Type 0) (closed : Closed Q) where
  abbrev pub Holds : {A : Type 0} → Walk A → Type 0
  Holds w = (k : ℕ) → Q k (w k).copies

  pub then_holds : {A B : Type 0} (w : Walk A) (f : A → Walk B) → Holds w → ((x : A) → Holds (f x)) → Holds (w >>= f)
  then_holds w f h j k = closed.more k (w k).copies (f (w k).made (k + length (w k).copies)).copies (h k) (j (w k).made (k + length (w k).copies))

  abbrev WalkHolds : Type 0 → Type 0
  WalkHolds A = (w : Walk A) × Holds w

  order_holds : {A : Type 0} (qs : List (WalkHolds A)) → Holds (in_order (map (λ (q : WalkHolds A). q.0) qs))
  order_holds [] = λ k. closed.none k
  order_holds {A} (q ∷ qs) = then_holds q.0 (λ x. as_walk (λ xs. x ∷ xs) (in_order (map (λ (q : WalkHolds A). q.0) qs))) q.1 (λ x. order_holds qs)

  times_holds : {A : Type 0} (n : ℕ) (w : Walk (List A)) → Holds w → Holds (times n w)
  times_holds zero w h = λ k. closed.none k
  times_holds (suc n) w h = then_holds w (λ xs. as_walk (λ ys. xs ++ ys) (times n w)) h (λ xs. times_holds n w h)

  module _ (bounds : Bounds) (call : CallWalk) (calls : (s : Span) (f : ℕ) → Holds (call s f)) where
    abbrev FormHolds : (Span → Walk PEForm) → Type 0
    FormHolds w = (s : Span) → Holds (w s)

    abbrev ExprHolds : Walk PExpr → Type 0
    ExprHolds w = Holds w

    abbrev FieldHolds : Walk PField → Type 0
    FieldHolds w = Holds w

    abbrev Layer : Type 0
    Layer = P.PEForm-F ((w : Span → Walk PEForm) × FormHolds w) ((w : Walk PExpr) × ExprHolds w) ((w : Walk PField) × FieldHolds w)

    layer : (y : Layer) → FormHolds (eform_walk bounds call (map-PEForm ((w : Span → Walk PEForm) × FormHolds w) ((w : Walk PExpr) × ExprHolds w) ((w : Walk PField) × FieldHolds w) (Span → Walk PEForm) (Walk PExpr) (Walk PField) (λ q. q.0) (λ q. q.0) (λ q. q.0) y))
    layer (P.Call f es) s = then_holds (call s f.index) (λ g. as_walk (λ xs. eform.Call (fun_id g) xs) (in_order (map (λ q. q.0) es))) (calls s f.index) (λ g. order_holds es)
    layer (P.Pattern es) s = order_holds es
    layer (P.Paren e) s = e.1
    layer (P.New d fs) s = order_holds fs
    layer (P.Braces es) s = order_holds es
    layer (P.Member e d i) s = e.1
    layer (P.Index e i) s = then_holds e.0 (λ x. as_walk (λ y. eform.Index x y) i.0) e.1 (λ x. i.1)
    layer (P.Slice e i n) s = then_holds e.0 (λ x. as_walk (λ y. eform.Slice x y n) i.0) e.1 (λ x. i.1)
    layer (P.Unary o e) s = e.1
    layer (P.Binary o a b) s = then_holds a.0 (λ x. as_walk (λ y. eform.Binary o x y) b.0) a.1 (λ x. b.1)
    layer (P.Cond c a b) s = then_holds c.0 (λ x. a.0 >>= (λ y. as_walk (λ z. eform.Cond x y z) b.0)) c.1 (λ x. then_holds a.0 (λ y. as_walk (λ z. eform.Cond x y z) b.0) a.1 (λ y. b.1))
    layer (P.ToInt e) s = e.1
    layer (P.Pad e) s = e.1
    layer (P.Number n) s = λ k. closed.none k
    layer P.True s = λ k. closed.none k
    layer P.False s = λ k. closed.none k
    layer P.Null s = λ k. closed.none k
    layer (P.Var slot x) s = λ k. closed.none k
    layer (P.Const c) s = λ k. closed.none k
    layer (P.Hole n) s = λ k. closed.none k

    pub expr_holds : (e : PExpr) → Holds (walk_expr bounds call e)
    expr_holds = expr_law (Span → Walk PEForm) (Walk PExpr) (Walk PField) (eform_walk bounds call) (expr_step bounds call) (field_step bounds call) FormHolds ExprHolds FieldHolds layer (λ y. y.form.1 y.span) (λ y. y.value.1)

    value_holds : (o : Option PExpr) → Holds (walk_value bounds call o)
    value_holds None = λ k. closed.none k
    value_holds (Some e) = expr_holds e

    abbrev ActHolds : Walk PForm → Type 0
    ActHolds w = Holds w

    abbrev StmtHolds : Walk PStmt → Type 0
    StmtHolds w = Holds w

    act : (y : S.PForm-F ((w : Walk PForm) × ActHolds w) ((w : Walk PStmt) × StmtHolds w)) → ActHolds (form_walk bounds call (map-PForm ((w : Walk PForm) × ActHolds w) ((w : Walk PStmt) × StmtHolds w) (Walk PForm) (Walk PStmt) (λ q. q.0) (λ q. q.0) y))
    act (S.Block ss) = order_holds ss
    act (S.Declare slot x t value) = value_holds value
    act (S.Assign target value) = then_holds (walk_expr bounds call target) (λ x. as_walk (λ y. form.Assign x y) (walk_expr bounds call value)) (expr_holds target) (λ x. expr_holds value)
    act (S.Call e) = expr_holds e
    act (S.If c a None) = then_holds (walk_expr bounds call c) (λ x. a.0 >>= (λ y. as_walk (λ z. form.If x y z) (pure None))) (expr_holds c) (λ x. then_holds a.0 (λ y. as_walk (λ z. form.If x y z) (pure None)) a.1 (λ y k. closed.none k))
    act (S.If c a (Some b)) = then_holds (walk_expr bounds call c) (λ x. a.0 >>= (λ y. as_walk (λ z. form.If x y (Some z)) b.0)) (expr_holds c) (λ x. then_holds a.0 (λ y. as_walk (λ z. form.If x y (Some z)) b.0) a.1 (λ y. b.1))
    act (S.While c a) = then_holds (walk_expr bounds call c) (λ x. as_walk (λ y. form.While x y) a.0) (expr_holds c) (λ x. a.1)
    act (S.Return value) = value_holds value
    act (S.Assert e) = expr_holds e
    act (S.Assume e) = expr_holds e
    act (S.Minimize e) = expr_holds e
    act (S.Repeat count ss) = times_holds (copies_held bounds count.form) (in_order (map (λ q. q.0) ss)) (order_holds ss)
    act (S.MinRepeat ss) = times_holds (most_copies bounds bounds.cbits) (in_order (map (λ q. q.0) ss)) (order_holds ss)
    act (S.Reorder ss) = order_holds ss

    stmt_holds : (s : PStmt) → Holds (walk_stmt bounds call s)
    stmt_holds = stmt_law (Walk PForm) (Walk PStmt) (form_walk bounds call) (stmt_step bounds call) ActHolds StmtHolds act (λ y. y.form.1)

    pub stmts_hold : (ss : List PStmt) → Holds (walk_stmts bounds call ss)
    stmts_hold [] = λ k. closed.none k
    stmts_hold (s ∷ ss) = then_holds (walk_stmt bounds call s) (λ x. as_walk (λ xs. x ∷ xs) (walk_stmts bounds call ss)) (stmt_holds s) (λ x. stmts_hold ss)
