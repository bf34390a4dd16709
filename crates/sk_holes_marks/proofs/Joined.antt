-- The marks are those of what stands.
use Rattle.std.proofs.Common.{◌≡◌, ℕ, zero, suc, ◌+◌, ◌-◌, Bool, true, false, List, [], ◌∷◌, ◌++◌, map, length, replicate, Option, Some, None, refl, sym, ap, subst, ◌∙◌, arith}
use Rattle.std.specs.Prelude.{if◌then◌else◌, ◌||◌, nat_lt}
use Rattle.std.proofs.lemmas.List.{length-map, replicate-append-replicate}
use Rattle.sk_base.specs.declared.span.Span.{Span}
use Rattle.sk_prog.specs.declared.ty.Ty.{Ty}
use Rattle.sk_prog.specs.declared.expr.PExpr.{PExpr}
use Rattle.sk_prog.specs.declared.expr.PField.{PField}
use Rattle.sk_prog.specs.declared.expr.PEForm.{PEForm}
use Rattle.sk_prog.specs.declared.expr.PEForm.TheVariants as eform
use Rattle.sk_prog.specs.declared.expr.PEForm.TheOpen as P
use Rattle.sk_prog.specs.declared.expr.PEForm.TheViews as V
use Rattle.sk_prog.specs.declared.expr.PEForm.TheFolds.{map-PEForm, fold-PEForm, fold-PField}
use Rattle.sk_prog.specs.declared.stmt.PStmt.{PStmt}
use Rattle.sk_prog.specs.declared.stmt.PForm.{PForm}
use Rattle.sk_prog.specs.declared.stmt.PForm.TheVariants as form
use Rattle.sk_prog.specs.declared.stmt.PForm.TheOpen as S
use Rattle.sk_prog.specs.declared.stmt.PForm.TheViews as W
use Rattle.sk_prog.specs.declared.stmt.PForm.TheFolds.{map-PForm, fold-PForm}
use Rattle.sk_prog.specs.declared.prog.Fun.{Fun}
use Rattle.sk_model.specs.Parts.{Part, value, total}
use Rattle.sk_model.specs.Parts as parts
use Rattle.sk_model.specs.Sites.{is_hole}
use Rattle.sk_model.specs.Stands as stands
use Rattle.sk_model.specs.Stands.{Standing, FunStanding, hole_count, with_calls, with_paid, eform_standing, expr_standing, value_standing, form_standing, stmt_standing, body_standing, part_if, is_called, fun_standing, standing_from, funs_stand, sites_stand}
use Rattle.sk_model.proofs.Layers.{layer_field, expr_layer, stmt_layer}
use Rattle.sk_model.proofs.Induction.{Each, ExprCases, expr_ind, StmtCases, stmt_ind}
use Rattle.sk_holes_standing.specs.Marks as kept
use Rattle.sk_holes_standing.specs.Functions.{sites_in}
use Rattle.sk_holes_standing.proofs.MarkLaws.{only_some, first_some}
use Rattle.sk_holes_marks.specs.Marking.{Marking, own, beside, in_row, counts, where_met, some_of, is_one, is_first, by_value, eform_marking, expr_marking, value_marking, form_marking, stmt_marking, body_marking}
use Rattle.sk_holes_marks.specs.Words.{sites_of, marks_of_funs}

-- The marking has as many sites as the part, its marks where the part stands, and none that is true where it does not.
record Joins (p : Part Standing) (m : Marking) : Type 0 where
  count : m.count ≡ p.count
  stands : (i : ℕ) → m.at true i ≡ (p.at i).marks
  gone : (i : ℕ) → m.at false i ≡ replicate p.count false

own_joins : (n : ℕ) → Joins (stands.own n) (own n)
own_joins n = record { count = refl; stands = λ i. refl; gone = λ i. refl }

both_join : (p q : Part Standing) (m n : Marking) → Joins p m → Joins q n → Joins (stands.beside p q) (beside m n)
both_join p q m n h k = record {
  count = λ j. h.count j + k.count j;
  stands = λ i. (λ j. h.stands i j ++ n.at true (i + h.count j)) ∙ ap (λ ms. (p.at i).marks ++ ms) (k.stands (i + p.count));
  gone = λ i. (λ j. h.gone i j ++ n.at false (i + h.count j)) ∙ ap (λ ms. replicate p.count false ++ ms) (k.gone (i + p.count)) ∙ replicate-append-replicate p.count q.count false;
}

-- a part of which a test says whether it stands
kept_joins : (c : Bool) (p : Part Standing) (m : Marking) → Joins p m → Joins (kept.kept_if c p) (where_met c m)
unfolding kept.kept_if
kept_joins true p m h = record { count = h.count; stands = h.stands; gone = h.gone }
kept_joins false p m h = record { count = h.count; stands = h.gone; gone = h.gone }

-- a list of parts
module _ {E : Type 0} (s : E → Part Standing) (f : E → Marking) where
  abbrev One : E → Type 0
  One e = Joins (s e) (f e)

  row_joins : (es : List E) → Each One es → Joins (stands.in_row (map s es)) (in_row (map f es))
  row_joins [] h = own_joins 0
  row_joins (e ∷ es) h = both_join (s e) (stands.in_row (map s es)) (f e) (in_row (map f es)) h.0 (row_joins es h.1)

  some_join : (test : ℕ → Bool) (k : ℕ) (es : List E) → Each One es → Joins (stands.in_row (kept.some_of test k (map s es))) (in_row (some_of test k (map f es)))
  some_join test k [] h = own_joins 0
  some_join test k (e ∷ es) h = both_join (kept.kept_if (test k) (s e)) (stands.in_row (kept.some_of test (k + 1) (map s es))) (where_met (test k) (f e)) (in_row (some_of test (k + 1) (map f es))) (kept_joins (test k) (s e) (f e) h.0) (some_join test (k + 1) es h.1)

  counts_join : (es : List E) → Each One es → counts (map f es) ≡ parts.counts (map s es)
  counts_join [] h = refl
  counts_join (e ∷ es) h = λ j. h.0.count j + counts_join es h.1 j

  some_count : (test : ℕ → Bool) (k : ℕ) (es : List E) → (in_row (some_of test k (map f es))).count ≡ counts (map f es)
  some_count test k [] = refl
  some_count test k (e ∷ es) = ap (λ n. (f e).count + n) (some_count test (k + 1) es)

  -- parts of which the value of a site says which stand
  value_joins : (values : List ℕ) (some : ℕ → List (Part Standing) → List (Part Standing)) (test : ℕ → ℕ → Bool) → ((v : ℕ) (ps : List (Part Standing)) → some v ps ≡ kept.some_of (test v) 0 ps) → (es : List E) → Each One es → Joins (stands.by_value values some (map s es)) (by_value values test (map f es))
  value_joins values some test same es h = record {
    count = ap suc (counts_join es h);
    stands = λ i.
        let v : ℕ = value values i in
        let row = some_join (test v) 0 es h in
        ap (λ ms. true ∷ ms) (row.stands (i + 1)) ∙ ap (λ ps. true ∷ ((stands.in_row ps).at (i + 1)).marks) (sym (same v (map s es)));
    gone = λ i.
        let v : ℕ = value values i in
        let row = some_join (test v) 0 es h in
        let all : (stands.in_row (kept.some_of (test v) 0 (map s es))).count ≡ parts.counts (map s es) = sym row.count ∙ some_count (test v) 0 es ∙ counts_join es h in
        ap (λ ms. false ∷ ms) (row.gone (i + 1)) ∙ ap (λ n. false ∷ replicate n false) all;
  }

by_layers : {p q : Part Standing} {m n : Marking} → p ≡ q → m ≡ n → Joins q n → Joins p m
by_layers {p = p} {q = q} {m = m} {n = n} a b h = subst (λ (z : Part Standing). Joins z m) (sym a) (subst (λ (z : Marking). Joins q z) (sym b) h)

module _ (values : List ℕ) where
  -- Expressions

  calls_join : (f : ℕ) (p : Part Standing) (m : Marking) → Joins p m → Joins (with_calls values f p) m
  calls_join f p m h = record { count = h.count; stands = h.stands; gone = h.gone }

  abbrev field_standing : PField → Part Standing
  field_standing = fold-PField (Option Ty → Part Standing) (Part Standing) (Part Standing) (eform_standing values) (λ e. e.form e.ty) (λ x. x.value)

  abbrev field_marking : PField → Marking
  field_marking = fold-PField (Option Ty → Marking) Marking Marking (eform_marking values) (λ e. e.form e.ty) (λ x. x.value)

  abbrev form_standing_of : PEForm → Option Ty → Part Standing
  form_standing_of = fold-PEForm (Option Ty → Part Standing) (Part Standing) (Part Standing) (eform_standing values) (λ e. e.form e.ty) (λ x. x.value)

  abbrev form_marking_of : PEForm → Option Ty → Marking
  form_marking_of = fold-PEForm (Option Ty → Marking) Marking Marking (eform_marking values) (λ e. e.form e.ty) (λ x. x.value)

  abbrev JoinsExpr : PExpr → Type 0
  JoinsExpr e = Joins (expr_standing values e) (expr_marking values e)

  abbrev JoinsField : PField → Type 0
  JoinsField x = Joins (field_standing x) (field_marking x)

  abbrev typed : Span → Option Ty → PEForm → PExpr
  typed s t f = record { span = s; ty = t; form = f }

  -- an expression, by what both say of its form
  by_form : (x : P.PEForm-F PEForm PExpr PField) (f : PEForm) → V.roll-PEForm x ≡ f → (s : Span) (t : Option Ty)
      → Joins (eform_standing values (map-PEForm PEForm PExpr PField (Option Ty → Part Standing) (Part Standing) (Part Standing) form_standing_of (expr_standing values) field_standing x) t) (eform_marking values (map-PEForm PEForm PExpr PField (Option Ty → Marking) Marking Marking form_marking_of (expr_marking values) field_marking x) t)
      → JoinsExpr (typed s t f)
  by_form x f is s t h = by_layers (expr_layer (Option Ty → Part Standing) (Part Standing) (Part Standing) (eform_standing values) (λ e. e.form e.ty) (λ x. x.value) x f is s t) (expr_layer (Option Ty → Marking) Marking Marking (eform_marking values) (λ e. e.form e.ty) (λ x. x.value) x f is s t) h

  exprs_join : (es : List PExpr) → Each JoinsExpr es → Joins (stands.in_row (map (expr_standing values) es)) (in_row (map (expr_marking values) es))
  exprs_join es h = row_joins (expr_standing values) (expr_marking values) es h

  two_join : (x y : PExpr) → JoinsExpr x → JoinsExpr y → Joins (stands.beside (expr_standing values x) (expr_standing values y)) (beside (expr_marking values x) (expr_marking values y))
  two_join x y h k = both_join (expr_standing values x) (expr_standing values y) (expr_marking values x) (expr_marking values y) h k

  expr_cases : ExprCases JoinsExpr JoinsField
  expr_cases = record {
    field = λ k e h. by_layers (layer_field (Option Ty → Part Standing) (Part Standing) (Part Standing) (eform_standing values) (λ e. e.form e.ty) (λ x. x.value) k e) (layer_field (Option Ty → Marking) Marking Marking (eform_marking values) (λ e. e.form e.ty) (λ x. x.value) k e) h;
    number = λ s t n. by_form (P.Number n) (eform.Number n) (V.rolls-Number n) s t (own_joins 0);
    truth = λ s t. by_form P.True eform.True V.rolls-True s t (own_joins 0);
    falsity = λ s t. by_form P.False eform.False V.rolls-False s t (own_joins 0);
    null = λ s t. by_form P.Null eform.Null V.rolls-Null s t (own_joins 0);
    var = λ s t slot x. by_form (P.Var slot x) (eform.Var slot x) (V.rolls-Var slot x) s t (own_joins 0);
    const = λ s t k. by_form (P.Const k) (eform.Const k) (V.rolls-Const k) s t (own_joins 0);
    hole = λ s t bits. by_form (P.Hole bits) (eform.Hole bits) (V.rolls-Hole bits) s t (own_joins (hole_count t));
    pattern = λ s t es h_es. by_form (P.Pattern es) (eform.Pattern es) (V.rolls-Pattern es) s t (value_joins (expr_standing values) (expr_marking values) values stands.only is_one only_some es h_es);
    paren = λ s t e h_e. by_form (P.Paren e) (eform.Paren e) (V.rolls-Paren e) s t h_e;
    call = λ s t f es h_es. by_form (P.Call f es) (eform.Call f es) (V.rolls-Call f es) s t (calls_join f.index (stands.in_row (map (expr_standing values) es)) (in_row (map (expr_marking values) es)) (exprs_join es h_es));
    new = λ s t d fs h_fs. by_form (P.New d fs) (eform.New d fs) (V.rolls-New d fs) s t (row_joins field_standing field_marking fs h_fs);
    braces = λ s t es h_es. by_form (P.Braces es) (eform.Braces es) (V.rolls-Braces es) s t (exprs_join es h_es);
    member = λ s t e d k h_e. by_form (P.Member e d k) (eform.Member e d k) (V.rolls-Member e d k) s t h_e;
    index = λ s t e i h_e h_i. by_form (P.Index e i) (eform.Index e i) (V.rolls-Index e i) s t (two_join e i h_e h_i);
    slice = λ s t e i n h_e h_i. by_form (P.Slice e i n) (eform.Slice e i n) (V.rolls-Slice e i n) s t (two_join e i h_e h_i);
    unary = λ s t o e h_e. by_form (P.Unary o e) (eform.Unary o e) (V.rolls-Unary o e) s t h_e;
    binary = λ s t o x y h_x h_y. by_form (P.Binary o x y) (eform.Binary o x y) (V.rolls-Binary o x y) s t (two_join x y h_x h_y);
    cond = λ s t c x y h_c h_x h_y. by_form (P.Cond c x y) (eform.Cond c x y) (V.rolls-Cond c x y) s t (both_join (expr_standing values c) (stands.beside (expr_standing values x) (expr_standing values y)) (expr_marking values c) (beside (expr_marking values x) (expr_marking values y)) h_c (two_join x y h_x h_y));
    to_int = λ s t e h_e. by_form (P.ToInt e) (eform.ToInt e) (V.rolls-ToInt e) s t h_e;
    pad = λ s t e h_e. by_form (P.Pad e) (eform.Pad e) (V.rolls-Pad e) s t h_e;
  }

  expr_joins : (e : PExpr) → JoinsExpr e
  expr_joins = expr_ind JoinsExpr JoinsField expr_cases

  value_joined : (e : Option PExpr) → Joins (value_standing values e) (value_marking values e)
  value_joined None = own_joins 0
  value_joined (Some e) = expr_joins e

  -- Statements

  abbrev JoinsStmt : PStmt → Type 0
  JoinsStmt s = Joins (stmt_standing values s) (stmt_marking values s)

  abbrev stated : Span → PForm → PStmt
  stated s f = record { span = s; form = f }

  abbrev pform_standing_of : PForm → Span → Part Standing
  pform_standing_of = fold-PForm (Span → Part Standing) (Part Standing) (form_standing values) (λ s. s.form s.span)

  abbrev pform_marking_of : PForm → Marking
  pform_marking_of = fold-PForm Marking Marking (form_marking values) (λ s. s.form)

  -- a statement, by what both say of its form
  by_stmt : (x : S.PForm-F PForm PStmt) (f : PForm) → W.roll-PForm x ≡ f → (s : Span)
      → Joins (form_standing values (map-PForm PForm PStmt (Span → Part Standing) (Part Standing) pform_standing_of (stmt_standing values) x) s) (form_marking values (map-PForm PForm PStmt Marking Marking pform_marking_of (stmt_marking values) x))
      → JoinsStmt (stated s f)
  by_stmt x f is s h = by_layers (stmt_layer (Span → Part Standing) (Part Standing) (form_standing values) (λ s. s.form s.span) x f is s) (stmt_layer Marking Marking (form_marking values) (λ s. s.form) x f is s) h

  stmts_join : (ss : List PStmt) → Each JoinsStmt ss → Joins (stands.in_row (map (stmt_standing values) ss)) (in_row (map (stmt_marking values) ss))
  stmts_join ss h = row_joins (stmt_standing values) (stmt_marking values) ss h

  copies_join : (ss : List PStmt) → Each JoinsStmt ss → Joins (stands.by_value values stands.first_of (map (stmt_standing values) ss)) (by_value values is_first (map (stmt_marking values) ss))
  copies_join ss h = value_joins (stmt_standing values) (stmt_marking values) values stands.first_of is_first first_some ss h

  paid_joins : (s : Span) (p : Part Standing) (m : Marking) → Joins p m → Joins (with_paid values s p) m
  paid_joins s p m h = record { count = h.count; stands = h.stands; gone = h.gone }

  repeat_joins : (hole : Bool) (ss : List PStmt) → Each JoinsStmt ss → Joins (if hole then stands.by_value values stands.first_of (map (stmt_standing values) ss) else stands.in_row (map (stmt_standing values) ss)) (if hole then by_value values is_first (map (stmt_marking values) ss) else in_row (map (stmt_marking values) ss))
  repeat_joins true ss h = copies_join ss h
  repeat_joins false ss h = stmts_join ss h

  reorder_joins : (ss : List PStmt) → Each JoinsStmt ss → Joins (stands.beside (stands.own (length (map (stmt_standing values) ss) - 1)) (stands.in_row (map (stmt_standing values) ss))) (beside (own (length (map (stmt_marking values) ss) - 1)) (in_row (map (stmt_marking values) ss)))
  reorder_joins ss h =
      by_layers (ap (λ n. stands.beside (stands.own (n - 1)) (stands.in_row (map (stmt_standing values) ss))) (length-map ss (stmt_standing values))) (ap (λ n. beside (own (n - 1)) (in_row (map (stmt_marking values) ss))) (length-map ss (stmt_marking values)))
      (both_join (stands.own (length ss - 1)) (stands.in_row (map (stmt_standing values) ss)) (own (length ss - 1)) (in_row (map (stmt_marking values) ss)) (own_joins (length ss - 1)) (stmts_join ss h))

  stmt_cases : StmtCases JoinsStmt
  stmt_cases = record {
    block = λ s ss h_ss. by_stmt (S.Block ss) (form.Block ss) (W.rolls-Block ss) s (stmts_join ss h_ss);
    declare = λ s slot name t e. by_stmt (S.Declare slot name t e) (form.Declare slot name t e) (W.rolls-Declare slot name t e) s (value_joined e);
    assign = λ s p e. by_stmt (S.Assign p e) (form.Assign p e) (W.rolls-Assign p e) s (two_join p e (expr_joins p) (expr_joins e));
    calls = λ s e. by_stmt (S.Call e) (form.Call e) (W.rolls-Call e) s (expr_joins e);
    if_only = λ s c x h_x. by_stmt (S.If c x None) (form.If c x None) (W.rolls-If c x None) s (both_join (expr_standing values c) (stands.beside (stmt_standing values x) (stands.own 0)) (expr_marking values c) (beside (stmt_marking values x) (own 0)) (expr_joins c) (both_join (stmt_standing values x) (stands.own 0) (stmt_marking values x) (own 0) h_x (own_joins 0)));
    if_else = λ s c x y h_x h_y. by_stmt (S.If c x (Some y)) (form.If c x (Some y)) (W.rolls-If c x (Some y)) s (both_join (expr_standing values c) (stands.beside (stmt_standing values x) (stmt_standing values y)) (expr_marking values c) (beside (stmt_marking values x) (stmt_marking values y)) (expr_joins c) (both_join (stmt_standing values x) (stmt_standing values y) (stmt_marking values x) (stmt_marking values y) h_x h_y));
    loop = λ s c x h_x. by_stmt (S.While c x) (form.While c x) (W.rolls-While c x) s (both_join (expr_standing values c) (stmt_standing values x) (expr_marking values c) (stmt_marking values x) (expr_joins c) h_x);
    returns = λ s e. by_stmt (S.Return e) (form.Return e) (W.rolls-Return e) s (value_joined e);
    asserts = λ s e. by_stmt (S.Assert e) (form.Assert e) (W.rolls-Assert e) s (expr_joins e);
    assumes = λ s e. by_stmt (S.Assume e) (form.Assume e) (W.rolls-Assume e) s (expr_joins e);
    minimizes = λ s e. by_stmt (S.Minimize e) (form.Minimize e) (W.rolls-Minimize e) s (expr_joins e);
    repeats = λ s c ss h_ss. by_stmt (S.Repeat c ss) (form.Repeat c ss) (W.rolls-Repeat c ss) s (repeat_joins (is_hole c.form) ss h_ss);
    minrepeat = λ s ss h_ss. by_stmt (S.MinRepeat ss) (form.MinRepeat ss) (W.rolls-MinRepeat ss) s (paid_joins s (stands.by_value values stands.first_of (map (stmt_standing values) ss)) (by_value values is_first (map (stmt_marking values) ss)) (copies_join ss h_ss));
    reorder = λ s ss h_ss. by_stmt (S.Reorder ss) (form.Reorder ss) (W.rolls-Reorder ss) s (reorder_joins ss h_ss);
  }

  stmt_joins : (s : PStmt) → JoinsStmt s
  stmt_joins = stmt_ind JoinsStmt stmt_cases

  each_joins : (ss : List PStmt) → Each JoinsStmt ss
  each_joins [] = tt
  each_joins (s ∷ ss) = (stmt_joins s, each_joins ss)

  body_joins : (ss : List PStmt) → Joins (body_standing values ss) (body_marking values ss)
  body_joins ss = stmts_join ss (each_joins ss)

  -- Functions

  part_joins : (b : Bool) (p : Part Standing) (m : Marking) (i : ℕ) → Joins p m → m.at b i ≡ ((part_if b p).at i).marks
  part_joins true p m i h = h.stands i
  part_joins false p m i h = h.gone i

  funs_marked : (ordinary : ℕ) (called : List ℕ) (n i : ℕ) (fs : List Fun) → marks_of_funs values (funs_stand (standing_from values ordinary called n i fs)) i fs ≡ sites_stand (standing_from values ordinary called n i fs)
  funs_marked ordinary called n i [] = refl
  funs_marked ordinary called n i (f ∷ fs) =
      let st : Bool = nat_lt n ordinary || is_called called n in
      let s : FunStanding = fun_standing values ordinary st i f in
      let h = body_joins f.body in
      let rest : List FunStanding = standing_from values ordinary (called ++ s.within.called) (n + 1) (i + (body_standing values f.body).count) fs in
      (λ j. part_joins st (body_standing values f.body) (body_marking values f.body) i h j ++ marks_of_funs values (funs_stand rest) (i + h.count j) fs)
      ∙ ap (λ ms. s.within.marks ++ ms) (funs_marked ordinary (called ++ s.within.called) (n + 1) (i + (body_standing values f.body).count) fs)

  -- where the functions stand that stand, each site is marked that does
  pub marked_by : (ordinary : ℕ) (fs : List Fun) (stood marks : List Bool) → stood ≡ funs_stand (standing_from values ordinary [] 0 0 fs) → marks ≡ marks_of_funs values stood 0 fs → marks ≡ sites_stand (standing_from values ordinary [] 0 0 fs)
  marked_by ordinary fs stood marks is made = made ∙ ap (λ bs. marks_of_funs values bs 0 fs) is ∙ funs_marked ordinary [] 0 0 fs

  -- there are as many sites
  pub as_many : (fs : List Fun) → total (map (sites_of values) fs) ≡ total (map (sites_in values) fs)
  as_many [] = refl
  as_many (f ∷ fs) = λ j. (body_joins f.body).count j + as_many fs j
