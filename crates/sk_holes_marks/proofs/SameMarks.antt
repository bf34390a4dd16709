-- What stands depends on the sites that stand alone.
use Rattle.std.proofs.Common.{◌≡◌, ℕ, zero, suc, ◌+◌, ◌-◌, ◌<◌, ◌≤◌, Bool, true, false, List, [], ◌∷◌, ◌++◌, map, length, length-append, replicate, Option, Some, None, refl, sym, ap, subst, ◌∙◌, arith}
use Rattle.std.specs.Prelude.{IsTrue, if◌then◌else◌, ◌||◌, slice_index_or, nat_lt}
use Rattle.std.proofs.lemmas.List.{length-map, length-replicate}
use Rattle.sk_base.specs.declared.span.Span.{Span}
use Rattle.sk_prog.specs.declared.ty.Ty.{Ty}
use Rattle.sk_prog.specs.declared.expr.PExpr.{PExpr}
use Rattle.sk_prog.specs.declared.expr.PField.{PField}
use Rattle.sk_prog.specs.declared.expr.PEForm.{PEForm}
use Rattle.sk_prog.specs.declared.expr.PEForm.TheVariants as eform
use Rattle.sk_prog.specs.declared.expr.PEForm.TheOpen as P
use Rattle.sk_prog.specs.declared.expr.PEForm.TheViews as V
use Rattle.sk_prog.specs.declared.expr.PEForm.TheFolds.{map-PEForm, fold-PEForm, fold-PField}
use Rattle.sk_prog.specs.declared.stmt.PStmt.{PStmt}
use Rattle.sk_prog.specs.declared.stmt.PForm.{PForm}
use Rattle.sk_prog.specs.declared.stmt.PForm.TheVariants as form
use Rattle.sk_prog.specs.declared.stmt.PForm.TheOpen as S
use Rattle.sk_prog.specs.declared.stmt.PForm.TheViews as W
use Rattle.sk_prog.specs.declared.stmt.PForm.TheFolds.{map-PForm, fold-PForm}
use Rattle.sk_prog.specs.declared.prog.Fun.{Fun}
use Rattle.sk_model.specs.declared.expanded.Expanded.{Expanded}
use Rattle.sk_model.specs.Parts.{Part, counts, value, joined}
use Rattle.sk_model.specs.Sites.{is_hole}
use Rattle.sk_model.specs.Stands.{AgreeWhereStands, Standing, nothing, together, own, absent, beside, in_row, first_of, only, hole_count, by_value, with_calls, eform_standing, expr_standing, value_standing, with_paid, form_standing, stmt_standing, body_standing, FunStanding, part_if, is_called, fun_standing, standing_from, standing, sites_stand}
use Rattle.sk_model.proofs.Layers.{layer_field, expr_layer, stmt_layer}
use Rattle.sk_model.proofs.Induction.{Each, ExprCases, expr_ind, StmtCases, stmt_ind}

module _ (a b : List ℕ) where
  -- The choices agree on each site of these marks that stands, where the first has place i.
  abbrev Agrees : List Bool → ℕ → Type 0
  Agrees [] i = Unit {0}
  Agrees (m ∷ ms) i = (IsTrue m → value a i ≡ value b i) × Agrees ms (i + 1)

  agrees_append : (ms ns : List Bool) (i : ℕ) → Agrees (ms ++ ns) i → Agrees ms i × Agrees ns (i + length ms)
  agrees_append [] ns i h = let e : i ≡ i + 0 = omega arith in (tt, subst (Agrees ns) e h)
  agrees_append (m ∷ ms) ns i h =
      let more = agrees_append ms ns (i + 1) h.1 in
      let e : i + 1 + length ms ≡ i + suc (length ms) = omega arith in
      ((h.0, more.0), subst (Agrees ns) e more.1)

  agrees_from : (ms : List Bool) (i : ℕ) → ((k : ℕ) → IsTrue (slice_index_or ms k false) → value a (i + k) ≡ value b (i + k)) → Agrees ms i
  agrees_from [] i h = tt
  agrees_from (m ∷ ms) i h =
      let e : i + 0 ≡ i = omega arith in
      ((λ is. subst (λ n. value a n ≡ value b n) e (h 0 is)), agrees_from ms (i + 1) (λ k is. let f : i + suc k ≡ i + 1 + k = omega arith in subst (λ n. value a n ≡ value b n) f (h (suc k) is)))

  -- A part has a mark for each of its sites, and stands alike under both choices where they agree on what stands.
  record Alike (sa sb : Part Standing) : Type 0 where
    marks : (i : ℕ) → length (sa.at i).marks ≡ sa.count
    count : sb.count ≡ sa.count
    alike : (i : ℕ) → Agrees (sa.at i).marks i → sb.at i ≡ sa.at i

  by_layers : {sa sb ta tb : Part Standing} → sa ≡ ta → sb ≡ tb → Alike ta tb → Alike sa sb
  by_layers {sa = sa} {sb = sb} {ta = ta} {tb = tb} p q h = subst (λ (z : Part Standing). Alike z sb) (sym p) (subst (λ (z : Part Standing). Alike ta z) (sym q) h)

  own_alike : (n : ℕ) → Alike (own n) (own n)
  own_alike n = record { marks = λ i. length-replicate n true; count = refl; alike = λ i h. refl }

  both_alike : (sa sb ta tb : Part Standing) → Alike sa sb → Alike ta tb → Alike (beside sa ta) (beside sb tb)
  both_alike sa sb ta tb h k = record {
    marks = λ i. length-append (sa.at i).marks (ta.at (i + sa.count)).marks ∙ (λ j. h.marks i j + k.marks (i + sa.count) j);
    count = λ j. h.count j + k.count j;
    alike = λ i agree.
        let two = agrees_append (sa.at i).marks (ta.at (i + sa.count)).marks i agree in
        let first = h.alike i two.0 in
        let second = k.alike (i + sa.count) (subst (λ n. Agrees (ta.at (i + sa.count)).marks (i + n)) (h.marks i) two.1) in
        (λ j. together (first j) (tb.at (i + h.count j))) ∙ ap (together (sa.at i)) second;
  }

  -- a list of parts
  module _ {E : Type 0} (sa sb : E → Part Standing) where
    abbrev One : E → Type 0
    One e = Alike (sa e) (sb e)

    row_alike : (es : List E) → Each One es → Alike (in_row (map sa es)) (in_row (map sb es))
    row_alike [] h = own_alike 0
    row_alike (e ∷ es) h = both_alike (sa e) (sb e) (in_row (map sa es)) (in_row (map sb es)) h.0 (row_alike es h.1)

    absent_alike : (e : E) → One e → (i : ℕ) → (absent (sb e)).at i ≡ (absent (sa e)).at i
    absent_alike e h i = ap (λ n. record { marks = replicate n false; called = []; paid = [] }) h.count

    -- none of the rest stands
    gone_alike : (es : List E) → Each One es → (i : ℕ) → (in_row (first_of 0 (map sb es))).at i ≡ (in_row (first_of 0 (map sa es))).at i
    gone_alike [] h i = refl
    gone_alike (e ∷ es) h i = (λ j. together (absent_alike e h.0 i j) ((in_row (first_of 0 (map sb es))).at (i + h.0.count j))) ∙ ap (together ((absent (sa e)).at i)) (gone_alike es h.1 (i + (sa e).count))

    first_alike : (v : ℕ) (es : List E) → Each One es → (i : ℕ) → Agrees ((in_row (first_of v (map sa es))).at i).marks i → (in_row (first_of v (map sb es))).at i ≡ (in_row (first_of v (map sa es))).at i
    first_alike zero es h i agree = gone_alike es h i
    first_alike (suc v) [] h i agree = refl
    first_alike (suc v) (e ∷ es) h i agree =
        let rest : Part Standing = in_row (first_of v (map sa es)) in
        let two = agrees_append ((sa e).at i).marks (rest.at (i + (sa e).count)).marks i agree in
        let one = h.0.alike i two.0 in
        let more = first_alike v es h.1 (i + (sa e).count) (subst (λ n. Agrees (rest.at (i + (sa e).count)).marks (i + n)) (h.0.marks i) two.1) in
        (λ j. together (one j) ((in_row (first_of v (map sb es))).at (i + h.0.count j))) ∙ ap (together ((sa e).at i)) more

    only_alike : (v : ℕ) (es : List E) → Each One es → (i : ℕ) → Agrees ((in_row (only v (map sa es))).at i).marks i → (in_row (only v (map sb es))).at i ≡ (in_row (only v (map sa es))).at i
    only_alike v [] h i agree = refl
    only_alike zero (e ∷ es) h i agree =
        let rest : Part Standing = in_row (first_of 0 (map sa es)) in
        let two = agrees_append ((sa e).at i).marks (rest.at (i + (sa e).count)).marks i agree in
        let one = h.0.alike i two.0 in
        (λ j. together (one j) ((in_row (first_of 0 (map sb es))).at (i + h.0.count j))) ∙ ap (together ((sa e).at i)) (gone_alike es h.1 (i + (sa e).count))
    only_alike (suc v) (e ∷ es) h i agree =
        let rest : Part Standing = in_row (only v (map sa es)) in
        let two = agrees_append (replicate (sa e).count false) (rest.at (i + (sa e).count)).marks i agree in
        let more = only_alike v es h.1 (i + (sa e).count) (subst (λ n. Agrees (rest.at (i + (sa e).count)).marks (i + n)) (length-replicate (sa e).count false) two.1) in
        (λ j. together (absent_alike e h.0 i j) ((in_row (only v (map sb es))).at (i + h.0.count j))) ∙ ap (together ((absent (sa e)).at i)) more

    counts_same : (es : List E) → Each One es → counts (map sb es) ≡ counts (map sa es)
    counts_same [] h = refl
    counts_same (e ∷ es) h = λ j. h.0.count j + counts_same es h.1 j

    first_marks : (v : ℕ) (es : List E) → Each One es → (i : ℕ) → length ((in_row (first_of v (map sa es))).at i).marks ≡ counts (map sa es)
    first_marks v [] h i = refl
    first_marks zero (e ∷ es) h i = length-append (replicate (sa e).count false) ((in_row (first_of 0 (map sa es))).at (i + (sa e).count)).marks ∙ (λ j. length-replicate (sa e).count false j + first_marks zero es h.1 (i + (sa e).count) j)
    first_marks (suc v) (e ∷ es) h i = length-append ((sa e).at i).marks ((in_row (first_of v (map sa es))).at (i + (sa e).count)).marks ∙ (λ j. h.0.marks i j + first_marks v es h.1 (i + (sa e).count) j)

    only_marks : (v : ℕ) (es : List E) → Each One es → (i : ℕ) → length ((in_row (only v (map sa es))).at i).marks ≡ counts (map sa es)
    only_marks v [] h i = refl
    only_marks zero (e ∷ es) h i = length-append ((sa e).at i).marks ((in_row (first_of 0 (map sa es))).at (i + (sa e).count)).marks ∙ (λ j. h.0.marks i j + first_marks zero es h.1 (i + (sa e).count) j)
    only_marks (suc v) (e ∷ es) h i = length-append (replicate (sa e).count false) ((in_row (only v (map sa es))).at (i + (sa e).count)).marks ∙ (λ j. length-replicate (sa e).count false j + only_marks v es h.1 (i + (sa e).count) j)

    -- the first copies of a repeat
    cut_alike : (es : List E) → Each One es → Alike (by_value a first_of (map sa es)) (by_value b first_of (map sb es))
    cut_alike es h = record {
      marks = λ i. ap suc (first_marks (value a i) es h (i + 1));
      count = ap suc (counts_same es h);
      alike = λ i agree.
          let is : value a i ≡ value b i = agree.0 refl in
          (λ j. together ((own 1).at i) ((in_row (first_of (sym is j) (map sb es))).at (i + 1))) ∙ ap (together ((own 1).at i)) (first_alike (value a i) es h (i + 1) agree.1);
    }

    -- the chosen string of a pattern
    picked_alike : (es : List E) → Each One es → Alike (by_value a only (map sa es)) (by_value b only (map sb es))
    picked_alike es h = record {
      marks = λ i. ap suc (only_marks (value a i) es h (i + 1));
      count = ap suc (counts_same es h);
      alike = λ i agree.
          let is : value a i ≡ value b i = agree.0 refl in
          (λ j. together ((own 1).at i) ((in_row (only (sym is j) (map sb es))).at (i + 1))) ∙ ap (together ((own 1).at i)) (only_alike (value a i) es h (i + 1) agree.1);
    }

  -- Expressions

  with_calls_alike : (f : ℕ) (sa sb : Part Standing) → Alike sa sb → Alike (with_calls a f sa) (with_calls b f sb)
  with_calls_alike f sa sb h = record { marks = h.marks; count = h.count; alike = λ i k. ap (together (record nothing { called = f ∷ [] })) (h.alike i k) }

  abbrev field_standing : List ℕ → PField → Part Standing
  field_standing values = fold-PField (Option Ty → Part Standing) (Part Standing) (Part Standing) (eform_standing values) (λ e. e.form e.ty) (λ x. x.value)

  abbrev form_standing_of : List ℕ → PEForm → Option Ty → Part Standing
  form_standing_of values = fold-PEForm (Option Ty → Part Standing) (Part Standing) (Part Standing) (eform_standing values) (λ e. e.form e.ty) (λ x. x.value)

  abbrev AlikeExpr : PExpr → Type 0
  AlikeExpr e = Alike (expr_standing a e) (expr_standing b e)

  abbrev AlikeField : PField → Type 0
  AlikeField x = Alike (field_standing a x) (field_standing b x)

  abbrev typed : Span → Option Ty → PEForm → PExpr
  typed s t f = record { span = s; ty = t; form = f }

  -- an expression, by what both say of its form
  by_form : (x : P.PEForm-F PEForm PExpr PField) (f : PEForm) → V.roll-PEForm x ≡ f → (s : Span) (t : Option Ty)
      → Alike (eform_standing a (map-PEForm PEForm PExpr PField (Option Ty → Part Standing) (Part Standing) (Part Standing) (form_standing_of a) (expr_standing a) (field_standing a) x) t) (eform_standing b (map-PEForm PEForm PExpr PField (Option Ty → Part Standing) (Part Standing) (Part Standing) (form_standing_of b) (expr_standing b) (field_standing b) x) t)
      → AlikeExpr (typed s t f)
  by_form x f is s t h = by_layers (expr_layer (Option Ty → Part Standing) (Part Standing) (Part Standing) (eform_standing a) (λ e. e.form e.ty) (λ x. x.value) x f is s t) (expr_layer (Option Ty → Part Standing) (Part Standing) (Part Standing) (eform_standing b) (λ e. e.form e.ty) (λ x. x.value) x f is s t) h

  expr_cases : ExprCases AlikeExpr AlikeField
  expr_cases = record {
    field = λ k e h. by_layers (layer_field (Option Ty → Part Standing) (Part Standing) (Part Standing) (eform_standing a) (λ e. e.form e.ty) (λ x. x.value) k e) (layer_field (Option Ty → Part Standing) (Part Standing) (Part Standing) (eform_standing b) (λ e. e.form e.ty) (λ x. x.value) k e) h;
    number = λ s t n. by_form (P.Number n) (eform.Number n) (V.rolls-Number n) s t (own_alike 0);
    truth = λ s t. by_form P.True eform.True V.rolls-True s t (own_alike 0);
    falsity = λ s t. by_form P.False eform.False V.rolls-False s t (own_alike 0);
    null = λ s t. by_form P.Null eform.Null V.rolls-Null s t (own_alike 0);
    var = λ s t slot x. by_form (P.Var slot x) (eform.Var slot x) (V.rolls-Var slot x) s t (own_alike 0);
    const = λ s t k. by_form (P.Const k) (eform.Const k) (V.rolls-Const k) s t (own_alike 0);
    hole = λ s t bits. by_form (P.Hole bits) (eform.Hole bits) (V.rolls-Hole bits) s t (own_alike (hole_count t));
    pattern = λ s t es h_es. by_form (P.Pattern es) (eform.Pattern es) (V.rolls-Pattern es) s t (picked_alike (expr_standing a) (expr_standing b) es h_es);
    paren = λ s t e h_e. by_form (P.Paren e) (eform.Paren e) (V.rolls-Paren e) s t h_e;
    call = λ s t f es h_es. by_form (P.Call f es) (eform.Call f es) (V.rolls-Call f es) s t (with_calls_alike f.index (in_row (map (expr_standing a) es)) (in_row (map (expr_standing b) es)) (row_alike (expr_standing a) (expr_standing b) es h_es));
    new = λ s t d fs h_fs. by_form (P.New d fs) (eform.New d fs) (V.rolls-New d fs) s t (row_alike (field_standing a) (field_standing b) fs h_fs);
    braces = λ s t es h_es. by_form (P.Braces es) (eform.Braces es) (V.rolls-Braces es) s t (row_alike (expr_standing a) (expr_standing b) es h_es);
    member = λ s t e d k h_e. by_form (P.Member e d k) (eform.Member e d k) (V.rolls-Member e d k) s t h_e;
    index = λ s t e i h_e h_i. by_form (P.Index e i) (eform.Index e i) (V.rolls-Index e i) s t (both_alike (expr_standing a e) (expr_standing b e) (expr_standing a i) (expr_standing b i) h_e h_i);
    slice = λ s t e i n h_e h_i. by_form (P.Slice e i n) (eform.Slice e i n) (V.rolls-Slice e i n) s t (both_alike (expr_standing a e) (expr_standing b e) (expr_standing a i) (expr_standing b i) h_e h_i);
    unary = λ s t o e h_e. by_form (P.Unary o e) (eform.Unary o e) (V.rolls-Unary o e) s t h_e;
    binary = λ s t o x y h_x h_y. by_form (P.Binary o x y) (eform.Binary o x y) (V.rolls-Binary o x y) s t (both_alike (expr_standing a x) (expr_standing b x) (expr_standing a y) (expr_standing b y) h_x h_y);
    cond = λ s t c x y h_c h_x h_y. by_form (P.Cond c x y) (eform.Cond c x y) (V.rolls-Cond c x y) s t (both_alike (expr_standing a c) (expr_standing b c) (beside (expr_standing a x) (expr_standing a y)) (beside (expr_standing b x) (expr_standing b y)) h_c (both_alike (expr_standing a x) (expr_standing b x) (expr_standing a y) (expr_standing b y) h_x h_y));
    to_int = λ s t e h_e. by_form (P.ToInt e) (eform.ToInt e) (V.rolls-ToInt e) s t h_e;
    pad = λ s t e h_e. by_form (P.Pad e) (eform.Pad e) (V.rolls-Pad e) s t h_e;
  }

  expr_alike : (e : PExpr) → AlikeExpr e
  expr_alike = expr_ind AlikeExpr AlikeField expr_cases

  value_alike : (e : Option PExpr) → Alike (value_standing a e) (value_standing b e)
  value_alike None = own_alike 0
  value_alike (Some e) = expr_alike e

  -- Statements

  abbrev AlikeStmt : PStmt → Type 0
  AlikeStmt s = Alike (stmt_standing a s) (stmt_standing b s)

  abbrev stated : Span → PForm → PStmt
  stated s f = record { span = s; form = f }

  stmts_alike : (ss : List PStmt) → Each AlikeStmt ss → Alike (in_row (map (stmt_standing a) ss)) (in_row (map (stmt_standing b) ss))
  stmts_alike ss h = row_alike (stmt_standing a) (stmt_standing b) ss h

  copies_alike : (ss : List PStmt) → Each AlikeStmt ss → Alike (by_value a first_of (map (stmt_standing a) ss)) (by_value b first_of (map (stmt_standing b) ss))
  copies_alike ss h = cut_alike (stmt_standing a) (stmt_standing b) ss h

  paid_alike : (s : Span) (ss : List PStmt) → Each AlikeStmt ss → Alike (with_paid a s (by_value a first_of (map (stmt_standing a) ss))) (with_paid b s (by_value b first_of (map (stmt_standing b) ss)))
  paid_alike s ss h =
      let c = copies_alike ss h in
      record {
        marks = c.marks;
        count = c.count;
        alike = λ i agree.
            let is : value a i ≡ value b i = agree.0 refl in
            (λ j. together (record nothing { paid = record { span = s; amount = sym is j } ∷ [] }) ((by_value b first_of (map (stmt_standing b) ss)).at i)) ∙ ap (together (record nothing { paid = record { span = s; amount = value a i } ∷ [] })) (c.alike i agree);
      }

  repeat_alike : (hole : Bool) (ss : List PStmt) → Each AlikeStmt ss → Alike (if hole then by_value a first_of (map (stmt_standing a) ss) else in_row (map (stmt_standing a) ss)) (if hole then by_value b first_of (map (stmt_standing b) ss) else in_row (map (stmt_standing b) ss))
  repeat_alike true ss h = copies_alike ss h
  repeat_alike false ss h = stmts_alike ss h

  abbrev ordered_standing : List ℕ → List PStmt → ℕ → Part Standing
  ordered_standing values ss n = beside (own (n - 1)) (in_row (map (stmt_standing values) ss))

  reorder_alike : (ss : List PStmt) → Each AlikeStmt ss → Alike (ordered_standing a ss (length (map (stmt_standing a) ss))) (ordered_standing b ss (length (map (stmt_standing b) ss)))
  reorder_alike ss h = by_layers (ap (ordered_standing a ss) (length-map ss (stmt_standing a))) (ap (ordered_standing b ss) (length-map ss (stmt_standing b))) (both_alike (own (length ss - 1)) (own (length ss - 1)) (in_row (map (stmt_standing a) ss)) (in_row (map (stmt_standing b) ss)) (own_alike (length ss - 1)) (stmts_alike ss h))

  abbrev pform_standing_of : List ℕ → PForm → Span → Part Standing
  pform_standing_of values = fold-PForm (Span → Part Standing) (Part Standing) (form_standing values) (λ s. s.form s.span)

  -- a statement, by what both say of its form
  by_stmt : (x : S.PForm-F PForm PStmt) (f : PForm) → W.roll-PForm x ≡ f → (s : Span)
      → Alike (form_standing a (map-PForm PForm PStmt (Span → Part Standing) (Part Standing) (pform_standing_of a) (stmt_standing a) x) s) (form_standing b (map-PForm PForm PStmt (Span → Part Standing) (Part Standing) (pform_standing_of b) (stmt_standing b) x) s)
      → AlikeStmt (stated s f)
  by_stmt x f is s h = by_layers (stmt_layer (Span → Part Standing) (Part Standing) (form_standing a) (λ s. s.form s.span) x f is s) (stmt_layer (Span → Part Standing) (Part Standing) (form_standing b) (λ s. s.form s.span) x f is s) h

  stmt_cases : StmtCases AlikeStmt
  stmt_cases = record {
    block = λ s ss h_ss. by_stmt (S.Block ss) (form.Block ss) (W.rolls-Block ss) s (stmts_alike ss h_ss);
    declare = λ s slot name t e. by_stmt (S.Declare slot name t e) (form.Declare slot name t e) (W.rolls-Declare slot name t e) s (value_alike e);
    assign = λ s p e. by_stmt (S.Assign p e) (form.Assign p e) (W.rolls-Assign p e) s (both_alike (expr_standing a p) (expr_standing b p) (expr_standing a e) (expr_standing b e) (expr_alike p) (expr_alike e));
    calls = λ s e. by_stmt (S.Call e) (form.Call e) (W.rolls-Call e) s (expr_alike e);
    if_only = λ s c x h_x. by_stmt (S.If c x None) (form.If c x None) (W.rolls-If c x None) s (both_alike (expr_standing a c) (expr_standing b c) (beside (stmt_standing a x) (own 0)) (beside (stmt_standing b x) (own 0)) (expr_alike c) (both_alike (stmt_standing a x) (stmt_standing b x) (own 0) (own 0) h_x (own_alike 0)));
    if_else = λ s c x y h_x h_y. by_stmt (S.If c x (Some y)) (form.If c x (Some y)) (W.rolls-If c x (Some y)) s (both_alike (expr_standing a c) (expr_standing b c) (beside (stmt_standing a x) (stmt_standing a y)) (beside (stmt_standing b x) (stmt_standing b y)) (expr_alike c) (both_alike (stmt_standing a x) (stmt_standing b x) (stmt_standing a y) (stmt_standing b y) h_x h_y));
    loop = λ s c x h_x. by_stmt (S.While c x) (form.While c x) (W.rolls-While c x) s (both_alike (expr_standing a c) (expr_standing b c) (stmt_standing a x) (stmt_standing b x) (expr_alike c) h_x);
    returns = λ s e. by_stmt (S.Return e) (form.Return e) (W.rolls-Return e) s (value_alike e);
    asserts = λ s e. by_stmt (S.Assert e) (form.Assert e) (W.rolls-Assert e) s (expr_alike e);
    assumes = λ s e. by_stmt (S.Assume e) (form.Assume e) (W.rolls-Assume e) s (expr_alike e);
    minimizes = λ s e. by_stmt (S.Minimize e) (form.Minimize e) (W.rolls-Minimize e) s (expr_alike e);
    repeats = λ s c ss h_ss. by_stmt (S.Repeat c ss) (form.Repeat c ss) (W.rolls-Repeat c ss) s (repeat_alike (is_hole c.form) ss h_ss);
    minrepeat = λ s ss h_ss. by_stmt (S.MinRepeat ss) (form.MinRepeat ss) (W.rolls-MinRepeat ss) s (paid_alike s ss h_ss);
    reorder = λ s ss h_ss. by_stmt (S.Reorder ss) (form.Reorder ss) (W.rolls-Reorder ss) s (reorder_alike ss h_ss);
  }

  stmt_alike : (s : PStmt) → AlikeStmt s
  stmt_alike = stmt_ind AlikeStmt stmt_cases

  each_alike : (ss : List PStmt) → Each AlikeStmt ss
  each_alike [] = tt
  each_alike (s ∷ ss) = (stmt_alike s, each_alike ss)

  body_alike : (ss : List PStmt) → Alike (body_standing a ss) (body_standing b ss)
  body_alike ss = stmts_alike ss (each_alike ss)

  -- Functions

  part_same : (st : Bool) (ss : List PStmt) (i : ℕ) → Agrees ((part_if st (body_standing a ss)).at i).marks i → (part_if st (body_standing b ss)).at i ≡ (part_if st (body_standing a ss)).at i
  part_same true ss i h = (body_alike ss).alike i h
  part_same false ss i h = ap (λ n. record { marks = replicate n false; called = []; paid = [] }) (body_alike ss).count

  part_marks : (st : Bool) (ss : List PStmt) (i : ℕ) → length ((part_if st (body_standing a ss)).at i).marks ≡ (body_standing a ss).count
  part_marks true ss i = (body_alike ss).marks i
  part_marks false ss i = length-replicate (body_standing a ss).count false

  standing_same : (ordinary : ℕ) (called : List ℕ) (n i : ℕ) (fs : List Fun) → Agrees (sites_stand (standing_from a ordinary called n i fs)) i → standing_from b ordinary called n i fs ≡ standing_from a ordinary called n i fs
  standing_same ordinary called n i [] h = refl
  standing_same ordinary called n i (f ∷ fs) h =
      let st : Bool = nat_lt n ordinary || is_called called n in
      let s : FunStanding = fun_standing a ordinary st i f in
      let m : ℕ = (body_standing a f.body).count in
      let rest : List FunStanding = standing_from a ordinary (called ++ s.within.called) (n + 1) (i + m) fs in
      let two = agrees_append s.within.marks (sites_stand rest) i h in
      let one : fun_standing b ordinary st i f ≡ s = ap (λ (w : Standing). record { stands = st; within = w }) (part_same st f.body i two.0) in
      (λ j. one j ∷ standing_from b ordinary (called ++ (one j).within.called) (n + 1) (i + (body_alike f.body).count j) fs)
      ∙ ap (λ ss. s ∷ ss) (standing_same ordinary (called ++ s.within.called) (n + 1) (i + m) fs (subst (λ k. Agrees (sites_stand rest) (i + k)) (part_marks st f.body i) two.1))

-- under a choice that agrees where the sites of another stand, the same stands
pub same_stands : (e : Expanded) (a b : List ℕ) → AgreeWhereStands e a b → standing e b ≡ standing e a
same_stands e a b h =
    let ms : List Bool = sites_stand (standing e a) in
    standing_same a b e.ordinary [] 0 0 e.prog.funs (agrees_from a b ms 0 (λ k is. let z : k ≡ 0 + k = omega arith in subst (λ n. value a n ≡ value b n) z (h.agree k (record { stands = is }))))
