-- A filling has no sites.
use Rattle.std.proofs.Common.{◌≡◌, ℕ, zero, suc, ◌+◌, ◌-◌, Bool, true, false, List, [], ◌∷◌, ◌++◌, map, length, take, drop, Option, Some, None, refl, ◌∙◌}
use Rattle.std.specs.Prelude.{if◌then◌else◌, insert}
use Rattle.sk_base.specs.declared.span.Span.{Span}
use Rattle.sk_base.specs.declared.bounds.Bounds.{Bounds}
use Rattle.sk_prog.specs.declared.ty.Ty.{Ty}
use Rattle.sk_prog.specs.declared.ty.Ty.TheVariants as ty
use Rattle.sk_prog.specs.declared.ty.Elem.TheVariants as elem
use Rattle.sk_prog.specs.declared.expr.PExpr.{PExpr}
use Rattle.sk_prog.specs.declared.expr.PField.{PField}
use Rattle.sk_prog.specs.declared.expr.PEForm.TheVariants as eform
use Rattle.sk_prog.specs.declared.expr.PEForm.TheOpen as P
use Rattle.sk_prog.specs.declared.expr.PEForm.TheFolds.{map-PEForm, fold-PField}
use Rattle.sk_prog.specs.declared.stmt.PStmt.{PStmt}
use Rattle.sk_prog.specs.declared.stmt.PForm.{PForm}
use Rattle.sk_prog.specs.declared.stmt.PForm.TheVariants as form
use Rattle.sk_prog.specs.declared.stmt.PForm.TheOpen as S
use Rattle.sk_prog.specs.declared.stmt.PForm.TheFolds.{map-PForm}
use Rattle.sk_prog.specs.declared.prog.FunKind.{FunKind}
use Rattle.sk_prog.specs.declared.prog.FunKind.TheVariants as kind
use Rattle.sk_prog.specs.declared.prog.Fun.{Fun}
use Rattle.sk_model.specs.declared.expanded.Site.{Site}
use Rattle.sk_model.specs.Parts.{Part, in_turn, pick, value, joined, rank}
use Rattle.sk_model.specs.Sites.{Open, eform_sites, expr_sites, form_sites, stmt_sites, stmts_sites, funs_sites, value_sites, is_hole}
use Rattle.sk_model.specs.Stands.{Payment, standing, funs_stand, all_paid}
use Rattle.sk_model.specs.Fill.{is_tight, spanned, chosen, no_string, arrange, digit, Opened, bits_at, hole_part, eform_part, expr_step, field_step, expr_part, fill_expr, value_part, some_copies, all_copies, form_part, stmt_step, stmt_part, fill_stmts, stmts_count, minimize_of, before_body, fill_funs, fill}
use Rattle.sk_model.specs.FillingLaws.{FilledHasNoSites}
use Rattle.sk_model.proofs.Layers.{layer_field, layer_number, layer_true, layer_false, layer_null, layer_var, layer_const, layer_paren, layer_call, layer_new, layer_braces, layer_member, layer_index, layer_slice, layer_unary, layer_binary, layer_cond, layer_to_int, layer_pad, layer_of_block, layer_of_declare, layer_of_assign, layer_of_call, layer_of_if, layer_of_if_else, layer_of_while, layer_of_return, layer_of_assert, layer_of_assume, layer_of_minimize}
use Rattle.sk_model.proofs.Principle.{expr_law, stmt_law}

module _ (bounds : Bounds) where
  -- Expressions without sites

  abbrev Bare : PExpr → Type 0
  Bare e = (span : Span) → expr_sites bounds (spanned span e) ≡ []

  abbrev field_sites : PField → List Site
  field_sites = fold-PField (Open bounds) (List Site) (List Site) (eform_sites bounds) (λ e. e.form e.ty e.span) (λ x. x.value)

  abbrev all_bare : List PExpr → List Site
  all_bare es = joined (map (expr_sites bounds) es)

  number_bare : (t : Option Ty) (n : ℕ) (span : Span) → expr_sites bounds (record { span = span; ty = t; form = eform.Number n }) ≡ []
  number_bare t n span = layer_number (Open bounds) (List Site) (List Site) (eform_sites bounds) (λ e. e.form e.ty e.span) (λ x. x.value) span t n

  bits_bare : (values : List ℕ) (number : ℕ → ℕ) (span : Span) (n i : ℕ) → all_bare (bits_at values number span n i) ≡ []
  bits_bare values number span zero i = refl
  bits_bare values number span (suc n) i = λ j. number_bare (Some (ty.One elem.Bit)) (value values i) span j ++ bits_bare values number span n (i + 1) j

  chosen_bare : (t : Option Ty) (span : Span) (e : PExpr) → Bare e → Bare (chosen t span e)
  chosen_bare t span e h = elim (is_tight e) as (λ b. Bare (if b then spanned span e else record { span = span; ty = t; form = eform.Paren (spanned span e) })) [
    | true ↦ λ other. h other
    | false ↦ λ other. layer_paren (Open bounds) (List Site) (List Site) (eform_sites bounds) (λ e. e.form e.ty e.span) (λ x. x.value) other t (spanned span e) ∙ h span
  ]

  module _ (values : List ℕ) (number : ℕ → ℕ) where
    abbrev K : Opened values number → Type 0
    K p = (t : Option Ty) (span : Span) (i : ℕ) → Bare ((p t span).at i)

    abbrev K' : Part PExpr → Type 0
    K' p = (i : ℕ) → Bare (p.at i)

    abbrev K'' : Part PField → Type 0
    K'' p = (i : ℕ) → field_sites (p.at i) ≡ []

    abbrev Kept : Type 0
    Kept = (p : Opened values number) × K p

    abbrev Kept' : Type 0
    Kept' = (p : Part PExpr) × K' p

    abbrev Kept'' : Type 0
    Kept'' = (p : Part PField) × K'' p

    -- a part that is bare, at its own span
    own_bare : (p : Kept') (i : ℕ) → expr_sites bounds (p.0.at i) ≡ []
    own_bare p i = p.1 i (p.0.at i).span

    turn_bare : (ps : List Kept') (i : ℕ) → all_bare (in_turn (map (λ p. p.0) ps) i) ≡ []
    turn_bare [] i = refl
    turn_bare (p ∷ ps) i = λ j. own_bare p i j ++ turn_bare ps (i + p.0.count) j

    fields_bare : (ps : List Kept'') (i : ℕ) → joined (map field_sites (in_turn (map (λ p. p.0) ps) i)) ≡ []
    fields_bare [] i = refl
    fields_bare (p ∷ ps) i = λ j. p.1 i j ++ fields_bare ps (i + p.0.count) j

    pick_bare : (other : PExpr) (ps : List Kept') (v i : ℕ) → Bare other → Bare (pick other (map (λ p. p.0) ps) v i)
    pick_bare other [] v i h = h
    pick_bare other (p ∷ ps) zero i h = p.1 i
    pick_bare other (p ∷ ps) (suc v) i h = pick_bare other ps v (i + p.0.count) h

    no_string_bare : Bare no_string
    no_string_bare span = layer_null (Open bounds) (List Site) (List Site) (eform_sites bounds) (λ e. e.form e.ty e.span) (λ x. x.value) span None

    hole_bare : (t : Option Ty) (span : Span) (i : ℕ) → Bare ((hole_part values number t span).at i)
    hole_bare None span i other = number_bare None (value values i) other
    hole_bare (Some (ty.One e)) span i other = number_bare (Some (ty.One e)) (value values i) other
    hole_bare (Some (ty.Array elem.Bit n)) span i other = layer_braces (Open bounds) (List Site) (List Site) (eform_sites bounds) (λ e. e.form e.ty e.span) (λ x. x.value) other (Some (ty.Array elem.Bit n)) (bits_at values number span n i) ∙ bits_bare values number span n i
    hole_bare (Some (ty.Array elem.Int n)) span i other = number_bare (Some (ty.Array elem.Int n)) (value values i) other
    hole_bare (Some (ty.Array (elem.Reference d) n)) span i other = number_bare (Some (ty.Array (elem.Reference d) n)) (value values i) other
    hole_bare (Some (ty.Grid e n m)) span i other = number_bare (Some (ty.Grid e n m)) (value values i) other

    form_bare : (y : P.PEForm-F Kept Kept' Kept'') → K (eform_part values number (map-PEForm Kept Kept' Kept'' (Opened values number) (Part PExpr) (Part PField) (λ p. p.0) (λ p. p.0) (λ p. p.0) y))
    form_bare (P.Hole width) t span i other = hole_bare t span i other
    form_bare (P.Pattern es) t span i other = chosen_bare t span (pick no_string (map (λ p. p.0) es) (value values i) (i + 1)) (pick_bare no_string es (value values i) (i + 1) no_string_bare) other
    form_bare (P.Number n) t span i other = number_bare t n other
    form_bare P.True t span i other = layer_true (Open bounds) (List Site) (List Site) (eform_sites bounds) (λ e. e.form e.ty e.span) (λ x. x.value) other t
    form_bare P.False t span i other = layer_false (Open bounds) (List Site) (List Site) (eform_sites bounds) (λ e. e.form e.ty e.span) (λ x. x.value) other t
    form_bare P.Null t span i other = layer_null (Open bounds) (List Site) (List Site) (eform_sites bounds) (λ e. e.form e.ty e.span) (λ x. x.value) other t
    form_bare (P.Var slot name) t span i other = layer_var (Open bounds) (List Site) (List Site) (eform_sites bounds) (λ e. e.form e.ty e.span) (λ x. x.value) other t slot name
    form_bare (P.Const c) t span i other = layer_const (Open bounds) (List Site) (List Site) (eform_sites bounds) (λ e. e.form e.ty e.span) (λ x. x.value) other t c
    form_bare (P.Paren e) t span i other = layer_paren (Open bounds) (List Site) (List Site) (eform_sites bounds) (λ e. e.form e.ty e.span) (λ x. x.value) other t (e.0.at i) ∙ own_bare e i
    form_bare (P.Call f es) t span i other = layer_call (Open bounds) (List Site) (List Site) (eform_sites bounds) (λ e. e.form e.ty e.span) (λ x. x.value) other t (record { index = number f.index }) (in_turn (map (λ p. p.0) es) i) ∙ turn_bare es i
    form_bare (P.New d fs) t span i other = layer_new (Open bounds) (List Site) (List Site) (eform_sites bounds) (λ e. e.form e.ty e.span) (λ x. x.value) other t d (in_turn (map (λ p. p.0) fs) i) ∙ fields_bare fs i
    form_bare (P.Braces es) t span i other = layer_braces (Open bounds) (List Site) (List Site) (eform_sites bounds) (λ e. e.form e.ty e.span) (λ x. x.value) other t (in_turn (map (λ p. p.0) es) i) ∙ turn_bare es i
    form_bare (P.Member e d k) t span i other = layer_member (Open bounds) (List Site) (List Site) (eform_sites bounds) (λ e. e.form e.ty e.span) (λ x. x.value) other t (e.0.at i) d k ∙ own_bare e i
    form_bare (P.Index e x) t span i other = layer_index (Open bounds) (List Site) (List Site) (eform_sites bounds) (λ e. e.form e.ty e.span) (λ x. x.value) other t (e.0.at i) (x.0.at (i + e.0.count)) ∙ (λ j. own_bare e i j ++ own_bare x (i + e.0.count) j)
    form_bare (P.Slice e x n) t span i other = layer_slice (Open bounds) (List Site) (List Site) (eform_sites bounds) (λ e. e.form e.ty e.span) (λ x. x.value) other t (e.0.at i) (x.0.at (i + e.0.count)) n ∙ (λ j. own_bare e i j ++ own_bare x (i + e.0.count) j)
    form_bare (P.Unary op e) t span i other = layer_unary (Open bounds) (List Site) (List Site) (eform_sites bounds) (λ e. e.form e.ty e.span) (λ x. x.value) other t op (e.0.at i) ∙ own_bare e i
    form_bare (P.Binary op a b) t span i other = layer_binary (Open bounds) (List Site) (List Site) (eform_sites bounds) (λ e. e.form e.ty e.span) (λ x. x.value) other t op (a.0.at i) (b.0.at (i + a.0.count)) ∙ (λ j. own_bare a i j ++ own_bare b (i + a.0.count) j)
    form_bare (P.Cond c a b) t span i other = layer_cond (Open bounds) (List Site) (List Site) (eform_sites bounds) (λ e. e.form e.ty e.span) (λ x. x.value) other t (c.0.at i) (a.0.at (i + c.0.count)) (b.0.at (i + c.0.count + a.0.count)) ∙ (λ j. own_bare c i j ++ (own_bare a (i + c.0.count) j ++ own_bare b (i + c.0.count + a.0.count) j))
    form_bare (P.ToInt e) t span i other = layer_to_int (Open bounds) (List Site) (List Site) (eform_sites bounds) (λ e. e.form e.ty e.span) (λ x. x.value) other t (e.0.at i) ∙ own_bare e i
    form_bare (P.Pad e) t span i other = layer_pad (Open bounds) (List Site) (List Site) (eform_sites bounds) (λ e. e.form e.ty e.span) (λ x. x.value) other t (e.0.at i) ∙ own_bare e i

    expr_filled : (e : PExpr) → K' (expr_part values number e)
    expr_filled = expr_law (Opened values number) (Part PExpr) (Part PField) (eform_part values number) (expr_step values number) (field_step values number) K K' K'' form_bare (λ y i. y.form.1 y.ty y.span i) (λ y i. layer_field (Open bounds) (List Site) (List Site) (eform_sites bounds) (λ e. e.form e.ty e.span) (λ x. x.value) y.field (y.value.0.at i) ∙ own_bare y.value i)

    expr_bare : (e : PExpr) (i : ℕ) → expr_sites bounds (fill_expr values number e i) ≡ []
    expr_bare e i = expr_filled e i (fill_expr values number e i).span

    value_bare : (e : Option PExpr) (i : ℕ) → value_sites bounds ((value_part values number e).at i) ≡ []
    value_bare None i = refl
    value_bare (Some e) i = expr_bare e i

    -- Statements without sites

    abbrev AllBare : List PStmt → Type 0
    AllBare [] = Unit {0}
    AllBare (s ∷ ss) = (stmt_sites bounds s ≡ []) × AllBare ss

    joined_bare : (ss : List PStmt) → AllBare ss → stmts_sites bounds ss ≡ []
    joined_bare [] h = refl
    joined_bare (s ∷ ss) h = λ j. h.0 j ++ joined_bare ss h.1 j

    append_bare : (ss ts : List PStmt) → AllBare ss → AllBare ts → AllBare (ss ++ ts)
    append_bare [] ts h k = k
    append_bare (s ∷ ss) ts h k = (h.0, append_bare ss ts h.1 k)

    take_bare : (n : ℕ) (ss : List PStmt) → AllBare ss → AllBare (take n ss)
    take_bare zero ss h = tt
    take_bare (suc n) [] h = tt
    take_bare (suc n) (s ∷ ss) h = (h.0, take_bare n ss h.1)

    drop_bare : (n : ℕ) (ss : List PStmt) → AllBare ss → AllBare (drop n ss)
    drop_bare zero ss h = h
    drop_bare (suc n) [] h = tt
    drop_bare (suc n) (s ∷ ss) h = drop_bare n ss h.1

    insert_bare : (ss : List PStmt) (n : ℕ) (s : PStmt) → AllBare ss → stmt_sites bounds s ≡ [] → AllBare (insert ss n s)
    insert_bare ss n s h k = append_bare (take n ss) (s ∷ drop n ss) (take_bare n ss h) (k, drop_bare n ss h)

    arrange_bare : (i : ℕ) (ss ts : List PStmt) → AllBare ss → AllBare ts → AllBare (arrange values i ss ts)
    arrange_bare i ss [] h k = h
    arrange_bare i ss (t ∷ ts) h k = arrange_bare i (insert ss (length ss - digit values i (length ss)) t) ts (insert_bare ss (length ss - digit values i (length ss)) t h k.0) k.1

    abbrev L : Part PForm → Type 0
    L p = (span : Span) (i : ℕ) → stmt_sites bounds (record { span = span; form = p.at i }) ≡ []

    abbrev L' : Part PStmt → Type 0
    L' p = (i : ℕ) → stmt_sites bounds (p.at i) ≡ []

    abbrev Held : Type 0
    Held = (p : Part PForm) × L p

    abbrev Held' : Type 0
    Held' = (p : Part PStmt) × L' p

    turn_stmts : (ps : List Held') (i : ℕ) → AllBare (in_turn (map (λ p. p.0) ps) i)
    turn_stmts [] i = tt
    turn_stmts (p ∷ ps) i = (p.1 i, turn_stmts ps (i + p.0.count))

    block_bare : (span : Span) (ss : List PStmt) → AllBare ss → stmt_sites bounds (record { span = span; form = form.Block ss }) ≡ []
    block_bare span ss h = layer_of_block (Span → List Site) (List Site) (form_sites bounds) (λ s. s.form s.span) span ss ∙ joined_bare ss h

    some_bare : (ps : List Held') → L (some_copies values number (map (λ p. p.0) ps))
    some_bare ps span i = block_bare span (take (value values i) (in_turn (map (λ p. p.0) ps) (i + 1))) (take_bare (value values i) (in_turn (map (λ p. p.0) ps) (i + 1)) (turn_stmts ps (i + 1)))

    every_bare : (ps : List Held') → L (all_copies values number (map (λ p. p.0) ps))
    every_bare ps span i = block_bare span (in_turn (map (λ p. p.0) ps) i) (turn_stmts ps i)

    pform_bare : (y : S.PForm-F Held Held') → L (form_part values number (map-PForm Held Held' (Part PForm) (Part PStmt) (λ p. p.0) (λ p. p.0) y))
    pform_bare (S.Repeat count ps) span i = elim (is_hole count.form) as (λ b. L (if b then some_copies values number (map (λ p. p.0) ps) else all_copies values number (map (λ p. p.0) ps))) [ true ↦ some_bare ps | false ↦ every_bare ps ] span i
    pform_bare (S.MinRepeat ps) span i = some_bare ps span i
    pform_bare (S.Reorder ps) span i =
        let n : ℕ = i + (length (map (λ (p : Held'). p.0) ps) - 1) in
        block_bare span (arrange values i [] (in_turn (map (λ p. p.0) ps) n)) (arrange_bare i [] (in_turn (map (λ p. p.0) ps) n) tt (turn_stmts ps n))
    pform_bare (S.Block ps) span i = block_bare span (in_turn (map (λ p. p.0) ps) i) (turn_stmts ps i)
    pform_bare (S.Declare slot name t e) span i = layer_of_declare (Span → List Site) (List Site) (form_sites bounds) (λ s. s.form s.span) span slot name t ((value_part values number e).at i) ∙ value_bare e i
    pform_bare (S.Assign p e) span i = layer_of_assign (Span → List Site) (List Site) (form_sites bounds) (λ s. s.form s.span) span (fill_expr values number p i) (fill_expr values number e (i + (expr_part values number p).count)) ∙ (λ j. expr_bare p i j ++ expr_bare e (i + (expr_part values number p).count) j)
    pform_bare (S.Call e) span i = layer_of_call (Span → List Site) (List Site) (form_sites bounds) (λ s. s.form s.span) span (fill_expr values number e i) ∙ expr_bare e i
    pform_bare (S.If c a None) span i = layer_of_if (Span → List Site) (List Site) (form_sites bounds) (λ s. s.form s.span) span (fill_expr values number c i) (a.0.at (i + (expr_part values number c).count)) ∙ (λ j. expr_bare c i j ++ (a.1 (i + (expr_part values number c).count) j ++ []))
    pform_bare (S.If c a (Some b)) span i =
        let n : ℕ = i + (expr_part values number c).count in
        layer_of_if_else (Span → List Site) (List Site) (form_sites bounds) (λ s. s.form s.span) span (fill_expr values number c i) (a.0.at n) (b.0.at (n + a.0.count)) ∙ (λ j. expr_bare c i j ++ (a.1 n j ++ b.1 (n + a.0.count) j))
    pform_bare (S.While c a) span i = layer_of_while (Span → List Site) (List Site) (form_sites bounds) (λ s. s.form s.span) span (fill_expr values number c i) (a.0.at (i + (expr_part values number c).count)) ∙ (λ j. expr_bare c i j ++ a.1 (i + (expr_part values number c).count) j)
    pform_bare (S.Return e) span i = layer_of_return (Span → List Site) (List Site) (form_sites bounds) (λ s. s.form s.span) span ((value_part values number e).at i) ∙ value_bare e i
    pform_bare (S.Assert e) span i = layer_of_assert (Span → List Site) (List Site) (form_sites bounds) (λ s. s.form s.span) span (fill_expr values number e i) ∙ expr_bare e i
    pform_bare (S.Assume e) span i = layer_of_assume (Span → List Site) (List Site) (form_sites bounds) (λ s. s.form s.span) span (fill_expr values number e i) ∙ expr_bare e i
    pform_bare (S.Minimize e) span i = layer_of_minimize (Span → List Site) (List Site) (form_sites bounds) (λ s. s.form s.span) span (fill_expr values number e i) ∙ expr_bare e i

    stmt_bare : (s : PStmt) → L' (stmt_part values number s)
    stmt_bare = stmt_law (Part PForm) (Part PStmt) (form_part values number) (stmt_step values number) L L' pform_bare (λ y i. y.form.1 y.span i)

    stmts_bare : (ss : List PStmt) (i : ℕ) → AllBare (fill_stmts values number ss i)
    stmts_bare [] i = tt
    stmts_bare (s ∷ ss) i = (stmt_bare s i, stmts_bare ss (i + (stmt_part values number s).count))

    payments_bare : (ps : List Payment) → AllBare (map minimize_of ps)
    payments_bare [] = tt
    payments_bare (p ∷ ps) = (layer_of_minimize (Span → List Site) (List Site) (form_sites bounds) (λ s. s.form s.span) p.span (record { span = p.span; ty = Some (ty.One elem.Int); form = eform.Number p.amount }) ∙ number_bare (Some (ty.One elem.Int)) p.amount p.span, payments_bare ps)

    before_bare : (k : FunKind) (ps : List Payment) → AllBare (before_body k (map minimize_of ps))
    before_bare kind.Plain ps = tt
    before_bare kind.Harness ps = payments_bare ps
    before_bare kind.Generator ps = tt

    funs_bare : (ps : List Payment) (bs : List Bool) (fs : List Fun) (i : ℕ) → funs_sites bounds (fill_funs values number (map minimize_of ps) bs fs i) ≡ []
    funs_bare ps [] fs i = refl
    funs_bare ps (true ∷ bs) [] i = refl
    funs_bare ps (false ∷ bs) [] i = refl
    funs_bare ps (true ∷ bs) (f ∷ fs) i =
        let body : List PStmt = before_body f.kind (map minimize_of ps) ++ fill_stmts values number f.body i in
        let none = joined_bare body (append_bare (before_body f.kind (map minimize_of ps)) (fill_stmts values number f.body i) (before_bare f.kind ps) (stmts_bare f.body i)) in
        λ j. none j ++ funs_bare ps bs fs (i + stmts_count values number f.body) j
    funs_bare ps (false ∷ bs) (f ∷ fs) i = funs_bare ps bs fs (i + stmts_count values number f.body)

pub filled_has_no_sites : FilledHasNoSites
unfolding fill
filled_has_no_sites bounds e a = funs_bare bounds a.values (rank (funs_stand (standing e a.values))) (all_paid (standing e a.values)) (funs_stand (standing e a.values)) e.prog.funs 0
