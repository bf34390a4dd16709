-- A statement is printed so that its operands and each `else` stand where they may.
use Rattle.std.proofs.Common.{◌≡◌, ℕ, Bool, true, false, List, [], ◌∷◌, ◌++◌, length, Option, Some, None, refl, sym, ap, subst, ◌∙◌, inl, inr}
use Rattle.std.specs.Prelude.{◌&&◌, ◌||◌, not, map, nat_le, if◌then◌else◌}
use Rattle.std.specs.List.{list_all, flat_map}
use Rattle.std.proofs.lemmas.List.Folds.{list_all-map, list_all-append}
use Rattle.sk_base.specs.declared.span.Span.{Span}
use Rattle.sk_tree.specs.declared.expr.Expr.{Expr}
use Rattle.sk_tree.specs.declared.expr.EForm.{EForm}
use Rattle.sk_tree.specs.declared.expr.EForm.TheVariants as eform
use Rattle.sk_tree.specs.declared.expr.EForm.TheOpen as E
use Rattle.sk_tree.specs.declared.expr.EForm.TheFolds.{map-EForm, para-EForm, para-NewField, para-roll-EForm, para-roll-Expr, fold-NewField, fold-roll-EForm, fold-roll-Expr}
use Rattle.sk_tree.specs.declared.expr.NewField.{NewField}
use Rattle.sk_tree.specs.declared.stmt.Stmt.{Stmt}
use Rattle.sk_tree.specs.declared.stmt.Form.{Form}
use Rattle.sk_tree.specs.declared.stmt.Form.TheVariants as form
use Rattle.sk_tree.specs.declared.stmt.Form.TheOpen as F
use Rattle.sk_tree.specs.declared.stmt.Form.TheViews.{roll-Form}
use Rattle.sk_tree.specs.declared.stmt.Form.TheFolds.{map-Form, fold-Form, fold-roll-Form, fold-roll-Stmt}
use Rattle.sk_tree.specs.declared.stmt.Declared.{Declared}
use Rattle.sk_tree.specs.declared.item.TyTree.{TyTree}
use Rattle.sk_tree.specs.Placed.{Place, all_placed, eform_place, expr_place, field_placed, place_of, expr_placed, any_placed, ty_placed, declared_placed, Stand, closed, all_stand, form_stand, stand_of, stmt_placed}
use Rattle.sk_prog.specs.declared.ty.Ty.{Ty}
use Rattle.sk_prog.specs.declared.ty.Ty.TheVariants as ty
use Rattle.sk_prog.specs.declared.expr.PExpr.{PExpr}
use Rattle.sk_prog.specs.declared.expr.PEForm.{PEForm}
use Rattle.sk_prog.specs.declared.expr.PEForm.TheVariants as pform
use Rattle.sk_prog.specs.declared.expr.PEForm.TheOpen as P
use Rattle.sk_prog.specs.declared.expr.PEForm.TheViews.{roll-PEForm}
use Rattle.sk_prog.specs.declared.expr.PEForm.TheFolds.{map-PEForm, fold-PEForm, fold-PField, fold-roll-PEForm, fold-roll-PExpr}
use Rattle.sk_prog.specs.declared.expr.PField.{PField}
use Rattle.sk_prog.specs.declared.stmt.PStmt.{PStmt}
use Rattle.sk_prog.specs.declared.stmt.PForm.{PForm}
use Rattle.sk_prog.specs.declared.stmt.PForm.TheOpen as S
use Rattle.sk_prog.specs.declared.stmt.PForm.TheViews.{roll-PForm}
use Rattle.sk_prog.specs.declared.stmt.PForm.TheFolds.{map-PForm, fold-PForm, fold-roll-PForm, fold-roll-PStmt}
use Rattle.sk_prog.specs.declared.prog.Prog.{Prog}
use Rattle.sk_types_rules.specs.declared.scope.Variable.{Variable}
use Rattle.sk_types_rules.specs.Erase.{nowhere, number, erase_ty}
use Rattle.sk_types_rules.specs.Erase as R
use Rattle.sk_types_rules.specs.Rules.{int, bit}
use Rattle.sk_types_rules.specs.Scope.{Context}
use Rattle.sk_types_rules.specs.Sorts.{eform_target, target_type, is_some_type, kept_targets}
use Rattle.sk_types_rules.specs.Types.{EachMeans, Means, IsAt, AnyAt, IsTarget, FormRule, StmtRule, BlockMeans, AnyMeans, OneMeans, CountMeans, ReturnMeans, after, StmtMeans}
use Rattle.sk_types_rules.proofs.Layers.{ActMeans, act_rule, act_means_are, stmt_means_is}
use Rattle.sk_types_laws.proofs.Ats.{both_true, both, expr_law}
use Rattle.sk_types_laws.proofs.Scopes.{pstmt_law}
use Rattle.sk_print_laws.specs.Printed.{choice_of, eform_printed, printed_expr, printed_any, Shown, all_shown, of_form, block_of, any_block, form_printed, stmt_shown}
use Rattle.sk_print_laws.proofs.PlacedAgain.{form_place, place_at, placed_again}
use Rattle.sk_print_laws.proofs.HeldPlain.{value_held, form_held, stmt_held, act_held, stmt_held_is, held_in, stmts_held}

-- Types

number_placed : (n : ℕ) → expr_placed (number n) ≡ true
number_placed n = ap (λ (p : Place). p.placed) (place_at (number n) (E.Number n) (sym (eform.rolls-Number n)))

pub ty_fine : (prog : Prog) (t : Ty) → ty_placed (erase_ty prog t) ≡ true
ty_fine prog (ty.One a) = refl
ty_fine prog (ty.Array a n) = both _ _ (number_placed n) refl
ty_fine prog (ty.Grid a n m) = both _ _ (number_placed n) (both _ _ (number_placed m) refl)

-- Statements of trees

abbrev act_stand : Form → Stand
act_stand = fold-Form Stand Stand form_stand (λ s. s.form)

abbrev pub Fine : List Stmt → Type 0
Fine es = list_all stmt_placed es ≡ true

stand_at : (s : Span) (f : Form) (l : F.Form-F Form Stmt) → roll-Form l ≡ f → stand_of (of_form s f) ≡ form_stand (map-Form Form Stmt Stand Stand act_stand stand_of l)
stand_at s f l is =
    fold-roll-Stmt Stand Stand form_stand (λ s. s.form) (record { span = s; form = f })
    ∙ ap act_stand (sym is)
    ∙ fold-roll-Form Stand Stand form_stand (λ s. s.form) l

one_fine : (s : Span) (f : Form) (l : F.Form-F Form Stmt) → roll-Form l ≡ f → (form_stand (map-Form Form Stmt Stand Stand act_stand stand_of l)).placed ≡ true → Fine (of_form s f ∷ [])
one_fine s f l is h = both _ _ (ap (λ (z : Stand). z.placed) (stand_at s f l is) ∙ h) refl

all_fine_stand : (es : List Stmt) → Fine es → all_stand (map stand_of es) ≡ true
all_fine_stand es h = list_all-map (λ (s : Stand). s.placed) stand_of es ∙ h

-- braces round such statements, which take no `else`
block_stands : (s : Span) (es : List Stmt) → Fine es → stand_of (block_of s es) ≡ closed true
block_stands s es h = stand_at s (form.Block es) (F.Block es) (form.rolls-Block es) ∙ ap closed (all_fine_stand es h)

block_placed : (s : Span) (es : List Stmt) → Fine es → stmt_placed (block_of s es) ≡ true
block_placed s es h = ap (λ (z : Stand). z.placed) (block_stands s es h)

closed_off : (s : Span) (es : List Stmt) → Fine es → not (stand_of (block_of s es)).takes_else ≡ true
closed_off s es h = ap (λ (z : Stand). not z.takes_else) (block_stands s es h)

fine_append : (es ds : List Stmt) → Fine es → Fine ds → Fine (es ++ ds)
fine_append es ds h k = list_all-append stmt_placed es ds ∙ both _ _ h k

block_case : (b : Bool) (s : Span) (es : List Stmt) → Fine es → Fine (if b then es else block_of s es ∷ [])
block_case true s es h = h
block_case false s es h = both _ _ (block_placed s es h) refl

module _ (prog : Prog) (context : Context) where
  -- Expressions of statements

  at_fine : (s : List Variable) (t : Ty) (p : PExpr) (e : Expr) → IsAt context s t p e → expr_placed e ≡ true → expr_placed (printed_expr prog p) ≡ true
  at_fine s t p e m h = (placed_again prog context s p e m.means h).0

  any_fine : (s : List Variable) (t : Ty) (p : Option PExpr) (e : Option Expr) → AnyAt context s t p e → any_placed e ≡ true → any_placed (printed_any prog p) ≡ true
  any_fine s t None None m h = refl
  any_fine s t (Some p) (Some e) m h = at_fine s t p e m h
  any_fine s t None (Some e) m h = absurd m
  any_fine s t (Some p) None m h = absurd m

  abbrev pub form_shown_expr : PEForm → Span → Expr
  form_shown_expr = fold-PEForm (Span → Expr) Expr (ℕ × Expr) (eform_printed prog) (λ e. e.form e.span) (λ f. (f.field, f.value))

  abbrev pub field_shown_expr : PField → ℕ × Expr
  field_shown_expr = fold-PField (Span → Expr) Expr (ℕ × Expr) (eform_printed prog) (λ e. e.form e.span) (λ f. (f.field, f.value))

  -- what an expression is printed as, from its form
  pub printed_at : (s : Span) (t : Option Ty) (f : PEForm) (l : P.PEForm-F PEForm PExpr PField) → roll-PEForm l ≡ f → printed_expr prog (record { span = s; ty = t; form = f }) ≡ eform_printed prog (map-PEForm PEForm PExpr PField (Span → Expr) Expr (ℕ × Expr) form_shown_expr (printed_expr prog) field_shown_expr l) s
  printed_at s t f l is =
      fold-roll-PExpr (Span → Expr) Expr (ℕ × Expr) (eform_printed prog) (λ e. e.form e.span) (λ f. (f.field, f.value)) (record { span = s; ty = t; form = f })
      ∙ ap (λ (g : PEForm). form_shown_expr g s) (sym is)
      ∙ (λ i. fold-roll-PEForm (Span → Expr) Expr (ℕ × Expr) (eform_printed prog) (λ e. e.form e.span) (λ f. (f.field, f.value)) l i s)

  each_fine : (s : List Variable) (t : Ty) (ps : List PExpr) (es : List Expr) → EachMeans (λ q. q) (Means context s) t ps es → all_placed (map place_of es) ≡ true → all_placed (map place_of (map (printed_expr prog) ps)) ≡ true
  each_fine s t [] [] m h = refl
  each_fine s t (p ∷ ps) (e ∷ es) m h =
      let k = both_true (expr_placed e) (all_placed (map place_of es)) h in
      both _ _ (placed_again prog context s p e m.0 k.0).0 (each_fine s t ps es m.2 k.1)
  each_fine s t [] (e ∷ es) m h = absurd m
  each_fine s t (p ∷ ps) [] m h = absurd m

  pub kept_fine : (s : List Variable) (t : Ty) (es : List Expr) → all_placed (map place_of es) ≡ true → all_placed (map place_of (kept_targets context s t es)) ≡ true
  kept_fine s t [] h = refl
  kept_fine s t (e ∷ es) h = let k = both_true (expr_placed e) (all_placed (map place_of es)) h in go (is_some_type (target_type context s e) t) k.0 (kept_fine s t es k.1)
    where
      go : (b : Bool) → expr_placed e ≡ true → all_placed (map place_of (kept_targets context s t es)) ≡ true → all_placed (map place_of (if b then e ∷ kept_targets context s t es else kept_targets context s t es)) ≡ true
      go true one rest = both _ _ one rest
      go false one rest = rest

  -- Targets are of level 1.

  module _ (s : List Variable) where
    abbrev form_target : EForm → Option Ty
    form_target = para-EForm (Option Ty) (Option Ty) (Unit {0}) (eform_target context s) (λ x. x.form.1) (λ x. tt)

    abbrev field_target : NewField → Unit {0}
    field_target = para-NewField (Option Ty) (Option Ty) (Unit {0}) (eform_target context s) (λ x. x.form.1) (λ x. tt)

    abbrev FormLow : EForm → Type 0
    FormLow f = (t : Ty) → form_target f ≡ Some t → (form_place f).level ≡ 1

    abbrev ExprLow : Expr → Type 0
    ExprLow e = (t : Ty) → target_type context s e ≡ Some t → (place_of e).level ≡ 1

    abbrev LowParts : Type 0
    LowParts = E.EForm-F ((f : EForm) × FormLow f) ((e : Expr) × ExprLow e) (NewField × Unit {0})

    abbrev low_parts : LowParts → E.EForm-F EForm Expr NewField
    low_parts y = map-EForm ((f : EForm) × FormLow f) ((e : Expr) × ExprLow e) (NewField × Unit {0}) EForm Expr NewField (λ q. q.0) (λ q. q.0) (λ q. q.0) y

    abbrev set_place : NewField → Bool
    set_place = fold-NewField Place Place Bool eform_place expr_place field_placed

    low_layer : (y : LowParts) (t : Ty) → eform_target context s (map-EForm EForm Expr NewField (EForm × Option Ty) (Expr × Option Ty) (NewField × Unit {0}) (λ f. (f, form_target f)) (λ e. (e, target_type context s e)) (λ x. (x, field_target x)) (low_parts y)) ≡ Some t → (eform_place (map-EForm EForm Expr NewField Place Place Bool form_place place_of set_place (low_parts y))).level ≡ 1
    low_layer (E.Word x) t h = refl
    low_layer (E.Member e x) t h = refl
    low_layer (E.Index e i) t h = refl
    low_layer _ t h = cc

    target_low : (e : Expr) → ExprLow e
    target_low = expr_law FormLow ExprLow (λ x. Unit {0})
        (λ y t h. ap (λ (p : Place). p.level) (fold-roll-EForm Place Place Bool eform_place expr_place field_placed (low_parts y)) ∙ low_layer y t (sym (para-roll-EForm (Option Ty) (Option Ty) (Unit {0}) (eform_target context s) (λ x. x.form.1) (λ x. tt) (low_parts y)) ∙ h))
        (λ e k t h. ap (λ (p : Place). p.level) (fold-roll-Expr Place Place Bool eform_place expr_place field_placed (record { span = e.span; form = e.form })) ∙ k t (sym (para-roll-Expr (Option Ty) (Option Ty) (Unit {0}) (eform_target context s) (λ x. x.form.1) (λ x. tt) (record { span = e.span; form = e.form })) ∙ h))
        (λ x h. tt)

    is_low : (t : Ty) (p : PExpr) (e : Expr) → IsTarget context s t p e → (place_of e).level ≡ 1
    is_low t p e (inl m) = target_low e t m.target
    is_low t p e (inr m) = ap (λ (p : Place). p.level) (place_at e (E.Pattern m.pattern m.strings) (m.tree ∙ sym (eform.rolls-Pattern m.pattern m.strings)))

    target_fine : (t : Ty) (p : PExpr) (e : Expr) → IsTarget context s t p e → expr_placed e ≡ true → expr_placed (printed_expr prog p) ≡ true
    target_fine t p e (inl m) h = at_fine s t p e m.is_at h
    target_fine t p e (inr m) h =
        let es = map (printed_expr prog) m.parts in
        let strings : all_placed (map place_of m.strings) ≡ true = ap (λ (p : Place). p.placed) (sym (place_at e (E.Pattern m.pattern m.strings) (m.tree ∙ sym (eform.rolls-Pattern m.pattern m.strings)))) ∙ h in
        let made : printed_expr prog p ≡ R.at (eform.Pattern (choice_of es) es) e.span = ap (printed_expr prog) m.made ∙ printed_at e.span (Some t) (pform.Pattern m.parts) (P.Pattern m.parts) (pform.rolls-Pattern m.parts) in
        ap expr_placed made
        ∙ ap (λ (p : Place). p.placed) (place_at (R.at (eform.Pattern (choice_of es) es) e.span) (E.Pattern (choice_of es) es) (sym (eform.rolls-Pattern (choice_of es) es)))
        ∙ each_fine s t m.parts (kept_targets context s t m.strings) m.kept (kept_fine s t m.strings strings)

    -- of a target that means something, the value is placed
    pub value_fine : (t : Ty) (p : PExpr) (x e : Expr) → IsTarget context s t p x → value_held x e ≡ true → expr_placed e ≡ true
    value_fine t p x e m h = ap (λ n. not (nat_le n 1) || expr_placed e) (sym (is_low t p x m)) ∙ h

  module _ (result : Option Ty) where
    count_fine : (s : List Variable) (p : PExpr) (e : Expr) → CountMeans context result s p e → expr_placed e ≡ true → expr_placed (printed_expr prog p) ≡ true
    count_fine s p e (inl m) h = at_fine s int p e m.2 h
    count_fine s p e (inr m) h =
        let n = m.0 in
        ap (λ (q : PExpr). expr_placed (printed_expr prog q)) m.3
        ∙ ap expr_placed (printed_at e.span (Some int) (pform.Number n) (P.Number n) (pform.rolls-Number n))
        ∙ ap (λ (p : Place). p.placed) (place_at (R.at (eform.Number n) e.span) (E.Number n) (sym (eform.rolls-Number n)))

    return_fine : (s : List Variable) (t : Option Ty) (p : Option PExpr) (e : Option Expr) → ReturnMeans context result s t p e → any_placed e ≡ true → any_placed (printed_any prog p) ≡ true
    return_fine s None None None m h = refl
    return_fine s (Some t) (Some p) (Some e) m h = at_fine s t p e m h
    return_fine s None None (Some e) m h = absurd m
    return_fine s None (Some p) None m h = absurd m
    return_fine s None (Some p) (Some e) m h = absurd m
    return_fine s (Some t) None None m h = absurd m
    return_fine s (Some t) None (Some e) m h = absurd m
    return_fine s (Some t) (Some p) None m h = absurd m

    -- Statements

    abbrev form_shown : PForm → Span → Shown
    form_shown = fold-PForm (Span → Shown) Shown (form_printed prog) (λ p. p.form p.span)

    abbrev ActFine : PForm → Type 0
    ActFine a = (from : ℕ) (s : List Variable) (f : Form) → ActMeans context result a from s f → act_held f ≡ true → (here : Span) (is_body : Bool) → Fine (form_shown a here is_body)

    abbrev StmtFine : PStmt → Type 0
    StmtFine p = (from : ℕ) (s : List Variable) (e : Stmt) → StmtMeans context result p from s e → stmt_held e ≡ true → (is_body : Bool) → Fine (stmt_shown prog p is_body)

    abbrev Met : Type 0
    Met = (p : PStmt) × StmtFine p

    abbrev down : S.PForm-F ((a : PForm) × ActFine a) Met → S.PForm-F PForm PStmt
    down y = map-PForm ((a : PForm) × ActFine a) Met PForm PStmt (λ q. q.0) (λ q. q.0) y

    abbrev shown_of : S.PForm-F PForm PStmt → S.PForm-F (Span → Shown) Shown
    shown_of = map-PForm PForm PStmt (Span → Shown) Shown form_shown (stmt_shown prog)

    of_act : (l : S.PForm-F PForm PStmt) → ((from : ℕ) (s : List Variable) (f : Form) → act_rule context result l from s f → act_held f ≡ true → (here : Span) (is_body : Bool) → Fine (form_printed prog (shown_of l) here is_body)) → ActFine (roll-PForm l)
    of_act l k from s f m h here b =
        subst (λ (x : Span → Shown). Fine (x here b)) (sym (fold-roll-PForm (Span → Shown) Shown (form_printed prog) (λ p. p.form p.span) l))
        (k from s f (subst (λ (R : FormRule). R from s f) (act_means_are context result l) m) h here b)

    -- statements that follow each other
    all_fine : (from : ℕ) (s : List Variable) (qs : List Met) (es : List Stmt) → BlockMeans (λ p. p) (StmtMeans context result) from s (map (λ q. q.0) qs) es → list_all stmt_held es ≡ true → (b : Bool) → Fine (all_shown b (map (stmt_shown prog) (map (λ (q : Met). q.0) qs)))
    all_fine from s [] [] m h b = refl
    all_fine from s (q ∷ qs) (e ∷ es) m h b =
        let k = both_true (stmt_held e) (list_all stmt_held es) h in
        fine_append (stmt_shown prog q.0 b) (all_shown b (map (stmt_shown prog) (map (λ (q : Met). q.0) qs))) (q.1 from s e m.0 k.0 b) (all_fine from (after q.0 s) qs es m.1 k.1 b)
    all_fine from s [] (e ∷ es) m h b = absurd m
    all_fine from s (q ∷ qs) [] m h b = absurd m

    copy_fine : (from : ℕ) (s : List Variable) (qs : List Met) (e : Stmt) → OneMeans (StmtMeans context result) from s (map (λ q. q.0) qs) e → stmt_held e ≡ true → Fine (all_shown true (map (stmt_shown prog) (map (λ (q : Met). q.0) qs)))
    copy_fine from s [] e m h = absurd m
    copy_fine from s (q ∷ []) e m h = fine_append (stmt_shown prog q.0 true) [] (q.1 from s e m h true) refl
    copy_fine from s (q ∷ r ∷ qs) e m h = absurd m

    pub stmt_fine : (p : PStmt) → StmtFine p
    stmt_fine = pstmt_law ActFine StmtFine layer in_stmt
      where
        in_stmt : (p : PStmt) → ActFine p.form → StmtFine p
        in_stmt p k from s e m h b =
            let r = subst (λ (R : StmtRule). R from s e) (stmt_means_is context result p) m in
            subst (λ (x : Shown). Fine (x b)) (sym (fold-roll-PStmt (Span → Shown) Shown (form_printed prog) (λ p. p.form p.span) (record { span = p.span; form = p.form })))
            (k from s e.form r.1 (sym (stmt_held_is e) ∙ h) p.span b)

        layer : (y : S.PForm-F ((a : PForm) × ActFine a) Met) → ActFine (roll-PForm (down y))
        layer (S.Block qs) = of_act (S.Block (map (λ q. q.0) qs)) (λ from s f r h here b.
            block_case b here (all_shown false (map (stmt_shown prog) (map (λ (q : Met). q.0) qs)))
            (all_fine (length s) s qs r.0 r.2 (stmts_held r.0 (held_in f _ (F.Block r.0) r.1 (form.rolls-Block r.0) h)) false))
        layer (S.Declare slot x t v) = of_act (S.Declare slot x t v) (λ from s f r h here b.
            let d : Declared = record { name = x; value = printed_any prog v } in
            let k = both_true (declared_placed r.1) true (held_in f _ (F.Declare r.0 (r.1 ∷ [])) r.2 (form.rolls-Declare r.0 (r.1 ∷ [])) h) in
            one_fine here (form.Declare (erase_ty prog t) (d ∷ [])) (F.Declare (erase_ty prog t) (d ∷ [])) (form.rolls-Declare (erase_ty prog t) (d ∷ []))
            (both _ _ (ty_fine prog t) (both _ _ (any_fine s t v (r.1).value (r.3).value k.0) refl)))
        layer (S.Assign p q) = of_act (S.Assign p q) (λ from s f r h here b.
            let x = printed_expr prog p in
            let y = printed_expr prog q in
            let k = both_true (expr_placed r.0) (value_held r.0 r.1) (held_in f _ (F.Assign r.0 r.1) r.2 (form.rolls-Assign r.0 r.1) h) in
            one_fine here (form.Assign x y) (F.Assign x y) (form.rolls-Assign x y)
            (both _ _ (target_fine s r.3 p r.0 (r.4).target k.0) (at_fine s r.3 q r.1 (r.4).value (value_fine s r.3 p r.0 r.1 (r.4).target k.1))))
        layer (S.Call p) = of_act (S.Call p) (λ from s f r h here b.
            let x = printed_expr prog p in
            one_fine here (form.Call x) (F.Call x) (form.rolls-Call x)
            (placed_again prog context s p r.0 r.3 (held_in f _ (F.Call r.0) r.1 (form.rolls-Call r.0) h)).0)
        layer (S.If p a None) = of_act (S.If p a.0 None) (λ from s f r h here b.
            let x = printed_expr prog p in
            let y = block_of here (stmt_shown prog a.0 true) in
            let k = both_true _ _ (held_in f _ (F.If r.0 r.1 r.2) r.3 (form.rolls-If r.0 r.1 r.2) h) in
            let j = both_true (stmt_held r.1) _ k.1 in
            one_fine here (form.If x y None) (F.If x y None) (form.rolls-If x y None)
            (both _ _ (at_fine s bit p r.0 r.4 k.0) (block_placed here (stmt_shown prog a.0 true) (a.1 from s r.1 r.5 j.0 true))))
        layer (S.If p a (Some c)) = of_act (S.If p a.0 (Some c.0)) (λ from s f r h here b. some from s f r.0 r.1 r.2 r.3 r.4 r.5 r.6 h here)
          where
            some : (from : ℕ) (s : List Variable) (f : Form) (x : Expr) (y : Stmt) (z : Option Stmt) → f ≡ form.If x y z → IsAt context s bit p x → StmtMeans context result a.0 from s y → AnyMeans (StmtMeans context result) from s (Some c.0) z → act_held f ≡ true → (here : Span) → Fine (of_form here (form.If (printed_expr prog p) (block_of here (stmt_shown prog a.0 true)) (Some (block_of here (stmt_shown prog c.0 true)))) ∷ [])
            some from s f x y None is m n o h here = absurd o
            some from s f x y (Some z) is m n o h here =
                let u = printed_expr prog p in
                let v = block_of here (stmt_shown prog a.0 true) in
                let w = block_of here (stmt_shown prog c.0 true) in
                let k = both_true _ _ (held_in f _ (F.If x y (Some z)) is (form.rolls-If x y (Some z)) h) in
                let j = both_true (stmt_held y) (stmt_held z) k.1 in
                let first = a.1 from s y n j.0 true in
                let second = c.1 from s z o j.1 true in
                one_fine here (form.If u v (Some w)) (F.If u v (Some w)) (form.rolls-If u v (Some w))
                (both _ _ (both _ _ (both _ _ (at_fine s bit p x m k.0) (block_placed here (stmt_shown prog a.0 true) first)) (closed_off here (stmt_shown prog a.0 true) first)) (block_placed here (stmt_shown prog c.0 true) second))
        layer (S.While p a) = of_act (S.While p a.0) (λ from s f r h here b.
            let x = printed_expr prog p in
            let y = block_of here (stmt_shown prog a.0 true) in
            let k = both_true _ _ (held_in f _ (F.While r.0 r.1) r.2 (form.rolls-While r.0 r.1) h) in
            one_fine here (form.While x y) (F.While x y) (form.rolls-While x y)
            (both _ _ (at_fine s bit p r.0 r.3 k.0) (block_placed here (stmt_shown prog a.0 true) (a.1 from s r.1 r.4 k.1 true))))
        layer (S.Return v) = of_act (S.Return v) (λ from s f r h here b.
            let x = printed_any prog v in
            one_fine here (form.Return x) (F.Return x) (form.rolls-Return x)
            (return_fine s result v r.0 r.2 (held_in f _ (F.Return r.0) r.1 (form.rolls-Return r.0) h)))
        layer (S.Assert p) = of_act (S.Assert p) (λ from s f r h here b.
            let x = printed_expr prog p in
            one_fine here (form.Assert x) (F.Assert x) (form.rolls-Assert x) (at_fine s bit p r.0 r.2 (held_in f _ (F.Assert r.0) r.1 (form.rolls-Assert r.0) h)))
        layer (S.Assume p) = of_act (S.Assume p) (λ from s f r h here b.
            let x = printed_expr prog p in
            one_fine here (form.Assume x) (F.Assume x) (form.rolls-Assume x) (at_fine s bit p r.0 r.2 (held_in f _ (F.Assume r.0) r.1 (form.rolls-Assume r.0) h)))
        layer (S.Minimize p) = of_act (S.Minimize p) (λ from s f r h here b.
            let x = printed_expr prog p in
            one_fine here (form.Minimize x) (F.Minimize x) (form.rolls-Minimize x) (at_fine s int p r.0 r.2 (held_in f _ (F.Minimize r.0) r.1 (form.rolls-Minimize r.0) h)))
        layer (S.Repeat p qs) = of_act (S.Repeat p (map (λ q. q.0) qs)) (λ from s f r h here b.
            let x = printed_expr prog p in
            let es = all_shown true (map (stmt_shown prog) (map (λ (q : Met). q.0) qs)) in
            let y = block_of here es in
            let k = both_true _ _ (held_in f _ (F.Repeat r.0 r.1) r.2 (form.rolls-Repeat r.0 r.1) h) in
            one_fine here (form.Repeat x y) (F.Repeat x y) (form.rolls-Repeat x y)
            (both _ _ (count_fine s p r.0 r.3 k.0) (block_placed here es (copy_fine from s qs r.1 r.4 k.1))))
        layer (S.MinRepeat qs) = of_act (S.MinRepeat (map (λ q. q.0) qs)) (λ from s f r h here b.
            let es = all_shown true (map (stmt_shown prog) (map (λ (q : Met). q.0) qs)) in
            let y = block_of here es in
            one_fine here (form.MinRepeat y) (F.MinRepeat y) (form.rolls-MinRepeat y)
            (block_placed here es (copy_fine from s qs r.0 r.2 (held_in f _ (F.MinRepeat r.0) r.1 (form.rolls-MinRepeat r.0) h))))
        layer (S.Reorder qs) = of_act (S.Reorder (map (λ q. q.0) qs)) (λ from s f r h here b.
            let es = all_shown false (map (stmt_shown prog) (map (λ (q : Met). q.0) qs)) in
            one_fine here (form.Reorder es) (F.Reorder es) (form.rolls-Reorder es)
            (all_fine_stand es (all_fine (length s) s qs r.0 r.3 (stmts_held r.0 (held_in f _ (F.Reorder r.0) r.1 (form.rolls-Reorder r.0) h)) false)))

    -- a body
    pub body_fine : (from : ℕ) (s : List Variable) (ps : List PStmt) (es : List Stmt) → BlockMeans (λ p. p) (StmtMeans context result) from s ps es → list_all stmt_held es ≡ true → Fine (flat_map (λ p. stmt_shown prog p false) ps)
    body_fine from s [] [] m h = refl
    body_fine from s (p ∷ ps) (e ∷ es) m h =
        let k = both_true (stmt_held e) (list_all stmt_held es) h in
        fine_append (stmt_shown prog p false) (flat_map (λ p. stmt_shown prog p false) ps) (stmt_fine p from s e m.0 k.0 false) (body_fine from (after p s) ps es m.1 k.1)
    body_fine from s [] (e ∷ es) m h = absurd m
    body_fine from s (p ∷ ps) [] m h = absurd m
