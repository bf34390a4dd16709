-- A program that keeps the rules is printed so that it is spelt as a tree may be.
use Rattle.std.proofs.Common.{◌≡◌, ℕ, Bool, true, false, List, [], ◌∷◌, ◌++◌, length, Option, Some, None, refl, sym, ap, subst, ◌∙◌, inl, inr}
use Rattle.std.specs.Prelude.{◌&&◌, ◌||◌, map}
use Rattle.std.specs.List.{list_all}
use Rattle.sk_base.specs.declared.span.Span.{Span}
use Rattle.sk_base.specs.declared.bounds.Bounds.{Bounds}
use Rattle.sk_tree.specs.declared.expr.Expr.{Expr}
use Rattle.sk_tree.specs.declared.expr.NewField.{NewField}
use Rattle.sk_tree.specs.declared.expr.EForm.{EForm}
use Rattle.sk_tree.specs.declared.expr.EForm.TheVariants as eform
use Rattle.sk_tree.specs.declared.expr.EForm.TheOpen as E
use Rattle.sk_tree.specs.declared.expr.EForm.TheViews.{roll-EForm}
use Rattle.sk_tree.specs.declared.expr.EForm.TheFolds.{map-EForm, fold-EForm, fold-NewField, para-EForm, para-NewField, fold-roll-EForm, fold-roll-Expr, para-roll-EForm, para-roll-Expr}
use Rattle.sk_tree.specs.declared.stmt.Stmt.{Stmt}
use Rattle.sk_tree.specs.declared.stmt.Form.{Form}
use Rattle.sk_tree.specs.declared.stmt.Form.TheVariants as form
use Rattle.sk_tree.specs.declared.stmt.Form.TheOpen as F
use Rattle.sk_tree.specs.declared.item.Item.{Item}
use Rattle.sk_tree.specs.declared.item.Item.TheVariants as item
use Rattle.sk_tree.specs.Placed.{Place, all_placed, place_of, expr_placed, any_placed, declared_placed}
use Rattle.sk_tree.specs.Spelt.{asks, eform_is_place, eform_is_pattern, eform_is_call, is_target}
use Rattle.sk_tree.specs.Spelt as Spelt
use Rattle.sk_prog.specs.declared.ty.Ty.{Ty}
use Rattle.sk_prog.specs.declared.expr.PExpr.{PExpr}
use Rattle.sk_prog.specs.declared.expr.PField.{PField}
use Rattle.sk_prog.specs.declared.expr.PEForm.{PEForm}
use Rattle.sk_prog.specs.declared.expr.PEForm.TheVariants as pform
use Rattle.sk_prog.specs.declared.expr.PEForm.TheOpen as P
use Rattle.sk_prog.specs.declared.expr.PEForm.TheViews.{roll-PEForm}
use Rattle.sk_prog.specs.declared.expr.PEForm.TheFolds.{map-PEForm, fold-PEForm, fold-PField, fold-roll-PEForm, fold-roll-PExpr}
use Rattle.sk_prog.specs.declared.stmt.PStmt.{PStmt}
use Rattle.sk_prog.specs.declared.stmt.PForm.{PForm}
use Rattle.sk_prog.specs.declared.stmt.PForm.TheOpen as S
use Rattle.sk_prog.specs.declared.stmt.PForm.TheViews.{roll-PForm}
use Rattle.sk_prog.specs.declared.stmt.PForm.TheFolds.{map-PForm, fold-PForm, fold-roll-PForm, fold-roll-PStmt}
use Rattle.sk_prog.specs.declared.prog.StructDef.{StructDef}
use Rattle.sk_prog.specs.declared.prog.ConstDef.{ConstDef}
use Rattle.sk_prog.specs.declared.prog.Fun.{Fun}
use Rattle.sk_prog.specs.declared.prog.Prog.{Prog}
use Rattle.sk_prog.specs.Names.{is_yes}
use Rattle.sk_types_rules.specs.declared.scope.Variable.{Variable}
use Rattle.sk_types_rules.specs.Erase as R
use Rattle.sk_types_rules.specs.Rules.{◌>>=◌, int, bit}
use Rattle.sk_types_rules.specs.Scope.{Known, Context, top_of}
use Rattle.sk_types_rules.specs.Sorts.{eform_target, target_type, kept_targets}
use Rattle.sk_types_rules.specs.Plain.{plain}
use Rattle.sk_types_rules.specs.Types.{EFormRule, Means, IsAt, AnyAt, IsTarget, FormRule, StmtRule, BlockMeans, AnyMeans, OneMeans, CountMeans, ReturnMeans, after, form_calls, is_call, StmtMeans, parameters, ItemsMean}
use Rattle.sk_types_rules.specs.WellTyped.{are_strings, all_good, expr_patterns, any_patterns, form_patterns, stmt_patterns, fun_patterns, WellTyped}
use Rattle.sk_types_rules.proofs.Layers.{FormMeans, rule, form_means_are, means_parts, ActMeans, act_rule, act_means_are, stmt_means_is}
use Rattle.sk_types_laws.proofs.Ats.{both_true, both, bind_some, pexpr_law}
use Rattle.sk_types_laws.proofs.Scopes.{pstmt_law}
use Rattle.sk_print_laws.specs.Printed.{choice_of, eform_printed, printed_expr}
use Rattle.sk_print_laws.specs.Readable.{expr_readable, any_readable, target_readable, form_readable, stmt_readable, fun_readable}
use Rattle.sk_print_laws.specs.ReadableAgain.{ProgramsReadable}
use Rattle.sk_print_laws.proofs.PlacedAgain.{place_at}
use Rattle.sk_print_laws.proofs.HeldPlain.{value_held, stmt_held, act_held, stmt_held_is, held_in, stmts_held, item_held, items_held}
use Rattle.sk_print_laws.proofs.StmtsPlaced.{form_shown_expr, field_shown_expr, printed_at, kept_fine, value_fine}
use Rattle.sk_print_laws.proofs.ExprsReadable.{strings_good, patterns_at, readable_at, expr_good}

-- Tests of an expression by its form

abbrev form_asks : (E.EForm-F Bool Bool (Unit {0}) → Bool) → EForm → Bool
form_asks test = fold-EForm Bool Bool (Unit {0}) test (λ x. x.form) (λ x. tt)

abbrev no_asks : (E.EForm-F Bool Bool (Unit {0}) → Bool) → NewField → Unit {0}
no_asks test = fold-NewField Bool Bool (Unit {0}) test (λ x. x.form) (λ x. tt)

asks_at : (test : E.EForm-F Bool Bool (Unit {0}) → Bool) (here : Span) (f : EForm) (l : E.EForm-F EForm Expr NewField) → roll-EForm l ≡ f → asks test (R.at f here) ≡ test (map-EForm EForm Expr NewField Bool Bool (Unit {0}) (form_asks test) (asks test) (no_asks test) l)
asks_at test here f l is =
    fold-roll-Expr Bool Bool (Unit {0}) test (λ x. x.form) (λ x. tt) (record { span = here; form = f })
    ∙ ap (form_asks test) (sym is)
    ∙ fold-roll-EForm Bool Bool (Unit {0}) test (λ x. x.form) (λ x. tt) l

or_left : (a b : Bool) → a ≡ true → (a || b) ≡ true
or_left a b h = ap (λ c. c || b) h

or_right : (a b : Bool) → b ≡ true → (a || b) ≡ true
or_right true b h = refl
or_right false b h = h

module _ (prog : Prog) (context : Context) where
  abbrev printed_of : P.PEForm-F PEForm PExpr PField → P.PEForm-F (Span → Expr) Expr (ℕ × Expr)
  printed_of = map-PEForm PEForm PExpr PField (Span → Expr) Expr (ℕ × Expr) (form_shown_expr prog context) (printed_expr prog) (field_shown_expr prog context)

  -- A call is printed as a call.

  abbrev calls : PEForm → Bool
  calls = fold-PEForm Bool Bool (Unit {0}) form_calls (λ p. p.form) (λ p. tt)

  abbrev no_call : PField → Unit {0}
  no_call = fold-PField Bool Bool (Unit {0}) form_calls (λ p. p.form) (λ p. tt)

  abbrev FormCall : PEForm → Type 0
  FormCall f = calls f ≡ true → (here : Span) → Spelt.is_call (form_shown_expr prog context f here) ≡ true

  abbrev ExprCall : PExpr → Type 0
  ExprCall p = is_call p ≡ true → Spelt.is_call (printed_expr prog p) ≡ true

  call_layer : (l : P.PEForm-F PEForm PExpr PField) → form_calls (map-PEForm PEForm PExpr PField Bool Bool (Unit {0}) calls is_call no_call l) ≡ true → (here : Span) → Spelt.is_call (eform_printed prog (printed_of l) here) ≡ true
  call_layer (P.Call g ps) is here =
      let es = map (printed_expr prog) ps in
      asks_at eform_is_call here (eform.Call (R.fun_name prog g) es) (E.Call (R.fun_name prog g) es) (eform.rolls-Call (R.fun_name prog g) es)
  call_layer _ is here = cc

  call_printed : (p : PExpr) → ExprCall p
  call_printed = pexpr_law FormCall ExprCall (λ q. Unit {0})
      (λ y is here.
      let l = map-PEForm ((f : PEForm) × FormCall f) ((p : PExpr) × ExprCall p) ((q : PField) × Unit {0}) PEForm PExpr PField (λ q. q.0) (λ q. q.0) (λ q. q.0) y in
      subst (λ (x : Span → Expr). Spelt.is_call (x here) ≡ true) (sym (fold-roll-PEForm (Span → Expr) Expr (ℕ × Expr) (eform_printed prog) (λ e. e.form e.span) (λ f. (f.field, f.value)) l))
      (call_layer l (sym (fold-roll-PEForm Bool Bool (Unit {0}) form_calls (λ p. p.form) (λ p. tt) l) ∙ is) here))
      (λ p h is.
      ap Spelt.is_call (fold-roll-PExpr (Span → Expr) Expr (ℕ × Expr) (eform_printed prog) (λ e. e.form e.span) (λ f. (f.field, f.value)) (record { span = p.span; ty = p.ty; form = p.form }))
      ∙ h (sym (fold-roll-PExpr Bool Bool (Unit {0}) form_calls (λ p. p.form) (λ p. tt) (record { span = p.span; ty = p.ty; form = p.form })) ∙ is) p.span)
      (λ q h. tt)

  -- A target is printed as a target.

  module _ (s : List Variable) where
    abbrev pub form_target : EForm → Option Ty
    form_target = para-EForm (Option Ty) (Option Ty) (Unit {0}) (eform_target context s) (λ x. x.form.1) (λ x. tt)

    abbrev pub field_target : NewField → Unit {0}
    field_target = para-NewField (Option Ty) (Option Ty) (Unit {0}) (eform_target context s) (λ x. x.form.1) (λ x. tt)

    abbrev pub targets_of : E.EForm-F EForm Expr NewField → E.EForm-F (EForm × Option Ty) (Expr × Option Ty) (NewField × Unit {0})
    targets_of = map-EForm EForm Expr NewField (EForm × Option Ty) (Expr × Option Ty) (NewField × Unit {0}) (λ f. (f, form_target f)) (λ e. (e, target_type context s e)) (λ x. (x, field_target x))

    pub target_at : (e : Expr) (l : E.EForm-F EForm Expr NewField) → e.form ≡ roll-EForm l → target_type context s e ≡ eform_target context s (targets_of l)
    target_at e l is =
        para-roll-Expr (Option Ty) (Option Ty) (Unit {0}) (eform_target context s) (λ x. x.form.1) (λ x. tt) (record { span = e.span; form = e.form })
        ∙ ap form_target is
        ∙ para-roll-EForm (Option Ty) (Option Ty) (Unit {0}) (eform_target context s) (λ x. x.form.1) (λ x. tt) l

    pub no_target : (e : Expr) (l : E.EForm-F EForm Expr NewField) (u : Ty) → e.form ≡ roll-EForm l → eform_target context s (targets_of l) ≡ None → target_type context s e ≡ Some u → ⊥
    no_target e l u is none h = let k : None ≡ Some u = sym none ∙ sym (target_at e l is) ∙ h in cc

    abbrev FormPlace : PEForm → Type 0
    FormPlace f = (t : Option Ty) (e : Expr) → FormMeans context s f t e → (u : Ty) → target_type context s e ≡ Some u → (here : Span) → asks eform_is_place (form_shown_expr prog context f here) ≡ true

    abbrev ExprPlace : PExpr → Type 0
    ExprPlace p = (e : Expr) → Means context s p e → (u : Ty) → target_type context s e ≡ Some u → asks eform_is_place (printed_expr prog p) ≡ true

    abbrev PlaceParts : Type 0
    PlaceParts = P.PEForm-F ((f : PEForm) × FormPlace f) ((p : PExpr) × ExprPlace p) (PField × Unit {0})

    abbrev place_parts : PlaceParts → P.PEForm-F PEForm PExpr PField
    place_parts y = map-PEForm ((f : PEForm) × FormPlace f) ((p : PExpr) × ExprPlace p) (PField × Unit {0}) PEForm PExpr PField (λ q. q.0) (λ q. q.0) (λ q. q.0) y

    place_layer : (y : PlaceParts) (t : Option Ty) (e : Expr) → rule context s (place_parts y) t e → (u : Ty) → target_type context s e ≡ Some u → (here : Span) → asks eform_is_place (eform_printed prog (printed_of (place_parts y)) here) ≡ true
    place_layer (P.Var slot x) t e h u m here = asks_at eform_is_place here (eform.Word x) (E.Word x) (eform.rolls-Word x)
    place_layer (P.Const c) t e h u m here = asks_at eform_is_place here (eform.Word (R.const_name prog c)) (E.Word (R.const_name prog c)) (eform.rolls-Word (R.const_name prog c))
    place_layer (P.Member q k i) t e h u m here =
        let x = printed_expr prog q.0 in
        let n = R.field_name prog k i in
        let b = bind_some (target_type context s h.0) _ u (sym (target_at e (E.Member h.0 h.1) (h.2 ∙ sym (eform.rolls-Member h.0 h.1))) ∙ m) in
        asks_at eform_is_place here (eform.Member x n) (E.Member x n) (eform.rolls-Member x n) ∙ q.1 h.0 h.3 b.0 b.1
    place_layer (P.Index q j) t e h u m here =
        let x = printed_expr prog q.0 in
        let y = printed_expr prog j.0 in
        let b = bind_some (target_type context s h.0) _ u (sym (target_at e (E.Index h.0 h.1) (h.2 ∙ sym (eform.rolls-Index h.0 h.1))) ∙ m) in
        asks_at eform_is_place here (eform.Index x y) (E.Index x y) (eform.rolls-Index x y) ∙ q.1 h.0 h.3 b.0 b.1
    place_layer (P.ToInt q) t e h u m here = q.1 e h.0 u m
    place_layer (P.Pad q) t e h u m here = q.1 e h.0 u m
    place_layer (P.Number n) t e h u m here = absurd (no_target e (E.Number n) u (h.0 ∙ sym (eform.rolls-Number n)) refl m)
    place_layer P.True t e h u m here = absurd (no_target e E.True u (h.0 ∙ sym eform.rolls-True) refl m)
    place_layer P.False t e h u m here = absurd (no_target e E.False u (h.0 ∙ sym eform.rolls-False) refl m)
    place_layer P.Null t e h u m here = absurd (no_target e E.Null u (h.0 ∙ sym eform.rolls-Null) refl m)
    place_layer (P.Hole n) t e h u m here = absurd (no_target e (E.Hole n) u (h.0 ∙ sym (eform.rolls-Hole n)) refl m)
    place_layer (P.Pattern qs) t e h u m here = absurd (no_target e (E.Pattern h.0 h.1) u (h.2 ∙ sym (eform.rolls-Pattern h.0 h.1)) refl m)
    place_layer (P.Paren q) t e h u m here = absurd (no_target e (E.Paren h.0) u (h.1 ∙ sym (eform.rolls-Paren h.0)) refl m)
    place_layer (P.Call g qs) t e h u m here = absurd (no_target e (E.Call h.0 h.1) u (h.2 ∙ sym (eform.rolls-Call h.0 h.1)) refl m)
    place_layer (P.New k qs) t e h u m here = absurd (no_target e (E.New h.0 h.1) u (h.2 ∙ sym (eform.rolls-New h.0 h.1)) refl m)
    place_layer (P.Braces qs) t e h u m here = absurd (no_target e (E.Braces h.0) u (h.1 ∙ sym (eform.rolls-Braces h.0)) refl m)
    place_layer (P.Slice q j n) t e h u m here = absurd (no_target e (E.Slice h.0 h.1 h.2) u (h.3 ∙ sym (eform.rolls-Slice h.0 h.1 h.2)) refl m)
    place_layer (P.Unary o q) t e h u m here = absurd (no_target e (E.Unary h.0 h.1) u (h.2 ∙ sym (eform.rolls-Unary h.0 h.1)) refl m)
    place_layer (P.Binary o q j) t e h u m here = absurd (no_target e (E.Binary h.0 h.1 h.2) u (h.3 ∙ sym (eform.rolls-Binary h.0 h.1 h.2)) refl m)
    place_layer (P.Cond z q j) t e h u m here = absurd (no_target e (E.Cond h.0 h.1 h.2) u (h.3 ∙ sym (eform.rolls-Cond h.0 h.1 h.2)) refl m)

    place_printed : (p : PExpr) → ExprPlace p
    place_printed = pexpr_law FormPlace ExprPlace (λ q. Unit {0})
        (λ y t e m u is here.
        subst (λ (x : Span → Expr). asks eform_is_place (x here) ≡ true) (sym (fold-roll-PEForm (Span → Expr) Expr (ℕ × Expr) (eform_printed prog) (λ e. e.form e.span) (λ f. (f.field, f.value)) (place_parts y)))
        (place_layer y t e (subst (λ (M : EFormRule). M t e) (form_means_are context s (place_parts y)) m) u is here))
        (λ p h e m u is.
        ap (asks eform_is_place) (fold-roll-PExpr (Span → Expr) Expr (ℕ × Expr) (eform_printed prog) (λ e. e.form e.span) (λ f. (f.field, f.value)) (record { span = p.span; ty = p.ty; form = p.form }))
        ∙ h p.ty e (means_parts context s p e m).1 u is p.span)
        (λ q h. tt)

    -- Expressions of statements

    at_good : (t : Ty) (p : PExpr) (e : Expr) → IsAt context s t p e → expr_placed e ≡ true → expr_patterns prog p ≡ true → expr_readable prog p ≡ true
    at_good t p e m h b = expr_good prog context s p e m.means h b

    any_good : (t : Ty) (p : Option PExpr) (e : Option Expr) → AnyAt context s t p e → any_placed e ≡ true → any_patterns prog p ≡ true → any_readable prog p ≡ true
    any_good t None None m h b = refl
    any_good t (Some p) (Some e) m h b = at_good t p e m h b
    any_good t None (Some e) m h b = absurd m
    any_good t (Some p) None m h b = absurd m

    target_good : (t : Ty) (p : PExpr) (e : Expr) → IsTarget context s t p e → expr_placed e ≡ true → expr_patterns prog p ≡ true → target_readable prog p ≡ true
    target_good t p e (inl m) h b = both _ _ (or_left _ _ (place_printed p e (m.is_at).means t m.target)) (at_good t p e m.is_at h b)
    target_good t p e (inr m) h b =
        let es = map (printed_expr prog) m.parts in
        let strings : all_placed (map place_of m.strings) ≡ true = ap (λ (p : Place). p.placed) (sym (place_at e (E.Pattern m.pattern m.strings) (m.tree ∙ sym (eform.rolls-Pattern m.pattern m.strings)))) ∙ h in
        let made : printed_expr prog p ≡ R.at (eform.Pattern (choice_of es) es) e.span = ap (printed_expr prog) m.made ∙ printed_at prog context e.span (Some t) (pform.Pattern m.parts) (P.Pattern m.parts) (pform.rolls-Pattern m.parts) in
        let shown : is_target (printed_expr prog p) ≡ true = ap is_target made ∙ or_right _ _ (asks_at eform_is_pattern e.span (eform.Pattern (choice_of es) es) (E.Pattern (choice_of es) es) (eform.rolls-Pattern (choice_of es) es)) in
        let pats = sym (patterns_at prog context s e.span (Some t) (pform.Pattern m.parts) (P.Pattern m.parts) (pform.rolls-Pattern m.parts)) ∙ ap (expr_patterns prog) (sym m.made) ∙ b in
        let few = both_true (are_strings prog (map (λ q. (q, expr_patterns prog q)) m.parts)) _ pats in
        both _ _ shown
        (ap (expr_readable prog) m.made
        ∙ readable_at prog context s e.span (Some t) (pform.Pattern m.parts) (P.Pattern m.parts) (pform.rolls-Pattern m.parts)
        ∙ strings_good prog context s m.parts t (kept_targets context s t m.strings) m.kept (kept_fine prog context s t m.strings strings) few.0)

  module _ (result : Option Ty) where
    count_good : (s : List Variable) (p : PExpr) (e : Expr) → CountMeans context result s p e → expr_placed e ≡ true → expr_patterns prog p ≡ true → expr_readable prog p ≡ true
    count_good s p e (inl m) h b = at_good s int p e m.2 h b
    count_good s p e (inr m) h b =
        let n = m.0 in
        ap (expr_readable prog) m.3 ∙ readable_at prog context s e.span (Some int) (pform.Number n) (P.Number n) (pform.rolls-Number n)

    return_good : (s : List Variable) (t : Option Ty) (p : Option PExpr) (e : Option Expr) → ReturnMeans context result s t p e → any_placed e ≡ true → any_patterns prog p ≡ true → any_readable prog p ≡ true
    return_good s None None None m h b = refl
    return_good s (Some t) (Some p) (Some e) m h b = at_good s t p e m h b
    return_good s None None (Some e) m h b = absurd m
    return_good s None (Some p) None m h b = absurd m
    return_good s None (Some p) (Some e) m h b = absurd m
    return_good s (Some t) None None m h b = absurd m
    return_good s (Some t) None (Some e) m h b = absurd m
    return_good s (Some t) (Some p) None m h b = absurd m

    -- Statements

    abbrev act_patterned : PForm → Bool
    act_patterned = fold-PForm Bool Bool (form_patterns prog) (λ s. s.form)

    abbrev act_good : PForm → Bool
    act_good = fold-PForm Bool Bool (form_readable prog) (λ s. s.form)

    abbrev ActGood : PForm → Type 0
    ActGood a = (from : ℕ) (s : List Variable) (f : Form) → ActMeans context result a from s f → act_held f ≡ true → act_patterned a ≡ true → act_good a ≡ true

    abbrev StmtGood : PStmt → Type 0
    StmtGood p = (from : ℕ) (s : List Variable) (e : Stmt) → StmtMeans context result p from s e → stmt_held e ≡ true → stmt_patterns prog p ≡ true → stmt_readable prog p ≡ true

    abbrev Met : Type 0
    Met = (p : PStmt) × StmtGood p

    abbrev down : S.PForm-F ((a : PForm) × ActGood a) Met → S.PForm-F PForm PStmt
    down y = map-PForm ((a : PForm) × ActGood a) Met PForm PStmt (λ q. q.0) (λ q. q.0) y

    abbrev firsts : List Met → List PStmt
    firsts qs = map (λ (q : Met). q.0) qs

    of_act : (l : S.PForm-F PForm PStmt) → ((from : ℕ) (s : List Variable) (f : Form) → act_rule context result l from s f → act_held f ≡ true → form_patterns prog (map-PForm PForm PStmt Bool Bool act_patterned (stmt_patterns prog) l) ≡ true → form_readable prog (map-PForm PForm PStmt Bool Bool act_good (stmt_readable prog) l) ≡ true) → ActGood (roll-PForm l)
    of_act l k from s f m h b =
        fold-roll-PForm Bool Bool (form_readable prog) (λ s. s.form) l
        ∙ k from s f (subst (λ (R : FormRule). R from s f) (act_means_are context result l) m) h (sym (fold-roll-PForm Bool Bool (form_patterns prog) (λ s. s.form) l) ∙ b)

    -- statements that follow each other
    block_good : (from : ℕ) (s : List Variable) (qs : List Met) (es : List Stmt) → BlockMeans (λ p. p) (StmtMeans context result) from s (firsts qs) es → list_all stmt_held es ≡ true → list_all is_yes (map (stmt_patterns prog) (firsts qs)) ≡ true → list_all is_yes (map (stmt_readable prog) (firsts qs)) ≡ true
    block_good from s [] [] m h b = refl
    block_good from s (q ∷ qs) (e ∷ es) m h b =
        let k = both_true (stmt_held e) (list_all stmt_held es) h in
        let j = both_true (stmt_patterns prog q.0) _ b in
        both _ _ (q.1 from s e m.0 k.0 j.0) (block_good from (after q.0 s) qs es m.1 k.1 j.1)
    block_good from s [] (e ∷ es) m h b = absurd m
    block_good from s (q ∷ qs) [] m h b = absurd m

    copy_good : (from : ℕ) (s : List Variable) (qs : List Met) (e : Stmt) → OneMeans (StmtMeans context result) from s (firsts qs) e → stmt_held e ≡ true → list_all is_yes (map (stmt_patterns prog) (firsts qs)) ≡ true → list_all is_yes (map (stmt_readable prog) (firsts qs)) ≡ true
    copy_good from s [] e m h b = absurd m
    copy_good from s (q ∷ []) e m h b = both _ _ (q.1 from s e m h (both_true (stmt_patterns prog q.0) _ b).0) refl
    copy_good from s (q ∷ r ∷ qs) e m h b = absurd m

    stmt_good : (p : PStmt) → StmtGood p
    stmt_good = pstmt_law ActGood StmtGood layer in_stmt
      where
        in_stmt : (p : PStmt) → ActGood p.form → StmtGood p
        in_stmt p k from s e m h b =
            let r = subst (λ (R : StmtRule). R from s e) (stmt_means_is context result p) m in
            fold-roll-PStmt Bool Bool (form_readable prog) (λ s. s.form) (record { span = p.span; form = p.form })
            ∙ k from s e.form r.1 (sym (stmt_held_is e) ∙ h) (sym (fold-roll-PStmt Bool Bool (form_patterns prog) (λ s. s.form) (record { span = p.span; form = p.form })) ∙ b)

        layer : (y : S.PForm-F ((a : PForm) × ActGood a) Met) → ActGood (roll-PForm (down y))
        layer (S.Block qs) = of_act (S.Block (firsts qs)) (λ from s f r h b. block_good (length s) s qs r.0 r.2 (stmts_held r.0 (held_in f _ (F.Block r.0) r.1 (form.rolls-Block r.0) h)) b)
        layer (S.Declare slot x t v) = of_act (S.Declare slot x t v) (λ from s f r h b.
            let k = both_true (declared_placed r.1) true (held_in f _ (F.Declare r.0 (r.1 ∷ [])) r.2 (form.rolls-Declare r.0 (r.1 ∷ [])) h) in
            any_good s t v (r.1).value (r.3).value k.0 b)
        layer (S.Assign p q) = of_act (S.Assign p q) (λ from s f r h b.
            let k = both_true (expr_placed r.0) (value_held r.0 r.1) (held_in f _ (F.Assign r.0 r.1) r.2 (form.rolls-Assign r.0 r.1) h) in
            let j = both_true (expr_patterns prog p) (expr_patterns prog q) b in
            both _ _ (target_good s r.3 p r.0 (r.4).target k.0 j.0) (at_good s r.3 q r.1 (r.4).value (value_fine prog context s r.3 p r.0 r.1 (r.4).target k.1) j.1))
        layer (S.Call p) = of_act (S.Call p) (λ from s f r h b. both _ _ (call_printed p r.2) (expr_good prog context s p r.0 r.3 (held_in f _ (F.Call r.0) r.1 (form.rolls-Call r.0) h) b))
        layer (S.If p a None) = of_act (S.If p a.0 None) (λ from s f r h b.
            let k = both_true _ _ (held_in f _ (F.If r.0 r.1 r.2) r.3 (form.rolls-If r.0 r.1 r.2) h) in
            let j = both_true (stmt_held r.1) _ k.1 in
            let i = both_true (expr_patterns prog p) (stmt_patterns prog a.0 && true) b in
            let n = both_true (stmt_patterns prog a.0) true i.1 in
            both _ _ (at_good s bit p r.0 r.4 k.0 i.0) (both _ _ (a.1 from s r.1 r.5 j.0 n.0) refl))
        layer (S.If p a (Some c)) = of_act (S.If p a.0 (Some c.0)) (λ from s f r h b. some from s f r.0 r.1 r.2 r.3 r.4 r.5 r.6 h b)
          where
            some : (from : ℕ) (s : List Variable) (f : Form) (x : Expr) (y : Stmt) (z : Option Stmt) → f ≡ form.If x y z → IsAt context s bit p x → StmtMeans context result a.0 from s y → AnyMeans (StmtMeans context result) from s (Some c.0) z → act_held f ≡ true → (expr_patterns prog p && (stmt_patterns prog a.0 && stmt_patterns prog c.0)) ≡ true → (expr_readable prog p && (stmt_readable prog a.0 && stmt_readable prog c.0)) ≡ true
            some from s f x y None is m n o h b = absurd o
            some from s f x y (Some z) is m n o h b =
                let k = both_true _ _ (held_in f _ (F.If x y (Some z)) is (form.rolls-If x y (Some z)) h) in
                let j = both_true (stmt_held y) (stmt_held z) k.1 in
                let i = both_true (expr_patterns prog p) (stmt_patterns prog a.0 && stmt_patterns prog c.0) b in
                let g = both_true (stmt_patterns prog a.0) (stmt_patterns prog c.0) i.1 in
                both _ _ (at_good s bit p x m k.0 i.0) (both _ _ (a.1 from s y n j.0 g.0) (c.1 from s z o j.1 g.1))
        layer (S.While p a) = of_act (S.While p a.0) (λ from s f r h b.
            let k = both_true _ _ (held_in f _ (F.While r.0 r.1) r.2 (form.rolls-While r.0 r.1) h) in
            let i = both_true (expr_patterns prog p) (stmt_patterns prog a.0) b in
            both _ _ (at_good s bit p r.0 r.3 k.0 i.0) (a.1 from s r.1 r.4 k.1 i.1))
        layer (S.Return v) = of_act (S.Return v) (λ from s f r h b. return_good s result v r.0 r.2 (held_in f _ (F.Return r.0) r.1 (form.rolls-Return r.0) h) b)
        layer (S.Assert p) = of_act (S.Assert p) (λ from s f r h b. at_good s bit p r.0 r.2 (held_in f _ (F.Assert r.0) r.1 (form.rolls-Assert r.0) h) b)
        layer (S.Assume p) = of_act (S.Assume p) (λ from s f r h b. at_good s bit p r.0 r.2 (held_in f _ (F.Assume r.0) r.1 (form.rolls-Assume r.0) h) b)
        layer (S.Minimize p) = of_act (S.Minimize p) (λ from s f r h b. at_good s int p r.0 r.2 (held_in f _ (F.Minimize r.0) r.1 (form.rolls-Minimize r.0) h) b)
        layer (S.Repeat p qs) = of_act (S.Repeat p (firsts qs)) (λ from s f r h b.
            let k = both_true _ _ (held_in f _ (F.Repeat r.0 r.1) r.2 (form.rolls-Repeat r.0 r.1) h) in
            let i = both_true (expr_patterns prog p) (list_all is_yes (map (stmt_patterns prog) (firsts qs))) b in
            both _ _ (count_good s p r.0 r.3 k.0 i.0) (copy_good from s qs r.1 r.4 k.1 i.1))
        layer (S.MinRepeat qs) = of_act (S.MinRepeat (firsts qs)) (λ from s f r h b. copy_good from s qs r.0 r.2 (held_in f _ (F.MinRepeat r.0) r.1 (form.rolls-MinRepeat r.0) h) b)
        layer (S.Reorder qs) = of_act (S.Reorder (firsts qs)) (λ from s f r h b. block_good (length s) s qs r.0 r.3 (stmts_held r.0 (held_in f _ (F.Reorder r.0) r.1 (form.rolls-Reorder r.0) h)) b)

    body_good : (from : ℕ) (s : List Variable) (ps : List PStmt) (es : List Stmt) → BlockMeans (λ p. p) (StmtMeans context result) from s ps es → list_all stmt_held es ≡ true → list_all (stmt_patterns prog) ps ≡ true → list_all (stmt_readable prog) ps ≡ true
    body_good from s [] [] m h b = refl
    body_good from s (p ∷ ps) (e ∷ es) m h b =
        let k = both_true (stmt_held e) (list_all stmt_held es) h in
        let j = both_true (stmt_patterns prog p) _ b in
        both _ _ (stmt_good p from s e m.0 k.0 j.0) (body_good from (after p s) ps es m.1 k.1 j.1)
    body_good from s [] (e ∷ es) m h b = absurd m
    body_good from s (p ∷ ps) [] m h b = absurd m

-- Items

module _ (prog : Prog) (bounds : Bounds) where
  abbrev context_of : List Known → Context
  context_of known = record { bounds = bounds; top = top_of prog; known = known }

  abbrev ConstsPatterned : List ConstDef → Type 0
  ConstsPatterned cs = list_all (λ (c : ConstDef). expr_patterns prog c.value) cs ≡ true

  record AreGood (cs : List ConstDef) (fs : List Fun) : Type 0 where
    consts : list_all (λ (c : ConstDef). expr_readable prog c.value) cs ≡ true
    funs : list_all (fun_readable prog) fs ≡ true

  items_good : (known : List Known) (is : List Item) (ds : List StructDef) (cs : List ConstDef) (fs : List Fun) → ItemsMean bounds (top_of prog) known is ds cs fs → list_all item_held is ≡ true → ConstsPatterned cs → list_all (fun_patterns prog) fs ≡ true → AreGood cs fs
  items_good known [] [] [] [] m h a b = record { consts = refl; funs = refl }
  items_good known (item.Struct x ys ∷ is) (d ∷ ds) cs fs m h a b = items_good known is ds cs fs m.1 (both_true (item_held (item.Struct x ys)) (list_all item_held is) h).1 a b
  items_good known (item.Const x e ∷ is) ds (c ∷ cs) fs m h a b =
      let k = both_true (item_held (item.Const x e)) (list_all item_held is) h in
      let j = both_true (expr_patterns prog c.value) _ a in
      let rest = items_good (known ++ record { name = x; number = m.0 } ∷ []) is ds cs fs m.2 k.1 j.1 b in
      record { consts = both _ _ (expr_good prog (context_of known) [] c.value e m.1.value.means k.0 j.0) rest.consts; funs = rest.funs }
  items_good known (item.Fun g ∷ is) ds cs (f ∷ fs) m h a b =
      let k = both_true (item_held (item.Fun g)) (list_all item_held is) h in
      let j = both_true (fun_patterns prog f) _ b in
      let rest = items_good known is ds cs fs m.1 k.1 a j.1 in
      record { consts = rest.consts; funs = both _ _ (body_good prog (context_of known) f.result 0 (parameters f.params) f.body g.body m.0.body k.0 j.0) rest.funs }
  items_good known [] [] [] (f ∷ fs) m h a b = absurd m
  items_good known [] [] (c ∷ cs) fs m h a b = absurd m
  items_good known [] (d ∷ ds) cs fs m h a b = absurd m
  items_good known (item.Pragma word text ∷ is) ds cs fs m h a b = absurd m
  items_good known (item.Struct x ys ∷ is) [] cs fs m h a b = absurd m
  items_good known (item.Const x e ∷ is) ds [] fs m h a b = absurd m
  items_good known (item.Fun g ∷ is) ds cs [] m h a b = absurd m

pub programs_are_readable : ProgramsReadable
programs_are_readable bounds prog typed =
    let k = both_true (list_all (λ (c : ConstDef). expr_patterns prog c.value) prog.consts) (list_all (fun_patterns prog) prog.funs) typed.patterns in
    let all = items_good prog bounds [] (plain typed.tree).items prog.structs prog.consts prog.funs (typed.types).items (items_held (typed.tree).items typed.placed) k.0 k.1 in
    both _ _ all.consts all.funs
