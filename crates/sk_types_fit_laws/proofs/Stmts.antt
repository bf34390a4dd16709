-- What a statement means has numbers of what is there.
use Rattle.std.proofs.Common.{◌≡◌, ℕ, suc, ◌+◌, ◌≤◌, Bool, true, false, List, [], ◌∷◌, length, Option, Some, None, refl, sym, ap, subst, ◌∙◌, arith, inl, inr, length-append}
use Rattle.std.specs.Prelude.{◌&&◌, max, nat_lt, map, if◌then◌else◌}
use Rattle.std.specs.List.{list_all}
use Rattle.std.proofs.lemmas.Bool.{lt-ltb}
use Rattle.std.proofs.lemmas.List.Folds.{list_all-map, list_all-append}
use Rattle.sk_base.specs.declared.bounds.Bounds.{Bounds}
use Rattle.sk_tree.specs.declared.expr.Expr.{Expr}
use Rattle.sk_tree.specs.declared.expr.EForm.{EForm}
use Rattle.sk_tree.specs.declared.expr.EForm.TheVariants as eform
use Rattle.sk_tree.specs.declared.expr.EForm.TheOpen as E
use Rattle.sk_tree.specs.declared.expr.EForm.TheFolds.{map-EForm, para-EForm, para-NewField, para-roll-EForm, para-roll-Expr}
use Rattle.sk_tree.specs.declared.expr.NewField.{NewField}
use Rattle.sk_tree.specs.declared.pattern.Pattern.{Pattern}
use Rattle.sk_tree.specs.declared.stmt.Stmt.{Stmt}
use Rattle.sk_tree.specs.declared.stmt.Form.{Form}
use Rattle.sk_tree.specs.declared.stmt.Form.TheVariants as form
use Rattle.sk_tree.specs.declared.stmt.Form.TheOpen as F
use Rattle.sk_tree.specs.declared.stmt.Form.TheViews.{roll-Form}
use Rattle.sk_tree.specs.declared.stmt.Form.TheFolds.{map-Form, fold-Form, fold-roll-Form, fold-roll-Stmt}
use Rattle.sk_tree.specs.declared.stmt.Declared.{Declared}
use Rattle.sk_tree.specs.declared.item.TyTree.{TyTree}
use Rattle.sk_tree.specs.Names.{any_names, declared_names, form_names, stmt_names, is_yes as tree_yes}
use Rattle.sk_prog.specs.Names.{is_yes}
use Rattle.sk_prog.specs.declared.ty.Ty.{Ty}
use Rattle.sk_prog.specs.declared.ids.StructId.{StructId}
use Rattle.sk_prog.specs.declared.expr.PExpr.{PExpr}
use Rattle.sk_prog.specs.declared.expr.PEForm.{PEForm}
use Rattle.sk_prog.specs.declared.expr.PField.{PField}
use Rattle.sk_prog.specs.declared.expr.PEForm.TheVariants as pform
use Rattle.sk_prog.specs.declared.expr.PEForm.TheOpen as P
use Rattle.sk_prog.specs.declared.expr.PEForm.TheViews.{roll-PEForm}
use Rattle.sk_prog.specs.declared.expr.PEForm.TheFolds.{map-PEForm, fold-PEForm, fold-PField, fold-roll-PEForm, fold-roll-PExpr}
use Rattle.sk_prog.specs.declared.stmt.PStmt.{PStmt}
use Rattle.sk_prog.specs.declared.stmt.PForm.{PForm}
use Rattle.sk_prog.specs.declared.stmt.PForm.TheOpen as S
use Rattle.sk_prog.specs.declared.stmt.PForm.TheViews.{roll-PForm}
use Rattle.sk_prog.specs.declared.stmt.PForm.TheFolds.{map-PForm, fold-PForm, fold-roll-PForm, fold-roll-PStmt}
use Rattle.sk_prog.specs.declared.prog.Prog.{Prog}
use Rattle.sk_prog.specs.Fits.{is_name, ty_fits, any_ty_fits, eform_fits, expr_fits, any_expr_fits, form_fits, stmt_fits}
use Rattle.sk_types_rules.specs.declared.rules.Own.TheVariants.{Firm}
use Rattle.sk_types_rules.specs.declared.scope.Variable.{Variable}
use Rattle.sk_types_rules.specs.declared.scope.Place.{Place}
use Rattle.sk_types_rules.specs.Rules.{◌>>=◌, int, bit, element_of}
use Rattle.sk_types_rules.specs.Scope.{lookup, Known, Context}
use Rattle.sk_types_rules.specs.Sorts.{reference_meant, member_of, sort, eform_target, target_type, first_target, this_or, is_some_type, kept_targets}
use Rattle.sk_types_rules.specs.Types.{EFormRule, EachMeans, Means, form_calls, is_call, IsAt, AnyAt, IsTarget, FormRule, StmtRule, BlockMeans, AnyMeans, OneMeans, CountMeans, ReturnMeans, MeansDeclare, Grows, form_after, after, Room, most_of, form_room, room, StmtMeans}
use Rattle.sk_types_rules.proofs.Layers.{FormMeans, rule, form_means_are, means_parts, ActMeans, act_rule, act_means_are, stmt_means_is}
use Rattle.sk_types_rules.proofs.Nearest.{lookup_nearest}
use Rattle.sk_types_laws.proofs.Ats.{both_true, both, expr_law, pexpr_law}
use Rattle.sk_types_laws.proofs.Scopes.{pstmt_law, after_form, after_form_is, after_is}
use Rattle.sk_types_fit_laws.proofs.Found.{top, written_fits}
use Rattle.sk_types_fit_laws.proofs.Owns.{all_get, TopFits, variable_fit, element_fits, member_fits, signature_is}
use Rattle.sk_types_fit_laws.proofs.Exprs.{named, all_named, form_good, field_good, form_good_is, expr_good_is, fit}
use Rattle.sk_types_fit_laws.proofs.Exprs.{names_in as expr_names_in}

-- Names of statements

abbrev pub stmt_named : Stmt → Bool
stmt_named = stmt_names is_name

abbrev pub form_named : Form → Bool
form_named = fold-Form Bool Bool (form_names is_name) (λ s. s.form)

pub stmt_named_is : (e : Stmt) → stmt_named e ≡ form_named e.form
stmt_named_is e = fold-roll-Stmt Bool Bool (form_names is_name) (λ s. s.form) (record { span = e.span; form = e.form })

pub names_in : (f g : Form) (l : F.Form-F Form Stmt) → f ≡ g → roll-Form l ≡ g → form_named f ≡ true → form_names is_name (map-Form Form Stmt Bool Bool form_named stmt_named l) ≡ true
names_in f g l is to h = sym (fold-roll-Form Bool Bool (form_names is_name) (λ s. s.form) l) ∙ ap form_named (to ∙ sym is) ∙ h

stmts_named : (es : List Stmt) → list_all tree_yes (map stmt_named es) ≡ true → list_all stmt_named es ≡ true
stmts_named es h = sym (list_all-map tree_yes stmt_named es) ∙ h

-- Room

pub most_grows : (rs : List Room) (n : ℕ) → n ≤ most_of rs n
most_grows [] n = omega arith
most_grows (r ∷ rs) n = let more = most_grows rs (r.adds + n) in omega arith

-- a statement adds as many variables as it takes room for
abbrev pub act_room : PForm → Room
act_room = fold-PForm Room Room form_room (λ s. s.form)

act_room_is : (l : S.PForm-F PForm PStmt) → act_room (roll-PForm l) ≡ form_room (map-PForm PForm PStmt Room Room act_room room l)
act_room_is l = fold-roll-PForm Room Room form_room (λ s. s.form) l

room_is : (p : PStmt) → room p ≡ act_room p.form
room_is p = fold-roll-PStmt Room Room form_room (λ s. s.form) (record { span = p.span; form = p.form })

abbrev Counted : Grows → Room → Type 0
Counted f r = (s : List Variable) → length (f s) ≡ r.adds + length s

abbrev One : Type 0
One = (p : PStmt) × Counted (after p) (room p)

abbrev One_form : Type 0
One_form = (f : PForm) × Counted (after_form f) (act_room f)

abbrev counted_parts : S.PForm-F One_form One → S.PForm-F PForm PStmt
counted_parts y = map-PForm One_form One PForm PStmt (λ q. q.0) (λ q. q.0) y

counted_layer : (y : S.PForm-F One_form One) → Counted (form_after (map-PForm PForm PStmt Grows Grows after_form after (counted_parts y))) (form_room (map-PForm PForm PStmt Room Room act_room room (counted_parts y)))
counted_layer (S.Declare slot x t value) = λ s. omega (arith, length-append s (record { name = x; ty = t } ∷ []))
counted_layer _ = λ s. omega arith

counted : (p : PStmt) → Counted (after p) (room p)
counted = pstmt_law (λ f. Counted (after_form f) (act_room f)) (λ p. Counted (after p) (room p))
    (λ y s. ap (λ (f : Grows). length (f s)) (after_form_is (counted_parts y)) ∙ counted_layer y s ∙ ap (λ (r : Room). r.adds + length s) (sym (act_room_is (counted_parts y))))
    (λ p h s. ap (λ (f : Grows). length (f s)) (after_is p) ∙ h s ∙ ap (λ (r : Room). r.adds + length s) (sym (room_is p)))

module _ (prog : Prog) (good : TopFits prog) (bounds : Bounds) (known : List Known) where
  abbrev context : Context
  context = record { bounds = bounds; top = top prog; known = known }

  abbrev Vars : List Variable → Type 0
  Vars s = list_all (variable_fit prog) s ≡ true

  -- Targets

  module _ (s : List Variable) (vars : Vars s) where
    abbrev form_target : EForm → Option Ty
    form_target = para-EForm (Option Ty) (Option Ty) (Unit {0}) (eform_target context s) (λ x. x.form.1) (λ x. tt)

    abbrev field_target : NewField → Unit {0}
    field_target = para-NewField (Option Ty) (Option Ty) (Unit {0}) (eform_target context s) (λ x. x.form.1) (λ x. tt)

    variable_fits : (x : List ℕ) (o : Option Place) → lookup s x ≡ o → any_ty_fits prog (o >>= λ v. Some v.ty) ≡ true
    variable_fits x None is = refl
    variable_fits x (Some v) is = all_get (variable_fit prog) s v.slot (record { name = x; ty = v.ty }) vars (lookup_nearest s x v is).there

    referred : (o : Option Ty) (x : List ℕ) → any_ty_fits prog (o >>= λ t. member_of (top prog) (reference_meant (Firm t)) x) ≡ true
    referred None x = refl
    referred (Some t) x = member_fits prog good (reference_meant (Firm t)) x

    element_any : (t : Ty) (o : Option Ty) → element_of t ≡ o → ty_fits prog t ≡ true → any_ty_fits prog o ≡ true
    element_any t None is h = refl
    element_any t (Some u) is h = element_fits prog t u is h

    indexed : (o : Option Ty) (b : Bool) → any_ty_fits prog o ≡ true → any_ty_fits prog (o >>= λ t. if b then element_of t else None) ≡ true
    indexed None b h = refl
    indexed (Some t) true h = element_any t (element_of t) refl h
    indexed (Some t) false h = refl

    abbrev FormTarget : EForm → Type 0
    FormTarget f = any_ty_fits prog (form_target f) ≡ true

    abbrev ExprTarget : Expr → Type 0
    ExprTarget e = any_ty_fits prog (target_type context s e) ≡ true

    abbrev parts : E.EForm-F ((f : EForm) × FormTarget f) ((e : Expr) × ExprTarget e) (NewField × Unit {0}) → E.EForm-F EForm Expr NewField
    parts y = map-EForm ((f : EForm) × FormTarget f) ((e : Expr) × ExprTarget e) (NewField × Unit {0}) EForm Expr NewField (λ q. q.0) (λ q. q.0) (λ q. q.0) y

    target_layer : (y : E.EForm-F ((f : EForm) × FormTarget f) ((e : Expr) × ExprTarget e) (NewField × Unit {0})) → any_ty_fits prog (eform_target context s (map-EForm EForm Expr NewField (EForm × Option Ty) (Expr × Option Ty) (NewField × Unit {0}) (λ f. (f, form_target f)) (λ e. (e, target_type context s e)) (λ x. (x, field_target x)) (parts y))) ≡ true
    target_layer (E.Word x) = variable_fits x (lookup s x) refl
    target_layer (E.Member e x) = referred (target_type context s e.0) x
    target_layer (E.Index e i) = indexed (target_type context s e.0) ((sort context s i.0).at int) e.1
    target_layer _ = refl

    -- the struct of a target's type
    targets_fit : (e : Expr) → ExprTarget e
    targets_fit = expr_law FormTarget ExprTarget (λ x. Unit {0})
        (λ y. ap (any_ty_fits prog) (para-roll-EForm (Option Ty) (Option Ty) (Unit {0}) (eform_target context s) (λ x. x.form.1) (λ x. tt) (parts y)) ∙ target_layer y)
        (λ e h. ap (any_ty_fits prog) (para-roll-Expr (Option Ty) (Option Ty) (Unit {0}) (eform_target context s) (λ x. x.form.1) (λ x. tt) (record { span = e.span; form = e.form })) ∙ h)
        (λ x h. tt)

    first_more : (o : Option Ty) (es : List Expr) → any_ty_fits prog o ≡ true → any_ty_fits prog (first_target context s es) ≡ true → any_ty_fits prog (this_or context s o (first_target context s es)) ≡ true
    first_more None es h rest = rest
    first_more (Some t) es h rest = h

    first_fits : (es : List Expr) → any_ty_fits prog (first_target context s es) ≡ true
    first_fits [] = refl
    first_fits (e ∷ es) = first_more (target_type context s e) es (targets_fit e) (first_fits es)

    kept_more : (t : Ty) (e : Expr) (es : List Expr) (b : Bool) → named e ≡ true → list_all named (kept_targets context s t es) ≡ true → list_all named (if b then e ∷ kept_targets context s t es else kept_targets context s t es) ≡ true
    kept_more t e es true h rest = both _ _ h rest
    kept_more t e es false h rest = rest

    kept_named : (t : Ty) (es : List Expr) → list_all named es ≡ true → list_all named (kept_targets context s t es) ≡ true
    kept_named t [] h = refl
    kept_named t (e ∷ es) h = let k = both_true (named e) (list_all named es) h in kept_more t e es (is_some_type (target_type context s e) t) k.0 (kept_named t es k.1)

  -- A call's type is that of a result.
  module _ (s : List Variable) where
    abbrev calls : PEForm → Bool
    calls = fold-PEForm Bool Bool (Unit {0}) form_calls (λ p. p.form) (λ p. tt)

    abbrev no_field : PField → Unit {0}
    no_field = fold-PField Bool Bool (Unit {0}) form_calls (λ p. p.form) (λ p. tt)

    abbrev FormCalls : PEForm → Type 0
    FormCalls f = calls f ≡ true → (t : Option Ty) (e : Expr) → FormMeans context s f t e → any_ty_fits prog t ≡ true

    abbrev ExprCalls : PExpr → Type 0
    ExprCalls p = is_call p ≡ true → (e : Expr) → Means context s p e → any_ty_fits prog p.ty ≡ true

    call_layer : (l : P.PEForm-F PEForm PExpr PField) → form_calls (map-PEForm PEForm PExpr PField Bool Bool (Unit {0}) calls is_call no_field l) ≡ true → (t : Option Ty) (e : Expr) → rule context s l t e → any_ty_fits prog t ≡ true
    call_layer (P.Call g ps) is t e r = ap (any_ty_fits prog) r.6 ∙ (both_true _ _ (signature_is prog good g.index r.3 r.4.there)).0
    call_layer _ is t e r = cc

    call_fits : (p : PExpr) → ExprCalls p
    call_fits = pexpr_law FormCalls ExprCalls (λ q. Unit {0})
        (λ y is t e m.
        let l = map-PEForm ((f : PEForm) × FormCalls f) ((p : PExpr) × ExprCalls p) ((q : PField) × Unit {0}) PEForm PExpr PField (λ q. q.0) (λ q. q.0) (λ q. q.0) y in
        call_layer l (sym (fold-roll-PEForm Bool Bool (Unit {0}) form_calls (λ p. p.form) (λ p. tt) l) ∙ is) t e (subst (λ (M : EFormRule). M t e) (form_means_are context s l) m))
        (λ p h is e m. h (sym (fold-roll-PExpr Bool Bool (Unit {0}) form_calls (λ p. p.form) (λ p. tt) (record { span = p.span; ty = p.ty; form = p.form })) ∙ is) p.ty e ((means_parts context s p e m).1))
        (λ x h. tt)

  module _ (result : Option Ty) (returns : any_ty_fits prog result ≡ true) (slots : ℕ) where
    -- Expressions of statements

    at_fit : (s : List Variable) → Vars s → length s ≤ slots → (t : Ty) (p : PExpr) (e : Expr) → IsAt context s t p e → ty_fits prog t ≡ true → named e ≡ true → expr_fits prog slots p ≡ true
    at_fit s vars room t p e m h n = fit prog good bounds known s vars slots room p e m.means (ap (any_ty_fits prog) m.type ∙ h) n

    any_fit : (s : List Variable) → Vars s → length s ≤ slots → (t : Ty) (p : Option PExpr) (e : Option Expr) → AnyAt context s t p e → ty_fits prog t ≡ true → any_names is_name e ≡ true → any_expr_fits prog slots p ≡ true
    any_fit s vars room t None None m h n = refl
    any_fit s vars room t (Some p) (Some e) m h n = at_fit s vars room t p e m h n
    any_fit s vars room t None (Some e) m h n = absurd m
    any_fit s vars room t (Some p) None m h n = absurd m

    each_fit : (s : List Variable) → Vars s → length s ≤ slots → (t : Ty) (ps : List PExpr) (es : List Expr) → EachMeans (λ p. p) (Means context s) t ps es → ty_fits prog t ≡ true → list_all named es ≡ true → list_all is_yes (map (expr_fits prog slots) ps) ≡ true
    each_fit s vars room t [] [] m h n = refl
    each_fit s vars room t (p ∷ ps) (e ∷ es) m h n =
        let k = both_true (named e) (list_all named es) n in
        both _ _ (fit prog good bounds known s vars slots room p e m.0 (ap (any_ty_fits prog) m.1 ∙ h) k.0) (each_fit s vars room t ps es m.2 h k.1)
    each_fit s vars room t [] (e ∷ es) m h n = absurd m
    each_fit s vars room t (p ∷ ps) [] m h n = absurd m

    target_there : (s : List Variable) → Vars s → (t : Ty) (p : PExpr) (e : Expr) → IsTarget context s t p e → ty_fits prog t ≡ true
    target_there s vars t p e (inl m) = ap (any_ty_fits prog) (sym m.target) ∙ targets_fit s vars e
    target_there s vars t p e (inr m) = ap (any_ty_fits prog) (sym m.first) ∙ first_fits s vars m.strings

    strings_named : (e : Expr) (g : Pattern) (es : List Expr) → e.form ≡ eform.Pattern g es → named e ≡ true → list_all named es ≡ true
    strings_named e g es is n = all_named es (expr_names_in e _ (E.Pattern g es) is (eform.rolls-Pattern g es) n)

    typed_ok : (e : Expr) (t : Ty) (f : PEForm) (l : P.PEForm-F PEForm PExpr PField) → roll-PEForm l ≡ f → ty_fits prog t ≡ true → eform_fits prog slots (map-PEForm PEForm PExpr PField Bool Bool (StructId → Bool) (form_good prog slots) (expr_fits prog slots) (field_good prog slots) l) ≡ true → expr_fits prog slots (record { span = e.span; ty = Some t; form = f }) ≡ true
    typed_ok e t f l is h k = expr_good_is prog slots (record { span = e.span; ty = Some t; form = f }) ∙ both _ _ h (ap (form_good prog slots) (sym is) ∙ form_good_is prog slots l ∙ k)

    number_ok : (e : Expr) (n : ℕ) → expr_fits prog slots (record { span = e.span; ty = Some int; form = pform.Number n }) ≡ true
    number_ok e n = typed_ok e int (pform.Number n) (P.Number n) (pform.rolls-Number n) refl refl

    target_fit : (s : List Variable) → Vars s → length s ≤ slots → (t : Ty) (p : PExpr) (e : Expr) → IsTarget context s t p e → named e ≡ true → expr_fits prog slots p ≡ true
    target_fit s vars room t p e (inl m) n = at_fit s vars room t p e m.is_at (target_there s vars t p e (inl m)) n
    target_fit s vars room t p e (inr m) n =
        let names = strings_named e m.pattern m.strings m.tree n in
        let h = target_there s vars t p e (inr m) in
        ap (expr_fits prog slots) m.made
        ∙ typed_ok e t (pform.Pattern m.parts) (P.Pattern m.parts) (pform.rolls-Pattern m.parts) h (each_fit s vars room t m.parts (kept_targets context s t m.strings) m.kept h (kept_named s vars t m.strings names))

    count_fit : (s : List Variable) → Vars s → length s ≤ slots → (p : PExpr) (e : Expr) → CountMeans context result s p e → named e ≡ true → expr_fits prog slots p ≡ true
    count_fit s vars room p e (inl m) n = at_fit s vars room int p e m.2 refl n
    count_fit s vars room p e (inr m) n = ap (expr_fits prog slots) m.3 ∙ number_ok e m.0

    return_fit : (s : List Variable) → Vars s → length s ≤ slots → (t : Option Ty) (p : Option PExpr) (e : Option Expr) → ReturnMeans context result s t p e → any_ty_fits prog t ≡ true → any_names is_name e ≡ true → any_expr_fits prog slots p ≡ true
    return_fit s vars room None None None m h n = refl
    return_fit s vars room (Some t) (Some p) (Some e) m h n = at_fit s vars room t p e m h n
    return_fit s vars room None None (Some e) m h n = absurd m
    return_fit s vars room None (Some p) None m h n = absurd m
    return_fit s vars room None (Some p) (Some e) m h n = absurd m
    return_fit s vars room (Some t) None None m h n = absurd m
    return_fit s vars room (Some t) None (Some e) m h n = absurd m
    return_fit s vars room (Some t) (Some p) None m h n = absurd m

    -- Variables

    abbrev ActVars : PForm → Type 0
    ActVars a = (from : ℕ) (s : List Variable) (f : Form) → ActMeans context result a from s f → Vars s → Vars (after_form a s)

    abbrev StmtVars : PStmt → Type 0
    StmtVars p = (from : ℕ) (s : List Variable) (e : Stmt) → StmtMeans context result p from s e → Vars s → Vars (after p s)

    abbrev vars_parts : S.PForm-F ((a : PForm) × ActVars a) ((p : PStmt) × StmtVars p) → S.PForm-F PForm PStmt
    vars_parts y = map-PForm ((a : PForm) × ActVars a) ((p : PStmt) × StmtVars p) PForm PStmt (λ q. q.0) (λ q. q.0) y

    vars_layer : (y : S.PForm-F ((a : PForm) × ActVars a) ((p : PStmt) × StmtVars p)) (from : ℕ) (s : List Variable) (f : Form) → act_rule context result (vars_parts y) from s f → Vars s → Vars (form_after (map-PForm PForm PStmt Grows Grows after_form after (vars_parts y)) s)
    vars_layer (S.Declare slot x t value) from s f r h =
        list_all-append (variable_fit prog) s (record { name = x; ty = t } ∷ [])
        ∙ both _ _ h (both _ _ (written_fits prog context refl s r.0 t r.3.type) refl)
    vars_layer _ from s f r h = h

    vars_after : (p : PStmt) → StmtVars p
    vars_after = pstmt_law ActVars StmtVars
        (λ y from s f m h. subst (λ (g : Grows). Vars (g s)) (sym (after_form_is (vars_parts y))) (vars_layer y from s f (subst (λ (R : FormRule). R from s f) (act_means_are context result (vars_parts y)) m) h))
        (λ p k from s e m h.
        let r = subst (λ (R : StmtRule). R from s e) (stmt_means_is context result p) m in
        subst (λ (g : Grows). Vars (g s)) (sym (after_is p)) (k from s e.form r.1 h))

    -- Statements

    abbrev act_ok : PForm → Bool
    act_ok = fold-PForm Bool Bool (form_fits prog slots) (λ s. s.form)

    abbrev stmt_ok : PStmt → Bool
    stmt_ok = stmt_fits prog slots

    act_ok_is : (l : S.PForm-F PForm PStmt) → act_ok (roll-PForm l) ≡ form_fits prog slots (map-PForm PForm PStmt Bool Bool act_ok stmt_ok l)
    act_ok_is l = fold-roll-PForm Bool Bool (form_fits prog slots) (λ s. s.form) l

    stmt_ok_is : (p : PStmt) → stmt_ok p ≡ act_ok p.form
    stmt_ok_is p = fold-roll-PStmt Bool Bool (form_fits prog slots) (λ s. s.form) (record { span = p.span; form = p.form })

    -- the variables in scope, and those to come, have slots
    pub record Roomy (s : List Variable) (need : ℕ → ℕ) : Type 0 where
      pub vars : Vars s
      pub now : length s ≤ slots
      pub most : need (length s) ≤ slots

    abbrev ActFits : PForm → Type 0
    ActFits a = (from : ℕ) (s : List Variable) (f : Form) → ActMeans context result a from s f → Roomy s (act_room a).most → form_named f ≡ true → act_ok a ≡ true

    abbrev StmtFits : PStmt → Type 0
    StmtFits p = (from : ℕ) (s : List Variable) (e : Stmt) → StmtMeans context result p from s e → Roomy s (room p).most → stmt_named e ≡ true → stmt_ok p ≡ true

    abbrev Fitted : Type 0
    Fitted = (p : PStmt) × StmtFits p

    abbrev meaning : S.PForm-F ((a : PForm) × ActFits a) Fitted → S.PForm-F PForm PStmt
    meaning y = map-PForm ((a : PForm) × ActFits a) Fitted PForm PStmt (λ q. q.0) (λ q. q.0) y

    of_act : (l : S.PForm-F PForm PStmt) → ((from : ℕ) (s : List Variable) (f : Form) → act_rule context result l from s f → Roomy s (form_room (map-PForm PForm PStmt Room Room act_room room l)).most → form_named f ≡ true → form_fits prog slots (map-PForm PForm PStmt Bool Bool act_ok stmt_ok l) ≡ true) → ActFits (roll-PForm l)
    of_act l k from s f m h n = act_ok_is l ∙ k from s f (subst (λ (R : FormRule). R from s f) (act_means_are context result l) m) (subst (λ (r : Room). Roomy s r.most) (act_room_is l) h) n

    -- statements that follow each other
    block_fit : (from : ℕ) (s : List Variable) (qs : List Fitted) (es : List Stmt) → BlockMeans (λ p. p) (StmtMeans context result) from s (map (λ q. q.0) qs) es → Roomy s (most_of (map room (map (λ (q : Fitted). q.0) qs))) → list_all stmt_named es ≡ true → list_all is_yes (map stmt_ok (map (λ (q : Fitted). q.0) qs)) ≡ true
    block_fit from s [] [] m h n = refl
    block_fit from s (q ∷ qs) (e ∷ es) m h n =
        let k = both_true (stmt_named e) (list_all stmt_named es) n in
        let rest = most_of (map room (map (λ (q : Fitted). q.0) qs)) in
        let count = counted q.0 s in
        let grows = most_grows (map room (map (λ (q : Fitted). q.0) qs)) ((room q.0).adds + length s) in
        let first : (room q.0).most (length s) ≤ slots = omega (arith, h.most) in
        let later : rest ((room q.0).adds + length s) ≤ slots = omega (arith, h.most) in
        let now : length (after q.0 s) ≤ slots = omega (arith, count, grows, later) in
        let most : rest (length (after q.0 s)) ≤ slots = subst (λ n. rest n ≤ slots) (sym count) later in
        both _ _ (q.1 from s e m.0 (record { vars = h.vars; now = h.now; most = first }) k.0)
        (block_fit from (after q.0 s) qs es m.1 (record { vars = vars_after q.0 from s e m.0 h.vars; now = now; most = most }) k.1)
    block_fit from s [] (e ∷ es) m h n = absurd m
    block_fit from s (q ∷ qs) [] m h n = absurd m

    one_fit : (from : ℕ) (s : List Variable) (qs : List Fitted) (e : Stmt) → OneMeans (StmtMeans context result) from s (map (λ q. q.0) qs) e → Roomy s (most_of (map room (map (λ (q : Fitted). q.0) qs))) → stmt_named e ≡ true → list_all is_yes (map stmt_ok (map (λ (q : Fitted). q.0) qs)) ≡ true
    one_fit from s [] e m h n = absurd m
    one_fit from s (q ∷ []) e m h n =
        let first : (room q.0).most (length s) ≤ slots = omega (arith, h.most) in
        both _ _ (q.1 from s e m (record { vars = h.vars; now = h.now; most = first }) n) refl
    one_fit from s (q ∷ r ∷ qs) e m h n = absurd m

    declared_fit : (from : ℕ) (s : List Variable) (slot : ℕ) (x : List ℕ) (t : Ty) (v : Option PExpr) (y : TyTree) (d : Declared) → MeansDeclare context result from s slot x t v y d → Vars s → length s ≤ slots → suc (length s) ≤ slots → declared_names is_name d ≡ true → (nat_lt slot slots && (is_name x && (ty_fits prog t && any_expr_fits prog slots v))) ≡ true
    declared_fit from s slot x t v y d r vars room more n =
        let k = both_true (is_name d.name) (any_names is_name d.value) n in
        let h = written_fits prog context refl s y t r.type in
        let slot_is = r.next in
        both _ _ (lt-ltb slot slots (omega (arith, slot_is, more))) (both _ _ (ap is_name r.name ∙ k.0) (both _ _ h (any_fit s vars room t v d.value r.value h k.1)))

    pub fits_stmt : (p : PStmt) → StmtFits p
    fits_stmt = pstmt_law ActFits StmtFits form_layer stmt_layer
      where
        stmt_layer : (p : PStmt) → ActFits p.form → StmtFits p
        stmt_layer p k from s e m h n =
            let r = subst (λ (R : StmtRule). R from s e) (stmt_means_is context result p) m in
            stmt_ok_is p ∙ k from s e.form r.1 (subst (λ (r : Room). Roomy s r.most) (room_is p) h) (sym (stmt_named_is e) ∙ n)

        form_layer : (y : S.PForm-F ((a : PForm) × ActFits a) Fitted) → ActFits (roll-PForm (meaning y))
        form_layer (S.Block qs) = of_act (S.Block (map (λ q. q.0) qs)) (λ from s f r h n.
            block_fit (length s) s qs r.0 r.2 h (stmts_named r.0 (names_in f _ (F.Block r.0) r.1 (form.rolls-Block r.0) n)))
        form_layer (S.Declare slot x t v) = of_act (S.Declare slot x t v) (λ from s f r h n.
            let k = both_true _ _ (names_in f _ (F.Declare r.0 (r.1 ∷ [])) r.2 (form.rolls-Declare r.0 (r.1 ∷ [])) n) in
            let d = both_true _ _ k.1 in
            declared_fit from s slot x t v r.0 r.1 r.3 h.vars h.now h.most d.0)
        form_layer (S.Assign p q) = of_act (S.Assign p q) (λ from s f r h n.
            let k = both_true _ _ (names_in f _ (F.Assign r.0 r.1) r.2 (form.rolls-Assign r.0 r.1) n) in
            both _ _ (target_fit s h.vars h.now r.3 p r.0 r.4.target k.0) (at_fit s h.vars h.now r.3 q r.1 r.4.value (target_there s h.vars r.3 p r.0 r.4.target) k.1))
        form_layer (S.Call p) = of_act (S.Call p) (λ from s f r h n.
            fit prog good bounds known s h.vars slots h.now p r.0 r.3 (call_fits s p r.2 r.0 r.3) (names_in f _ (F.Call r.0) r.1 (form.rolls-Call r.0) n))
        form_layer (S.If p a None) = of_act (S.If p a.0 None) (λ from s f r h n.
            let k = both_true _ _ (names_in f _ (F.If r.0 r.1 r.2) r.3 (form.rolls-If r.0 r.1 r.2) n) in
            let j = both_true _ _ k.1 in
            let first : (room a.0).most (length s) ≤ slots = omega (arith, h.most) in
            both _ _ (at_fit s h.vars h.now bit p r.0 r.4 refl k.0) (both _ _ (a.1 from s r.1 r.5 (record { vars = h.vars; now = h.now; most = first }) j.0) refl))
        form_layer (S.If p a (Some b)) = of_act (S.If p a.0 (Some b.0)) (λ from s f r h n. some from s f r.0 r.1 r.2 r.3 r.4 r.5 r.6 h n)
          where
            some : (from : ℕ) (s : List Variable) (f : Form) (x : Expr) (y : Stmt) (z : Option Stmt) → f ≡ form.If x y z → IsAt context s bit p x → StmtMeans context result a.0 from s y → AnyMeans (StmtMeans context result) from s (Some b.0) z → Roomy s (λ n. max ((room a.0).most n) ((room b.0).most n)) → form_named f ≡ true → (expr_fits prog slots p && (stmt_ok a.0 && stmt_ok b.0)) ≡ true
            some from s f x y None is c m o h n = absurd o
            some from s f x y (Some z) is c m o h n =
                let k = both_true _ _ (names_in f _ (F.If x y (Some z)) is (form.rolls-If x y (Some z)) n) in
                let j = both_true _ _ k.1 in
                let first : (room a.0).most (length s) ≤ slots = omega (arith, h.most) in
                let second : (room b.0).most (length s) ≤ slots = omega (arith, h.most) in
                both _ _ (at_fit s h.vars h.now bit p x c refl k.0) (both _ _ (a.1 from s y m (record { vars = h.vars; now = h.now; most = first }) j.0) (b.1 from s z o (record { vars = h.vars; now = h.now; most = second }) j.1))
        form_layer (S.While p a) = of_act (S.While p a.0) (λ from s f r h n.
            let k = both_true _ _ (names_in f _ (F.While r.0 r.1) r.2 (form.rolls-While r.0 r.1) n) in
            both _ _ (at_fit s h.vars h.now bit p r.0 r.3 refl k.0) (a.1 from s r.1 r.4 (record { vars = h.vars; now = h.now; most = h.most }) k.1))
        form_layer (S.Return v) = of_act (S.Return v) (λ from s f r h n.
            return_fit s h.vars h.now result v r.0 r.2 returns (names_in f _ (F.Return r.0) r.1 (form.rolls-Return r.0) n))
        form_layer (S.Assert p) = of_act (S.Assert p) (λ from s f r h n. at_fit s h.vars h.now bit p r.0 r.2 refl (names_in f _ (F.Assert r.0) r.1 (form.rolls-Assert r.0) n))
        form_layer (S.Assume p) = of_act (S.Assume p) (λ from s f r h n. at_fit s h.vars h.now bit p r.0 r.2 refl (names_in f _ (F.Assume r.0) r.1 (form.rolls-Assume r.0) n))
        form_layer (S.Minimize p) = of_act (S.Minimize p) (λ from s f r h n. at_fit s h.vars h.now int p r.0 r.2 refl (names_in f _ (F.Minimize r.0) r.1 (form.rolls-Minimize r.0) n))
        form_layer (S.Repeat p qs) = of_act (S.Repeat p (map (λ q. q.0) qs)) (λ from s f r h n.
            let k = both_true _ _ (names_in f _ (F.Repeat r.0 r.1) r.2 (form.rolls-Repeat r.0 r.1) n) in
            both _ _ (count_fit s h.vars h.now p r.0 r.3 k.0) (one_fit from s qs r.1 r.4 h k.1))
        form_layer (S.MinRepeat qs) = of_act (S.MinRepeat (map (λ q. q.0) qs)) (λ from s f r h n.
            one_fit from s qs r.0 r.2 h (names_in f _ (F.MinRepeat r.0) r.1 (form.rolls-MinRepeat r.0) n))
        form_layer (S.Reorder qs) = of_act (S.Reorder (map (λ q. q.0) qs)) (λ from s f r h n.
            block_fit (length s) s qs r.0 r.3 h (stmts_named r.0 (names_in f _ (F.Reorder r.0) r.1 (form.rolls-Reorder r.0) n)))

    -- a body
    pub body_fits : (from : ℕ) (s : List Variable) (ps : List PStmt) (es : List Stmt) → BlockMeans (λ p. p) (StmtMeans context result) from s ps es → Vars s → length s ≤ slots → most_of (map room ps) (length s) ≤ slots → list_all stmt_named es ≡ true → list_all stmt_ok ps ≡ true
    body_fits from s [] [] m vars now most n = refl
    body_fits from s (p ∷ ps) (e ∷ es) m vars now most n =
        let k = both_true (stmt_named e) (list_all stmt_named es) n in
        let count = counted p s in
        let grows = most_grows (map room ps) ((room p).adds + length s) in
        let first : (room p).most (length s) ≤ slots = omega (arith, most) in
        let later : most_of (map room ps) ((room p).adds + length s) ≤ slots = omega (arith, most) in
        let next : length (after p s) ≤ slots = omega (arith, count, grows, later) in
        both _ _ (fits_stmt p from s e m.0 (record { vars = vars; now = now; most = first }) k.0)
        (body_fits from (after p s) ps es m.1 (vars_after p from s e m.0 vars) next (subst (λ n. most_of (map room ps) n ≤ slots) (sym count) later) k.1)
    body_fits from s [] (e ∷ es) m vars now most n = absurd m
    body_fits from s (p ∷ ps) [] m vars now most n = absurd m
