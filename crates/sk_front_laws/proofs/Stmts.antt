-- Each pattern of a program that a tree means holds strings as patterns may, where those of the tree have such.
use Rattle.std.proofs.Common.{◌≡◌, ℕ, suc, ◌≤◌, Bool, true, false, List, [], ◌∷◌, ◌++◌, length, Option, Some, None, refl, sym, ap, subst, ◌∙◌, inl, inr, arith}
use Rattle.std.specs.Prelude.{◌&&◌, map, if◌then◌else◌}
use Rattle.std.specs.List.{list_all}
use Rattle.std.proofs.lemmas.List.Folds.{list_all-map}
use Rattle.sk_base.specs.declared.bounds.Bounds.{Bounds}
use Rattle.sk_tree.specs.declared.expr.Expr.{Expr}
use Rattle.sk_tree.specs.declared.expr.EForm.TheVariants as eform
use Rattle.sk_tree.specs.declared.expr.EForm.TheOpen as E
use Rattle.sk_tree.specs.declared.stmt.Stmt.{Stmt}
use Rattle.sk_tree.specs.declared.stmt.Form.{Form}
use Rattle.sk_tree.specs.declared.stmt.Form.TheVariants as form
use Rattle.sk_tree.specs.declared.stmt.Form.TheOpen as F
use Rattle.sk_tree.specs.declared.item.Item.{Item}
use Rattle.sk_tree.specs.declared.item.Item.TheVariants as item
use Rattle.sk_tree.specs.declared.item.Tree.{Tree}
use Rattle.sk_prog.specs.declared.ty.Ty.{Ty}
use Rattle.sk_prog.specs.declared.expr.PExpr.{PExpr}
use Rattle.sk_prog.specs.declared.expr.PEForm.TheVariants as pform
use Rattle.sk_prog.specs.declared.expr.PEForm.TheOpen as P
use Rattle.sk_prog.specs.declared.stmt.PStmt.{PStmt}
use Rattle.sk_prog.specs.declared.stmt.PForm.{PForm}
use Rattle.sk_prog.specs.declared.stmt.PForm.TheOpen as S
use Rattle.sk_prog.specs.declared.stmt.PForm.TheViews.{roll-PForm}
use Rattle.sk_prog.specs.declared.stmt.PForm.TheFolds.{map-PForm, fold-PForm, fold-roll-PForm, fold-roll-PStmt}
use Rattle.sk_prog.specs.declared.prog.StructDef.{StructDef}
use Rattle.sk_prog.specs.declared.prog.ConstDef.{ConstDef}
use Rattle.sk_prog.specs.declared.prog.Fun.{Fun}
use Rattle.sk_prog.specs.declared.prog.Prog.{Prog}
use Rattle.sk_types_rules.specs.declared.scope.Variable.{Variable}
use Rattle.sk_types_rules.specs.Rules.{int, bit, ty_eq}
use Rattle.sk_types_rules.specs.Scope.{Known, Context, top_of}
use Rattle.sk_types_rules.specs.Sorts.{target_type, is_some_type, this_or, first_target, kept_targets}
use Rattle.sk_types_rules.specs.Plain.{plain}
use Rattle.sk_types_rules.specs.Types.{Means, EachMeans, IsMore, IsAt, AnyAt, IsTarget, FormRule, StmtRule, BlockMeans, AnyMeans, OneMeans, CountMeans, ReturnMeans, after, StmtMeans, parameters, ItemsMean, Types}
use Rattle.sk_types_rules.specs.WellTyped.{is_yes, expr_patterns, any_patterns, form_patterns, stmt_patterns, fun_patterns, patterns_hold}
use Rattle.sk_types_rules.proofs.Layers.{ActMeans, act_rule, act_means_are, stmt_means_is}
use Rattle.sk_types_laws.proofs.Ats.{both_true, both, ty_self}
use Rattle.sk_types_laws.proofs.Scopes.{pstmt_law}
use Rattle.sk_front_laws.proofs.Trees.{may_be_string, expr_whole, any_whole, declared_whole, stmt_whole, item_whole, act_whole, stmt_whole_is, whole_in}
use Rattle.sk_front_laws.proofs.Strings.{strings_held}
use Rattle.sk_front_laws.proofs.Exprs.{Strings, strings_in, drop_string, opened, patterns_at, expr_good}
use Rattle.sk_front_laws.proofs.Plain.{items_whole}

stmts_whole : (es : List Stmt) → list_all is_yes (map stmt_whole es) ≡ true → list_all stmt_whole es ≡ true
stmts_whole es h = sym (list_all-map is_yes stmt_whole es) ∙ h

module _ (prog : Prog) (context : Context) where
  module _ (s : List Variable) where
    -- Targets that a pattern keeps

    targets_few : (t : Ty) (es : List Expr) → length (kept_targets context s t es) ≤ length es
    targets_few t [] = omega arith
    targets_few t (e ∷ es) = step (is_some_type (target_type context s e) t) (targets_few t es)
      where
        step : (b : Bool) → length (kept_targets context s t es) ≤ length es → length (if b then e ∷ kept_targets context s t es else kept_targets context s t es) ≤ suc (length es)
        step true h = omega (arith, h)
        step false h = omega (arith, h)

    targets_strings : (t : Ty) (es : List Expr) → Strings es → Strings (kept_targets context s t es)
    targets_strings t [] h = h
    targets_strings t (e ∷ es) h = go (is_some_type (target_type context s e) t) (targets_strings t es (drop_string e es h)) (targets_few t es)
      where
        go : (b : Bool) → Strings (kept_targets context s t es) → length (kept_targets context s t es) ≤ length es → Strings (if b then e ∷ kept_targets context s t es else kept_targets context s t es)
        go true r n = record { few = omega (arith, h.few, n); all = both _ _ (both_true (may_be_string e) _ h.all).0 r.all }
        go false r n = r

    -- the first target is kept
    some_kept : (t : Ty) (es : List Expr) → first_target context s es ≡ Some t → 1 ≤ length (kept_targets context s t es)
    some_kept t [] h = cc
    some_kept t (e ∷ es) h = step (target_type context s e) h (some_kept t es)
      where
        step : (o : Option Ty) → this_or context s o (first_target context s es) ≡ Some t → (first_target context s es ≡ Some t → 1 ≤ length (kept_targets context s t es)) → 1 ≤ length (if is_some_type o t then e ∷ kept_targets context s t es else kept_targets context s t es)
        step None h k = k h
        step (Some u) h k =
            let same : u ≡ t = cc in
            let yes : ty_eq u t ≡ true = ap (λ z. ty_eq z t) same ∙ ty_self t in
            subst (λ b. 1 ≤ length (if b then e ∷ kept_targets context s t es else kept_targets context s t es)) (sym yes) (omega arith)

    targets_some : (t : Ty) (es : List Expr) (ps : List PExpr) → first_target context s es ≡ Some t → EachMeans (λ q. q) (Means context s) t ps (kept_targets context s t es) → IsMore ps
    targets_some t es (p ∷ ps) first m = tt
    targets_some t es [] first m = absurd (none (kept_targets context s t es) (some_kept t es first) m)
      where
        none : (ks : List Expr) → 1 ≤ length ks → EachMeans (λ q. q) (Means context s) t [] ks → ⊥
        none [] h m = omega (arith, h)
        none (k ∷ ks) h m = m

    -- Expressions of statements

    at_good : (t : Ty) (p : PExpr) (e : Expr) → IsAt context s t p e → expr_whole e ≡ true → expr_patterns prog p ≡ true
    at_good t p e m h = expr_good prog context s p e m.means h

    any_good : (t : Ty) (p : Option PExpr) (e : Option Expr) → AnyAt context s t p e → any_whole e ≡ true → any_patterns prog p ≡ true
    any_good t None None m h = refl
    any_good t (Some p) (Some e) m h = at_good t p e m h
    any_good t None (Some e) m h = absurd m
    any_good t (Some p) None m h = absurd m

    target_good : (t : Ty) (p : PExpr) (e : Expr) → IsTarget context s t p e → expr_whole e ≡ true → expr_patterns prog p ≡ true
    target_good t p e (inl m) h = at_good t p e m.is_at h
    target_good t p e (inr m) h =
        let k = targets_strings t m.strings (strings_in m.strings (opened e (E.Pattern m.pattern m.strings) (m.tree ∙ sym (eform.rolls-Pattern m.pattern m.strings)) h)) in
        ap (expr_patterns prog) m.made
        ∙ patterns_at prog context s e.span (Some t) (pform.Pattern m.parts) (P.Pattern m.parts) (pform.rolls-Pattern m.parts)
        ∙ strings_held prog context s m.parts t (kept_targets context s t m.strings) (targets_some t m.strings m.parts m.first m.kept) m.kept k.all k.few

  module _ (result : Option Ty) where
    count_good : (s : List Variable) (p : PExpr) (e : Expr) → CountMeans context result s p e → expr_whole e ≡ true → expr_patterns prog p ≡ true
    count_good s p e (inl m) h = at_good s int p e m.2 h
    count_good s p e (inr m) h =
        let n = m.0 in
        ap (expr_patterns prog) m.3 ∙ patterns_at prog context s e.span (Some int) (pform.Number n) (P.Number n) (pform.rolls-Number n)

    return_good : (s : List Variable) (t : Option Ty) (p : Option PExpr) (e : Option Expr) → ReturnMeans context result s t p e → any_whole e ≡ true → any_patterns prog p ≡ true
    return_good s None None None m h = refl
    return_good s (Some t) (Some p) (Some e) m h = at_good s t p e m h
    return_good s None None (Some e) m h = absurd m
    return_good s None (Some p) None m h = absurd m
    return_good s None (Some p) (Some e) m h = absurd m
    return_good s (Some t) None None m h = absurd m
    return_good s (Some t) None (Some e) m h = absurd m
    return_good s (Some t) (Some p) None m h = absurd m

    -- Statements

    abbrev act_patterned : PForm → Bool
    act_patterned = fold-PForm Bool Bool (form_patterns prog) (λ s. s.form)

    abbrev ActGood : PForm → Type 0
    ActGood a = (from : ℕ) (s : List Variable) (f : Form) → ActMeans context result a from s f → act_whole f ≡ true → act_patterned a ≡ true

    abbrev StmtGood : PStmt → Type 0
    StmtGood p = (from : ℕ) (s : List Variable) (e : Stmt) → StmtMeans context result p from s e → stmt_whole e ≡ true → stmt_patterns prog p ≡ true

    abbrev Met : Type 0
    Met = (p : PStmt) × StmtGood p

    abbrev down : S.PForm-F ((a : PForm) × ActGood a) Met → S.PForm-F PForm PStmt
    down y = map-PForm ((a : PForm) × ActGood a) Met PForm PStmt (λ q. q.0) (λ q. q.0) y

    abbrev firsts : List Met → List PStmt
    firsts qs = map (λ (q : Met). q.0) qs

    of_act : (l : S.PForm-F PForm PStmt) → ((from : ℕ) (s : List Variable) (f : Form) → act_rule context result l from s f → act_whole f ≡ true → form_patterns prog (map-PForm PForm PStmt Bool Bool act_patterned (stmt_patterns prog) l) ≡ true) → ActGood (roll-PForm l)
    of_act l k from s f m h =
        fold-roll-PForm Bool Bool (form_patterns prog) (λ s. s.form) l
        ∙ k from s f (subst (λ (R : FormRule). R from s f) (act_means_are context result l) m) h

    -- statements that follow each other
    block_good : (from : ℕ) (s : List Variable) (qs : List Met) (es : List Stmt) → BlockMeans (λ p. p) (StmtMeans context result) from s (firsts qs) es → list_all stmt_whole es ≡ true → list_all is_yes (map (stmt_patterns prog) (firsts qs)) ≡ true
    block_good from s [] [] m h = refl
    block_good from s (q ∷ qs) (e ∷ es) m h =
        let k = both_true (stmt_whole e) (list_all stmt_whole es) h in
        both _ _ (q.1 from s e m.0 k.0) (block_good from (after q.0 s) qs es m.1 k.1)
    block_good from s [] (e ∷ es) m h = absurd m
    block_good from s (q ∷ qs) [] m h = absurd m

    copy_good : (from : ℕ) (s : List Variable) (qs : List Met) (e : Stmt) → OneMeans (StmtMeans context result) from s (firsts qs) e → stmt_whole e ≡ true → list_all is_yes (map (stmt_patterns prog) (firsts qs)) ≡ true
    copy_good from s [] e m h = absurd m
    copy_good from s (q ∷ []) e m h = both _ _ (q.1 from s e m h) refl
    copy_good from s (q ∷ r ∷ qs) e m h = absurd m

    stmt_good : (p : PStmt) → StmtGood p
    stmt_good = pstmt_law ActGood StmtGood layer in_stmt
      where
        in_stmt : (p : PStmt) → ActGood p.form → StmtGood p
        in_stmt p k from s e m h =
            let r = subst (λ (R : StmtRule). R from s e) (stmt_means_is context result p) m in
            fold-roll-PStmt Bool Bool (form_patterns prog) (λ s. s.form) (record { span = p.span; form = p.form })
            ∙ k from s e.form r.1 (sym (stmt_whole_is e) ∙ h)

        layer : (y : S.PForm-F ((a : PForm) × ActGood a) Met) → ActGood (roll-PForm (down y))
        layer (S.Block qs) = of_act (S.Block (firsts qs)) (λ from s f r h. block_good (length s) s qs r.0 r.2 (stmts_whole r.0 (whole_in f _ (F.Block r.0) r.1 (form.rolls-Block r.0) h)))
        layer (S.Declare slot x t v) = of_act (S.Declare slot x t v) (λ from s f r h.
            let k = both_true (declared_whole r.1) true (whole_in f _ (F.Declare r.0 (r.1 ∷ [])) r.2 (form.rolls-Declare r.0 (r.1 ∷ [])) h) in
            any_good s t v (r.1).value (r.3).value k.0)
        layer (S.Assign p q) = of_act (S.Assign p q) (λ from s f r h.
            let k = both_true (expr_whole r.0) (expr_whole r.1) (whole_in f _ (F.Assign r.0 r.1) r.2 (form.rolls-Assign r.0 r.1) h) in
            both _ _ (target_good s r.3 p r.0 (r.4).target k.0) (at_good s r.3 q r.1 (r.4).value k.1))
        layer (S.Call p) = of_act (S.Call p) (λ from s f r h. expr_good prog context s p r.0 r.3 (whole_in f _ (F.Call r.0) r.1 (form.rolls-Call r.0) h))
        layer (S.If p a None) = of_act (S.If p a.0 None) (λ from s f r h.
            let k = both_true _ _ (whole_in f _ (F.If r.0 r.1 r.2) r.3 (form.rolls-If r.0 r.1 r.2) h) in
            let j = both_true (stmt_whole r.1) _ k.1 in
            both _ _ (at_good s bit p r.0 r.4 k.0) (both _ _ (a.1 from s r.1 r.5 j.0) refl))
        layer (S.If p a (Some c)) = of_act (S.If p a.0 (Some c.0)) (λ from s f r h. some from s f r.0 r.1 r.2 r.3 r.4 r.5 r.6 h)
          where
            some : (from : ℕ) (s : List Variable) (f : Form) (x : Expr) (y : Stmt) (z : Option Stmt) → f ≡ form.If x y z → IsAt context s bit p x → StmtMeans context result a.0 from s y → AnyMeans (StmtMeans context result) from s (Some c.0) z → act_whole f ≡ true → (expr_patterns prog p && (stmt_patterns prog a.0 && stmt_patterns prog c.0)) ≡ true
            some from s f x y None is m n o h = absurd o
            some from s f x y (Some z) is m n o h =
                let k = both_true _ _ (whole_in f _ (F.If x y (Some z)) is (form.rolls-If x y (Some z)) h) in
                let j = both_true (stmt_whole y) (stmt_whole z) k.1 in
                both _ _ (at_good s bit p x m k.0) (both _ _ (a.1 from s y n j.0) (c.1 from s z o j.1))
        layer (S.While p a) = of_act (S.While p a.0) (λ from s f r h.
            let k = both_true _ _ (whole_in f _ (F.While r.0 r.1) r.2 (form.rolls-While r.0 r.1) h) in
            both _ _ (at_good s bit p r.0 r.3 k.0) (a.1 from s r.1 r.4 k.1))
        layer (S.Return v) = of_act (S.Return v) (λ from s f r h. return_good s result v r.0 r.2 (whole_in f _ (F.Return r.0) r.1 (form.rolls-Return r.0) h))
        layer (S.Assert p) = of_act (S.Assert p) (λ from s f r h. at_good s bit p r.0 r.2 (whole_in f _ (F.Assert r.0) r.1 (form.rolls-Assert r.0) h))
        layer (S.Assume p) = of_act (S.Assume p) (λ from s f r h. at_good s bit p r.0 r.2 (whole_in f _ (F.Assume r.0) r.1 (form.rolls-Assume r.0) h))
        layer (S.Minimize p) = of_act (S.Minimize p) (λ from s f r h. at_good s int p r.0 r.2 (whole_in f _ (F.Minimize r.0) r.1 (form.rolls-Minimize r.0) h))
        layer (S.Repeat p qs) = of_act (S.Repeat p (firsts qs)) (λ from s f r h.
            let k = both_true _ _ (whole_in f _ (F.Repeat r.0 r.1) r.2 (form.rolls-Repeat r.0 r.1) h) in
            both _ _ (count_good s p r.0 r.3 k.0) (copy_good from s qs r.1 r.4 k.1))
        layer (S.MinRepeat qs) = of_act (S.MinRepeat (firsts qs)) (λ from s f r h. copy_good from s qs r.0 r.2 (whole_in f _ (F.MinRepeat r.0) r.1 (form.rolls-MinRepeat r.0) h))
        layer (S.Reorder qs) = of_act (S.Reorder (firsts qs)) (λ from s f r h. block_good (length s) s qs r.0 r.3 (stmts_whole r.0 (whole_in f _ (F.Reorder r.0) r.1 (form.rolls-Reorder r.0) h)))

    body_good : (from : ℕ) (s : List Variable) (ps : List PStmt) (es : List Stmt) → BlockMeans (λ p. p) (StmtMeans context result) from s ps es → list_all stmt_whole es ≡ true → list_all (stmt_patterns prog) ps ≡ true
    body_good from s [] [] m h = refl
    body_good from s (p ∷ ps) (e ∷ es) m h =
        let k = both_true (stmt_whole e) (list_all stmt_whole es) h in
        both _ _ (stmt_good p from s e m.0 k.0) (body_good from (after p s) ps es m.1 k.1)
    body_good from s [] (e ∷ es) m h = absurd m
    body_good from s (p ∷ ps) [] m h = absurd m

-- Items

module _ (prog : Prog) (bounds : Bounds) where
  abbrev context_of : List Known → Context
  context_of known = record { bounds = bounds; top = top_of prog; known = known }

  record AreGood (cs : List ConstDef) (fs : List Fun) : Type 0 where
    consts : list_all (λ (c : ConstDef). expr_patterns prog c.value) cs ≡ true
    funs : list_all (fun_patterns prog) fs ≡ true

  items_good : (known : List Known) (is : List Item) (ds : List StructDef) (cs : List ConstDef) (fs : List Fun) → ItemsMean bounds (top_of prog) known is ds cs fs → list_all item_whole is ≡ true → AreGood cs fs
  items_good known [] [] [] [] m h = record { consts = refl; funs = refl }
  items_good known (item.Struct x ys ∷ is) (d ∷ ds) cs fs m h = items_good known is ds cs fs m.1 (both_true (item_whole (item.Struct x ys)) (list_all item_whole is) h).1
  items_good known (item.Const x e ∷ is) ds (c ∷ cs) fs m h =
      let k = both_true (item_whole (item.Const x e)) (list_all item_whole is) h in
      let rest = items_good (known ++ record { name = x; number = m.0 } ∷ []) is ds cs fs m.2 k.1 in
      record { consts = both _ _ (expr_good prog (context_of known) [] c.value e m.1.value.means k.0) rest.consts; funs = rest.funs }
  items_good known (item.Fun g ∷ is) ds cs (f ∷ fs) m h =
      let k = both_true (item_whole (item.Fun g)) (list_all item_whole is) h in
      let rest = items_good known is ds cs fs m.1 k.1 in
      record { consts = rest.consts; funs = both _ _ (body_good prog (context_of known) f.result 0 (parameters f.params) f.body g.body m.0.body k.0) rest.funs }
  items_good known [] [] [] (f ∷ fs) m h = absurd m
  items_good known [] [] (c ∷ cs) fs m h = absurd m
  items_good known [] (d ∷ ds) cs fs m h = absurd m
  items_good known (item.Pragma word text ∷ is) ds cs fs m h = absurd m
  items_good known (item.Struct x ys ∷ is) [] cs fs m h = absurd m
  items_good known (item.Const x e ∷ is) ds [] fs m h = absurd m
  items_good known (item.Fun g ∷ is) ds cs [] m h = absurd m

pub patterns_are_held : (tree : Tree) (bounds : Bounds) (prog : Prog) → Types tree bounds prog → list_all item_whole tree.items ≡ true → patterns_hold prog ≡ true
patterns_are_held tree bounds prog types h =
    let all = items_good prog bounds [] (plain tree).items prog.structs prog.consts prog.funs types.items (items_whole tree.items h) in
    both _ _ all.consts all.funs
