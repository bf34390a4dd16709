-- The patterns of the plain form of a tree are those of the tree.
use Rattle.std.proofs.Common.{◌≡◌, Bool, true, List, [], ◌∷◌, ◌++◌, Option, Some, None, refl, sym, ap, subst, ◌∙◌}
use Rattle.std.specs.Prelude.{◌&&◌, map}
use Rattle.std.specs.List.{list_all}
use Rattle.std.proofs.lemmas.List.Folds.{list_all-map, list_all-append}
use Rattle.sk_base.specs.declared.span.Span.{Span}
use Rattle.sk_tree.specs.declared.expr.Expr.{Expr}
use Rattle.sk_tree.specs.declared.expr.EForm.TheVariants as eform
use Rattle.sk_tree.specs.declared.expr.EForm.TheOpen as E
use Rattle.sk_tree.specs.declared.stmt.Stmt.{Stmt}
use Rattle.sk_tree.specs.declared.stmt.Form.{Form}
use Rattle.sk_tree.specs.declared.stmt.Form.TheVariants as form
use Rattle.sk_tree.specs.declared.stmt.Form.TheOpen as F
use Rattle.sk_tree.specs.declared.stmt.Form.TheViews.{roll-Form, roll-Stmt}
use Rattle.sk_tree.specs.declared.stmt.Form.TheFolds.{map-Form, fold-Form, fold-roll-Form, fold-roll-Stmt, ind-Stmt}
use Rattle.sk_tree.specs.declared.stmt.Declared.{Declared}
use Rattle.sk_tree.specs.declared.stmt.StepKind.{StepKind}
use Rattle.sk_tree.specs.declared.item.TyTree.{TyTree}
use Rattle.sk_tree.specs.declared.item.Item.{Item}
use Rattle.sk_tree.specs.declared.item.Item.TheVariants as item
use Rattle.sk_types_rules.specs.Plain.{is_yes, step_mark, expr_at, step_by, stepped, stmt_at, Plainly, all_made, a_block, in_block, one, declared_alone, form_plain, plainly, plain_stmt, plain_stmts, plain_items}
use Rattle.sk_types_laws.proofs.Ats.{both_true, both}
use Rattle.sk_front_laws.proofs.Trees.{expr_whole, any_whole, declared_whole, form_whole, stmt_whole, item_whole, whole_at, act_whole, stmt_whole_is, act_whole_is}

-- What is built of such parts is such a statement.

abbrev AllWhole : List Stmt → Type 0
AllWhole es = list_all stmt_whole es ≡ true

built : (s : Span) (g : Form) (l : F.Form-F Form Stmt) → roll-Form l ≡ g → form_whole (map-Form Form Stmt Bool Bool act_whole stmt_whole l) ≡ true → stmt_whole (stmt_at s g) ≡ true
built s g l is h = stmt_whole_is (stmt_at s g) ∙ ap act_whole (sym is) ∙ act_whole_is l ∙ h

yes : (es : List Stmt) → AllWhole es → list_all is_yes (map stmt_whole es) ≡ true
yes es h = list_all-map is_yes stmt_whole es ∙ h

block_whole : (s : Span) (es : List Stmt) → AllWhole es → stmt_whole (stmt_at s (form.Block es)) ≡ true
block_whole s es h = built s (form.Block es) (F.Block es) (form.rolls-Block es) (yes es h)

record Whole (p : Plainly) : Type 0 where
  made : list_all stmt_whole p.made ≡ true
  body : stmt_whole p.body ≡ true

a_block_whole : (s : Span) (es : List Stmt) → AllWhole es → Whole (a_block s es)
a_block_whole s es h = record { made = both _ _ (block_whole s es h) refl; body = block_whole s es h }

in_block_whole : (s : Span) (es : List Stmt) → AllWhole es → Whole (in_block s es)
in_block_whole s es h = record { made = h; body = block_whole s es h }

one_whole : (s : Span) (g : Form) (l : F.Form-F Form Stmt) → roll-Form l ≡ g → form_whole (map-Form Form Stmt Bool Bool act_whole stmt_whole l) ≡ true → Whole (one s g)
one_whole s g l is h = in_block_whole s (stmt_at s g ∷ []) (both _ _ (built s g l is h) refl)

append_whole : (es ds : List Stmt) → AllWhole es → AllWhole ds → AllWhole (es ++ ds)
append_whole es ds h k = list_all-append stmt_whole es ds ∙ both _ _ h k

-- Steps

step_by_whole : (s : Span) (by : Option Expr) → any_whole by ≡ true → expr_whole (step_by s by) ≡ true
step_by_whole s None h = whole_at (expr_at s (eform.Number 1)) (E.Number 1) (sym (eform.rolls-Number 1))
step_by_whole s (Some e) h = whole_at (expr_at s (eform.Paren e)) (E.Paren e) (sym (eform.rolls-Paren e)) ∙ h

stepped_whole : (kind : StepKind) (s : Span) (x : Expr) (by : Option Expr) → expr_whole x ≡ true → any_whole by ≡ true → expr_whole (stepped kind s x by) ≡ true
stepped_whole kind s x by h k =
    let z = step_by s by in
    let m = step_mark kind in
    whole_at (stepped kind s x by) (E.Binary m x z) (sym (eform.rolls-Binary m x z)) ∙ both _ _ h (step_by_whole s by k)

declared_each : (s : Span) (y : TyTree) (ds : List Declared) → list_all declared_whole ds ≡ true → AllWhole (declared_alone s (λ d. form.Declare y (d ∷ [])) ds)
declared_each s y [] h = refl
declared_each s y (d ∷ ds) h =
    let k = both_true (declared_whole d) (list_all declared_whole ds) h in
    both _ _ (built s (form.Declare y (d ∷ [])) (F.Declare y (d ∷ [])) (form.rolls-Declare y (d ∷ [])) (both _ _ k.0 refl)) (declared_each s y ds k.1)

-- Statements

abbrev form_plainly : Form → Span → Plainly
form_plainly = fold-Form (Span → Plainly) Plainly form_plain (λ s. s.form s.span)

abbrev FormKeeps : Form → Type 0
FormKeeps f = (s : Span) → act_whole f ≡ true → Whole (form_plainly f s)

abbrev StmtKeeps : Stmt → Type 0
StmtKeeps e = stmt_whole e ≡ true → Whole (plainly e)

abbrev Kept : Type 0
Kept = (e : Stmt) × StmtKeeps e

abbrev parts : F.Form-F ((f : Form) × FormKeeps f) Kept → F.Form-F Form Stmt
parts y = map-Form ((f : Form) × FormKeeps f) Kept Form Stmt (λ q. q.0) (λ q. q.0) y

abbrev firsts : List Kept → List Stmt
firsts qs = map (λ (q : Kept). q.0) qs

all_kept : (qs : List Kept) → list_all is_yes (map stmt_whole (firsts qs)) ≡ true → AllWhole (all_made (map plainly (firsts qs)))
all_kept [] h = refl
all_kept (q ∷ qs) h =
    let k = both_true (stmt_whole q.0) (list_all is_yes (map stmt_whole (firsts qs))) h in
    append_whole (plainly q.0).made (all_made (map plainly (firsts qs))) (q.1 k.0).made (all_kept qs k.1)

layer : (y : F.Form-F ((f : Form) × FormKeeps f) Kept) (s : Span) → form_whole (map-Form Form Stmt Bool Bool act_whole stmt_whole (parts y)) ≡ true → Whole (form_plain (map-Form Form Stmt (Span → Plainly) Plainly form_plainly plainly (parts y)) s)
layer (F.Block qs) s n = a_block_whole s _ (all_kept qs n)
layer F.Empty s n = in_block_whole s [] refl
layer (F.Declare y ds) s n = in_block_whole s _ (declared_each s y ds n)
layer (F.Assign x e) s n = one_whole s (form.Assign x e) (F.Assign x e) (form.rolls-Assign x e) n
layer (F.Call e) s n = one_whole s (form.Call e) (F.Call e) (form.rolls-Call e) n
layer (F.Step kind x by) s n =
    let k = both_true (expr_whole x) (any_whole by) n in
    one_whole s (form.Assign x (stepped kind s x by)) (F.Assign x (stepped kind s x by)) (form.rolls-Assign x (stepped kind s x by)) (both _ _ k.0 (stepped_whole kind s x by k.0 k.1))
layer (F.If c a None) s n =
    let k = both_true (expr_whole c) (stmt_whole a.0 && true) n in
    let j = both_true (stmt_whole a.0) true k.1 in
    one_whole s _ (F.If c (plainly a.0).body None) (form.rolls-If c (plainly a.0).body None) (both _ _ k.0 (both _ _ (a.1 j.0).body refl))
layer (F.If c a (Some b)) s n =
    let k = both_true (expr_whole c) (stmt_whole a.0 && stmt_whole b.0) n in
    let j = both_true (stmt_whole a.0) (stmt_whole b.0) k.1 in
    one_whole s _ (F.If c (plainly a.0).body (Some (plainly b.0).body)) (form.rolls-If c (plainly a.0).body (Some (plainly b.0).body)) (both _ _ k.0 (both _ _ (a.1 j.0).body (b.1 j.1).body))
layer (F.While c a) s n = let k = both_true (expr_whole c) (stmt_whole a.0) n in one_whole s _ (F.While c (plainly a.0).body) (form.rolls-While c (plainly a.0).body) (both _ _ k.0 (a.1 k.1).body)
layer (F.For a c x b) s n =
    let k = both_true (stmt_whole a.0) _ n in
    let j = both_true (expr_whole c) (stmt_whole x.0 && stmt_whole b.0) k.1 in
    let i = both_true (stmt_whole x.0) (stmt_whole b.0) j.1 in
    let inner = (plainly b.0).body ∷ (plainly x.0).made in
    let inner_whole : list_all stmt_whole inner ≡ true = both _ _ (b.1 i.1).body (x.1 i.0).made in
    let loop = form.While c (stmt_at s (form.Block inner)) in
    let loop_whole : stmt_whole (stmt_at s loop) ≡ true = built s loop (F.While c (stmt_at s (form.Block inner))) (form.rolls-While c (stmt_at s (form.Block inner))) (both _ _ j.0 (block_whole s inner inner_whole)) in
    a_block_whole s ((plainly a.0).made ++ stmt_at s loop ∷ []) (append_whole (plainly a.0).made (stmt_at s loop ∷ []) (a.1 k.0).made (both _ _ loop_whole refl))
layer (F.Return v) s n = one_whole s (form.Return v) (F.Return v) (form.rolls-Return v) n
layer (F.Assert e) s n = one_whole s (form.Assert e) (F.Assert e) (form.rolls-Assert e) n
layer (F.Assume e) s n = one_whole s (form.Assume e) (F.Assume e) (form.rolls-Assume e) n
layer (F.Minimize e) s n = one_whole s (form.Minimize e) (F.Minimize e) (form.rolls-Minimize e) n
layer (F.Repeat c a) s n = let k = both_true (expr_whole c) (stmt_whole a.0) n in one_whole s _ (F.Repeat c (plainly a.0).body) (form.rolls-Repeat c (plainly a.0).body) (both _ _ k.0 (a.1 k.1).body)
layer (F.MinRepeat a) s n = one_whole s _ (F.MinRepeat (plainly a.0).body) (form.rolls-MinRepeat (plainly a.0).body) (a.1 n).body
layer (F.Reorder qs) s n = one_whole s _ (F.Reorder (all_made (map plainly (firsts qs)))) (form.rolls-Reorder _) (yes _ (all_kept qs n))

keeps : (e : Stmt) → StmtKeeps e
keeps = ind-Stmt FormKeeps StmtKeeps
    (λ x y is. subst (λ z. FormKeeps (roll-Form z)) is (form_keeps y))
    (λ x y is. subst (λ z. StmtKeeps (roll-Stmt z)) is (stmt_keeps (record { span = y.span; form = y.form.0 }) y.form.1))
  where
    form_keeps : (y : F.Form-F ((f : Form) × FormKeeps f) Kept) → FormKeeps (roll-Form (parts y))
    form_keeps y s n = subst Whole (λ i. sym (fold-roll-Form (Span → Plainly) Plainly form_plain (λ s. s.form s.span) (parts y)) i s) (layer y s (sym (act_whole_is (parts y)) ∙ n))

    stmt_keeps : (e : Stmt) → FormKeeps e.form → StmtKeeps e
    stmt_keeps e h n = subst Whole (sym (fold-roll-Stmt (Span → Plainly) Plainly form_plain (λ s. s.form s.span) (record { span = e.span; form = e.form }))) (h e.span (sym (stmt_whole_is e) ∙ n))

stmts_keep : (es : List Stmt) → AllWhole es → AllWhole (plain_stmts es)
stmts_keep [] h = refl
stmts_keep (e ∷ es) h = let k = both_true (stmt_whole e) (list_all stmt_whole es) h in append_whole (plain_stmt e) (plain_stmts es) (keeps e k.0).made (stmts_keep es k.1)

-- the items of the plain form
pub items_whole : (is : List Item) → list_all item_whole is ≡ true → list_all item_whole (plain_items is) ≡ true
items_whole [] h = refl
items_whole (item.Pragma word text ∷ is) h = items_whole is ((both_true (item_whole (item.Pragma word text)) (list_all item_whole is) h).1)
items_whole (item.Struct x ys ∷ is) h = items_whole is ((both_true (item_whole (item.Struct x ys)) (list_all item_whole is) h).1)
items_whole (item.Const x e ∷ is) h = let k = both_true (item_whole (item.Const x e)) (list_all item_whole is) h in both _ _ k.0 (items_whole is k.1)
items_whole (item.Fun g ∷ is) h =
    let k = both_true (item_whole (item.Fun g)) (list_all item_whole is) h in
    both _ _ (stmts_keep g.body k.0) (items_whole is k.1)
