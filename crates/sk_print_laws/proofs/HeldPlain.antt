-- The expressions of the plain form of a placed tree are placed, but for what a step becomes.
use Rattle.std.proofs.Common.{◌≡◌, ℕ, Bool, true, false, List, [], ◌∷◌, ◌++◌, Option, Some, None, refl, sym, ap, subst, ◌∙◌, arith}
use Rattle.std.specs.Prelude.{◌&&◌, ◌||◌, not, map, nat_le, ◌≤◌}
use Rattle.std.specs.List.{list_all}
use Rattle.std.proofs.lemmas.Bool.{le-leb, leb-true}
use Rattle.std.proofs.lemmas.List.Folds.{list_all-map, list_all-append}
use Rattle.sk_base.specs.declared.span.Span.{Span}
use Rattle.sk_tree.specs.declared.token.Mark.{Mark}
use Rattle.sk_tree.specs.declared.expr.Expr.{Expr}
use Rattle.sk_tree.specs.declared.expr.EForm.TheVariants as eform
use Rattle.sk_tree.specs.declared.expr.EForm.TheOpen as E
use Rattle.sk_tree.specs.declared.stmt.Stmt.{Stmt}
use Rattle.sk_tree.specs.declared.stmt.Form.{Form}
use Rattle.sk_tree.specs.declared.stmt.Form.TheVariants as form
use Rattle.sk_tree.specs.declared.stmt.Form.TheOpen as F
use Rattle.sk_tree.specs.declared.stmt.Form.TheViews.{roll-Form, roll-Stmt}
use Rattle.sk_tree.specs.declared.stmt.Form.TheFolds.{map-Form, fold-Form, fold-Stmt, fold-roll-Form, fold-roll-Stmt, ind-Stmt}
use Rattle.sk_tree.specs.declared.stmt.Declared.{Declared}
use Rattle.sk_tree.specs.declared.stmt.StepKind.{StepKind}
use Rattle.sk_tree.specs.declared.stmt.StepKind.TheVariants as step
use Rattle.sk_tree.specs.declared.item.TyTree.{TyTree}
use Rattle.sk_tree.specs.declared.item.FunItem.{FunItem}
use Rattle.sk_tree.specs.declared.item.Item.{Item}
use Rattle.sk_tree.specs.declared.item.Item.TheVariants as item
use Rattle.sk_tree.specs.Placed.{Place, binds, between, level_of, place_of, expr_placed, any_placed, ty_placed, declared_placed, Stand, all_stand, form_stand, stand_of, stmt_placed, any_ty_placed, param_placed, item_placed}
use Rattle.sk_types_rules.specs.Plain.{is_yes, any_yes, step_mark, expr_at, step_by, stepped, stmt_at, Plainly, all_made, a_block, in_block, one, declared_alone, form_plain, plainly, plain_stmt, plain_stmts, plain_items}
use Rattle.sk_types_laws.proofs.Ats.{both_true, both}
use Rattle.sk_print_laws.proofs.PlacedAgain.{place_at}

-- A value is placed where its target is of level 1. What a step becomes may have another target.
abbrev pub value_held : Expr → Expr → Bool
value_held x e = not (nat_le (place_of x).level 1) || expr_placed e

-- whether the expressions of a plain statement are placed
abbrev pub form_held : F.Form-F Bool Bool → Bool
form_held (F.Block ss) = list_all is_yes ss
form_held (F.Declare y ds) = list_all declared_placed ds
form_held (F.Assign x e) = expr_placed x && value_held x e
form_held (F.Call e) = expr_placed e
form_held (F.If c a b) = expr_placed c && (a && any_yes b)
form_held (F.While c a) = expr_placed c && a
form_held (F.Return e) = any_placed e
form_held (F.Assert e) = expr_placed e
form_held (F.Assume e) = expr_placed e
form_held (F.Minimize e) = expr_placed e
form_held (F.Repeat c a) = expr_placed c && a
form_held (F.MinRepeat a) = a
form_held (F.Reorder ss) = list_all is_yes ss
form_held F.Empty = true
form_held (F.Step kind x by) = true
form_held (F.For a c n body) = true

abbrev pub stmt_held : Stmt → Bool
stmt_held = fold-Stmt Bool Bool form_held (λ s. s.form)

abbrev pub act_held : Form → Bool
act_held = fold-Form Bool Bool form_held (λ s. s.form)

abbrev pub item_held : Item → Bool
item_held (item.Fun g) = list_all stmt_held g.body
item_held (item.Const x e) = expr_placed e
item_held (item.Struct x ys) = true
item_held (item.Pragma word text) = true

pub stmt_held_is : (e : Stmt) → stmt_held e ≡ act_held e.form
stmt_held_is e = fold-roll-Stmt Bool Bool form_held (λ s. s.form) (record { span = e.span; form = e.form })

pub held_in : (f g : Form) (l : F.Form-F Form Stmt) → f ≡ g → roll-Form l ≡ g → act_held f ≡ true → form_held (map-Form Form Stmt Bool Bool act_held stmt_held l) ≡ true
held_in f g l is to h = sym (fold-roll-Form Bool Bool form_held (λ s. s.form) l) ∙ ap act_held (to ∙ sym is) ∙ h

pub stmts_held : (es : List Stmt) → list_all is_yes (map stmt_held es) ≡ true → list_all stmt_held es ≡ true
stmts_held es h = sym (list_all-map is_yes stmt_held es) ∙ h

-- What is built of such parts is such a statement.

built : (s : Span) (g : Form) (l : F.Form-F Form Stmt) → roll-Form l ≡ g → form_held (map-Form Form Stmt Bool Bool act_held stmt_held l) ≡ true → stmt_held (stmt_at s g) ≡ true
built s g l is h = stmt_held_is (stmt_at s g) ∙ ap act_held (sym is) ∙ fold-roll-Form Bool Bool form_held (λ s. s.form) l ∙ h

yes : (es : List Stmt) → list_all stmt_held es ≡ true → list_all is_yes (map stmt_held es) ≡ true
yes es h = list_all-map is_yes stmt_held es ∙ h

block_held : (s : Span) (es : List Stmt) → list_all stmt_held es ≡ true → stmt_held (stmt_at s (form.Block es)) ≡ true
block_held s es h = built s (form.Block es) (F.Block es) (form.rolls-Block es) (yes es h)

record Held (p : Plainly) : Type 0 where
  made : list_all stmt_held p.made ≡ true
  body : stmt_held p.body ≡ true

a_block_held : (s : Span) (es : List Stmt) → list_all stmt_held es ≡ true → Held (a_block s es)
a_block_held s es h = record { made = both _ _ (block_held s es h) refl; body = block_held s es h }

in_block_held : (s : Span) (es : List Stmt) → list_all stmt_held es ≡ true → Held (in_block s es)
in_block_held s es h = record { made = h; body = block_held s es h }

one_held : (s : Span) (g : Form) (l : F.Form-F Form Stmt) → roll-Form l ≡ g → form_held (map-Form Form Stmt Bool Bool act_held stmt_held l) ≡ true → Held (one s g)
one_held s g l is h = in_block_held s (stmt_at s g ∷ []) (both _ _ (built s g l is h) refl)

append_held : (es ds : List Stmt) → list_all stmt_held es ≡ true → list_all stmt_held ds ≡ true → list_all stmt_held (es ++ ds) ≡ true
append_held es ds h k = list_all-append stmt_held es ds ∙ both _ _ h k

-- Steps

imply : (a b : Bool) → (a ≡ true → b ≡ true) → (not a || b) ≡ true
imply true b f = f refl
imply false b f = refl

level_of_step : (kind : StepKind) → level_of (step_mark kind) ≡ 4
level_of_step step.PostInc = refl
level_of_step step.PreInc = refl
level_of_step step.Add = refl
level_of_step step.PostDec = refl
level_of_step step.PreDec = refl
level_of_step step.Sub = refl

within_four : (p : Place) → p.placed ≡ true → nat_le p.level 1 ≡ true → binds 4 p ≡ true
within_four p h low =
    let small : p.level ≤ 1 = leb-true p.level 1 low in
    both _ _ h (le-leb p.level 4 (omega (arith, small)))

step_by_placed : (s : Span) (by : Option Expr) → any_placed by ≡ true → binds 3 (place_of (step_by s by)) ≡ true
step_by_placed s None h = ap (binds 3) (place_at (expr_at s (eform.Number 1)) (E.Number 1) (sym (eform.rolls-Number 1)))
step_by_placed s (Some e) h = ap (binds 3) (place_at (expr_at s (eform.Paren e)) (E.Paren e) (sym (eform.rolls-Paren e))) ∙ both _ _ h refl

stepped_placed : (kind : StepKind) (s : Span) (x : Expr) (by : Option Expr) → expr_placed x ≡ true → any_placed by ≡ true → nat_le (place_of x).level 1 ≡ true → expr_placed (stepped kind s x by) ≡ true
stepped_placed kind s x by h k low =
    let z = step_by s by in
    let m = step_mark kind in
    let place = place_at (stepped kind s x by) (E.Binary m x z) (sym (eform.rolls-Binary m x z)) in
    ap (λ (p : Place). p.placed) place
    ∙ ap (λ n. (between n (place_of x) (place_of z)).placed) (level_of_step kind)
    ∙ both _ _ (within_four (place_of x) h low) (step_by_placed s by k)

declared_held : (s : Span) (y : TyTree) (ds : List Declared) → list_all declared_placed ds ≡ true → list_all stmt_held (declared_alone s (λ d. form.Declare y (d ∷ [])) ds) ≡ true
declared_held s y [] h = refl
declared_held s y (d ∷ ds) h =
    let k = both_true (declared_placed d) (list_all declared_placed ds) h in
    both _ _ (built s (form.Declare y (d ∷ [])) (F.Declare y (d ∷ [])) (form.rolls-Declare y (d ∷ [])) (both _ _ k.0 refl)) (declared_held s y ds k.1)

-- Statements

abbrev form_plainly : Form → Span → Plainly
form_plainly = fold-Form (Span → Plainly) Plainly form_plain (λ s. s.form s.span)

abbrev act_stand : Form → Stand
act_stand = fold-Form Stand Stand form_stand (λ s. s.form)

abbrev FormKeeps : Form → Type 0
FormKeeps f = (s : Span) → (act_stand f).placed ≡ true → Held (form_plainly f s)

abbrev StmtKeeps : Stmt → Type 0
StmtKeeps e = stmt_placed e ≡ true → Held (plainly e)

abbrev Kept : Type 0
Kept = (e : Stmt) × StmtKeeps e

abbrev parts : F.Form-F ((f : Form) × FormKeeps f) Kept → F.Form-F Form Stmt
parts y = map-Form ((f : Form) × FormKeeps f) Kept Form Stmt (λ q. q.0) (λ q. q.0) y

all_held : (qs : List Kept) → all_stand (map stand_of (map (λ (q : Kept). q.0) qs)) ≡ true → list_all stmt_held (all_made (map plainly (map (λ (q : Kept). q.0) qs))) ≡ true
all_held [] h = refl
all_held (q ∷ qs) h =
    let k = both_true (stmt_placed q.0) (all_stand (map stand_of (map (λ (q : Kept). q.0) qs))) h in
    append_held (plainly q.0).made (all_made (map plainly (map (λ (q : Kept). q.0) qs))) (q.1 k.0).made (all_held qs k.1)

layer : (y : F.Form-F ((f : Form) × FormKeeps f) Kept) (s : Span) → (form_stand (map-Form Form Stmt Stand Stand act_stand stand_of (parts y))).placed ≡ true → Held (form_plain (map-Form Form Stmt (Span → Plainly) Plainly form_plainly plainly (parts y)) s)
layer (F.Block qs) s n = a_block_held s _ (all_held qs n)
layer F.Empty s n = in_block_held s [] refl
layer (F.Declare y ds) s n = in_block_held s _ (declared_held s y ds (both_true (ty_placed y) (list_all declared_placed ds) n).1)
layer (F.Assign x e) s n =
    let k = both_true (expr_placed x) (expr_placed e) n in
    one_held s (form.Assign x e) (F.Assign x e) (form.rolls-Assign x e) (both _ _ k.0 (imply _ _ (λ low. k.1)))
layer (F.Call e) s n = one_held s (form.Call e) (F.Call e) (form.rolls-Call e) n
layer (F.Step kind x by) s n =
    let k = both_true (expr_placed x) (any_placed by) n in
    one_held s (form.Assign x (stepped kind s x by)) (F.Assign x (stepped kind s x by)) (form.rolls-Assign x (stepped kind s x by)) (both _ _ k.0 (imply _ _ (stepped_placed kind s x by k.0 k.1)))
layer (F.If c a None) s n =
    let k = both_true (expr_placed c) (stmt_placed a.0) n in
    one_held s _ (F.If c (plainly a.0).body None) (form.rolls-If c (plainly a.0).body None) (both _ _ k.0 (both _ _ (a.1 k.1).body refl))
layer (F.If c a (Some b)) s n =
    let k = both_true _ (stmt_placed b.0) n in
    let j = both_true (expr_placed c && stmt_placed a.0) _ k.0 in
    let i = both_true (expr_placed c) (stmt_placed a.0) j.0 in
    one_held s _ (F.If c (plainly a.0).body (Some (plainly b.0).body)) (form.rolls-If c (plainly a.0).body (Some (plainly b.0).body)) (both _ _ i.0 (both _ _ (a.1 i.1).body (b.1 k.1).body))
layer (F.While c a) s n = let k = both_true (expr_placed c) (stmt_placed a.0) n in one_held s _ (F.While c (plainly a.0).body) (form.rolls-While c (plainly a.0).body) (both _ _ k.0 (a.1 k.1).body)
layer (F.For a c x b) s n =
    let k = both_true _ (stmt_placed b.0) n in
    let j = both_true (stmt_placed a.0 && expr_placed c) (stmt_placed x.0) k.0 in
    let i = both_true (stmt_placed a.0) (expr_placed c) j.0 in
    let inner = (plainly b.0).body ∷ (plainly x.0).made in
    let inner_held : list_all stmt_held inner ≡ true = both _ _ (b.1 k.1).body (x.1 j.1).made in
    let loop = form.While c (stmt_at s (form.Block inner)) in
    let loop_held : stmt_held (stmt_at s loop) ≡ true = built s loop (F.While c (stmt_at s (form.Block inner))) (form.rolls-While c (stmt_at s (form.Block inner))) (both _ _ i.1 (block_held s inner inner_held)) in
    a_block_held s ((plainly a.0).made ++ stmt_at s loop ∷ []) (append_held (plainly a.0).made (stmt_at s loop ∷ []) (a.1 i.0).made (both _ _ loop_held refl))
layer (F.Return v) s n = one_held s (form.Return v) (F.Return v) (form.rolls-Return v) n
layer (F.Assert e) s n = one_held s (form.Assert e) (F.Assert e) (form.rolls-Assert e) n
layer (F.Assume e) s n = one_held s (form.Assume e) (F.Assume e) (form.rolls-Assume e) n
layer (F.Minimize e) s n = one_held s (form.Minimize e) (F.Minimize e) (form.rolls-Minimize e) n
layer (F.Repeat c a) s n = let k = both_true (expr_placed c) (stmt_placed a.0) n in one_held s _ (F.Repeat c (plainly a.0).body) (form.rolls-Repeat c (plainly a.0).body) (both _ _ k.0 (a.1 k.1).body)
layer (F.MinRepeat a) s n = one_held s _ (F.MinRepeat (plainly a.0).body) (form.rolls-MinRepeat (plainly a.0).body) (a.1 n).body
layer (F.Reorder qs) s n = one_held s _ (F.Reorder (all_made (map plainly (map (λ (q : Kept). q.0) qs)))) (form.rolls-Reorder _) (yes _ (all_held qs n))

keeps : (e : Stmt) → StmtKeeps e
keeps = ind-Stmt FormKeeps StmtKeeps
    (λ x y is. subst (λ z. FormKeeps (roll-Form z)) is (form_keeps y))
    (λ x y is. subst (λ z. StmtKeeps (roll-Stmt z)) is (stmt_keeps (record { span = y.span; form = y.form.0 }) y.form.1))
  where
    form_keeps : (y : F.Form-F ((f : Form) × FormKeeps f) Kept) → FormKeeps (roll-Form (parts y))
    form_keeps y s n = subst Held (λ i. sym (fold-roll-Form (Span → Plainly) Plainly form_plain (λ s. s.form s.span) (parts y)) i s) (layer y s (ap (λ (z : Stand). z.placed) (sym (fold-roll-Form Stand Stand form_stand (λ s. s.form) (parts y))) ∙ n))

    stmt_keeps : (e : Stmt) → FormKeeps e.form → StmtKeeps e
    stmt_keeps e h n = subst Held (sym (fold-roll-Stmt (Span → Plainly) Plainly form_plain (λ s. s.form s.span) (record { span = e.span; form = e.form }))) (h e.span (ap (λ (z : Stand). z.placed) (sym (fold-roll-Stmt Stand Stand form_stand (λ s. s.form) (record { span = e.span; form = e.form }))) ∙ n))

stmts_keep : (es : List Stmt) → list_all stmt_placed es ≡ true → list_all stmt_held (plain_stmts es) ≡ true
stmts_keep [] h = refl
stmts_keep (e ∷ es) h = let k = both_true (stmt_placed e) (list_all stmt_placed es) h in append_held (plain_stmt e) (plain_stmts es) (keeps e k.0).made (stmts_keep es k.1)

-- the items of the plain form of a placed tree
pub items_held : (is : List Item) → list_all item_placed is ≡ true → list_all item_held (plain_items is) ≡ true
items_held [] h = refl
items_held (item.Pragma word text ∷ is) h = items_held is ((both_true (item_placed (item.Pragma word text)) (list_all item_placed is) h).1)
items_held (item.Struct x ys ∷ is) h = items_held is ((both_true (item_placed (item.Struct x ys)) (list_all item_placed is) h).1)
items_held (item.Const x e ∷ is) h = let k = both_true (item_placed (item.Const x e)) (list_all item_placed is) h in both _ _ k.0 (items_held is k.1)
items_held (item.Fun g ∷ is) h =
    let k = both_true (item_placed (item.Fun g)) (list_all item_placed is) h in
    let body = (both_true (any_ty_placed g.result && list_all param_placed g.params) (list_all stmt_placed g.body) k.0).1 in
    both _ _ (stmts_keep g.body body) (items_held is k.1)
