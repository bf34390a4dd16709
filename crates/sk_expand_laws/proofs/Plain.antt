-- In the plain form of a placed tree each body is a block, and all expressions and types stand where they may, but
-- for what a step becomes.
use Rattle.std.proofs.Common.{◌≡◌, Bool, true, false, List, [], ◌∷◌, ◌++◌, Option, Some, None, refl, sym, ap, subst, ◌∙◌, arith}
use Rattle.std.specs.Prelude.{◌&&◌, ◌||◌, not, map, nat_le, ◌≤◌}
use Rattle.std.specs.List.{list_all}
use Rattle.std.proofs.lemmas.Bool.{le-leb, leb-true}
use Rattle.std.proofs.lemmas.List.Folds.{list_all-map, list_all-append}
use Rattle.sk_base.specs.declared.span.Span.{Span}
use Rattle.sk_tree.specs.declared.expr.Expr.{Expr}
use Rattle.sk_tree.specs.declared.expr.EForm.TheVariants as eform
use Rattle.sk_tree.specs.declared.expr.EForm.TheOpen as E
use Rattle.sk_tree.specs.declared.stmt.Stmt.{Stmt}
use Rattle.sk_tree.specs.declared.stmt.Form.{Form}
use Rattle.sk_tree.specs.declared.stmt.Form.TheVariants as form
use Rattle.sk_tree.specs.declared.stmt.Form.TheOpen as F
use Rattle.sk_tree.specs.declared.stmt.Form.TheViews.{roll-Form, roll-Stmt}
use Rattle.sk_tree.specs.declared.stmt.Form.TheFolds.{map-Form, fold-Form, fold-Stmt, fold-roll-Form, fold-roll-Stmt, ind-Stmt}
use Rattle.sk_tree.specs.declared.stmt.Declared.{Declared}
use Rattle.sk_tree.specs.declared.stmt.StepKind.{StepKind}
use Rattle.sk_tree.specs.declared.stmt.StepKind.TheVariants as step
use Rattle.sk_tree.specs.declared.item.TyTree.{TyTree}
use Rattle.sk_tree.specs.declared.item.Item.{Item}
use Rattle.sk_tree.specs.declared.item.Item.TheVariants as item
use Rattle.sk_tree.specs.Placed.{Place, binds, between, level_of, place_of, expr_placed, any_placed, ty_placed, declared_placed, Stand, all_stand, form_stand, stand_of, stmt_placed, any_ty_placed, param_placed, item_placed}
use Rattle.sk_types_rules.specs.Plain.{step_mark, expr_at, step_by, stepped, stmt_at, Plainly, all_made, a_block, in_block, one, declared_alone, form_plain, plainly, plain_stmt, plain_stmts, plain_items}
use Rattle.sk_types_laws.proofs.Ats.{both_true, both}
use Rattle.sk_expand_laws.proofs.Exprs.{place_at}

-- A value is placed where its target is of level 1. What a step becomes may have another target.
abbrev pub value_placed : Expr → Expr → Bool
value_placed x e = not (nat_le (place_of x).level 1) || expr_placed e

-- whether each body inside of a plain statement is a block and its expressions and types are placed, and whether
-- it is a block itself
pub record Shape : Type 0 where
  pub fine : Bool
  pub block : Bool

abbrev pub bodied : Shape → Bool
bodied a = a.fine && a.block

abbrev pub any_bodied : Option Shape → Bool
any_bodied None = true
any_bodied (Some a) = bodied a

abbrev pub all_fine : List Shape → Bool
all_fine ss = list_all (λ (s : Shape). s.fine) ss

abbrev pub no_block : Bool → Shape
no_block fine = record { fine = fine; block = false }

abbrev pub form_shape : F.Form-F Shape Shape → Shape
form_shape (F.Block ss) = record { fine = all_fine ss; block = true }
form_shape (F.Declare y ds) = no_block (ty_placed y && list_all declared_placed ds)
form_shape (F.Assign x e) = no_block (expr_placed x && value_placed x e)
form_shape (F.Call e) = no_block (expr_placed e)
form_shape (F.If c a b) = no_block (expr_placed c && (bodied a && any_bodied b))
form_shape (F.While c a) = no_block (expr_placed c && bodied a)
form_shape (F.Return e) = no_block (any_placed e)
form_shape (F.Assert e) = no_block (expr_placed e)
form_shape (F.Assume e) = no_block (expr_placed e)
form_shape (F.Minimize e) = no_block (expr_placed e)
form_shape (F.Repeat c a) = no_block (bodied a)
form_shape (F.MinRepeat a) = no_block (bodied a)
form_shape (F.Reorder ss) = no_block (all_fine ss)
form_shape F.Empty = no_block true
form_shape (F.Step kind x by) = no_block true
form_shape (F.For a c n body) = no_block true

abbrev pub shape_of : Stmt → Shape
shape_of = fold-Stmt Shape Shape form_shape (λ s. s.form)

abbrev pub act_shape : Form → Shape
act_shape = fold-Form Shape Shape form_shape (λ s. s.form)

abbrev pub stmt_fine : Stmt → Bool
stmt_fine e = (shape_of e).fine

abbrev pub shapes : F.Form-F Form Stmt → F.Form-F Shape Shape
shapes l = map-Form Form Stmt Shape Shape act_shape shape_of l

pub shape_is : (e : Stmt) → shape_of e ≡ act_shape e.form
shape_is e = fold-roll-Stmt Shape Shape form_shape (λ s. s.form) (record { span = e.span; form = e.form })

-- of a form that is built of this layer
pub shape_in : (f g : Form) (l : F.Form-F Form Stmt) → f ≡ g → roll-Form l ≡ g → act_shape f ≡ form_shape (shapes l)
shape_in f g l is to = ap act_shape (is ∙ sym to) ∙ fold-roll-Form Shape Shape form_shape (λ s. s.form) l

pub stmts_fine : (es : List Stmt) → all_fine (map shape_of es) ≡ true → list_all stmt_fine es ≡ true
stmts_fine es h = sym (list_all-map (λ (s : Shape). s.fine) shape_of es) ∙ h

-- What is built of such parts is such a statement.

shape_at : (s : Span) (g : Form) (l : F.Form-F Form Stmt) → roll-Form l ≡ g → shape_of (stmt_at s g) ≡ form_shape (shapes l)
shape_at s g l is = shape_is (stmt_at s g) ∙ shape_in g g l refl is

abbrev AreFine : List Stmt → Type 0
AreFine es = list_all stmt_fine es ≡ true

block_fine : (s : Span) (es : List Stmt) → AreFine es → bodied (shape_of (stmt_at s (form.Block es))) ≡ true
block_fine s es h = ap bodied (shape_at s (form.Block es) (F.Block es) (form.rolls-Block es)) ∙ both _ _ (list_all-map (λ (s : Shape). s.fine) shape_of es ∙ h) refl

record IsFine (p : Plainly) : Type 0 where
  made : AreFine p.made
  body : bodied (shape_of p.body) ≡ true

body_fine : (p : Plainly) → IsFine p → stmt_fine p.body ≡ true
body_fine p h = (both_true (shape_of p.body).fine (shape_of p.body).block h.body).0

a_block_fine : (s : Span) (es : List Stmt) → AreFine es → IsFine (a_block s es)
a_block_fine s es h =
    let b = block_fine s es h in
    record { made = both _ _ (both_true (shape_of (stmt_at s (form.Block es))).fine (shape_of (stmt_at s (form.Block es))).block b).0 refl; body = b }

in_block_fine : (s : Span) (es : List Stmt) → AreFine es → IsFine (in_block s es)
in_block_fine s es h = record { made = h; body = block_fine s es h }

built : (s : Span) (g : Form) (l : F.Form-F Form Stmt) → roll-Form l ≡ g → (form_shape (shapes l)).fine ≡ true → stmt_fine (stmt_at s g) ≡ true
built s g l is h = ap (λ (z : Shape). z.fine) (shape_at s g l is) ∙ h

one_fine : (s : Span) (g : Form) (l : F.Form-F Form Stmt) → roll-Form l ≡ g → (form_shape (shapes l)).fine ≡ true → IsFine (one s g)
one_fine s g l is h = in_block_fine s (stmt_at s g ∷ []) (both _ _ (built s g l is h) refl)

append_fine : (es ds : List Stmt) → AreFine es → AreFine ds → AreFine (es ++ ds)
append_fine es ds h k = list_all-append stmt_fine es ds ∙ both _ _ h k

-- Steps

imply : (a b : Bool) → (a ≡ true → b ≡ true) → (not a || b) ≡ true
imply true b f = f refl
imply false b f = refl

level_of_step : (kind : StepKind) → level_of (step_mark kind) ≡ 4
level_of_step step.PostInc = refl
level_of_step step.PreInc = refl
level_of_step step.Add = refl
level_of_step step.PostDec = refl
level_of_step step.PreDec = refl
level_of_step step.Sub = refl

within_four : (p : Place) → p.placed ≡ true → nat_le p.level 1 ≡ true → binds 4 p ≡ true
within_four p h low =
    let small : p.level ≤ 1 = leb-true p.level 1 low in
    both _ _ h (le-leb p.level 4 (omega (arith, small)))

step_by_placed : (s : Span) (by : Option Expr) → any_placed by ≡ true → binds 3 (place_of (step_by s by)) ≡ true
step_by_placed s None h = ap (binds 3) (place_at (expr_at s (eform.Number 1)) (E.Number 1) (sym (eform.rolls-Number 1)))
step_by_placed s (Some e) h = ap (binds 3) (place_at (expr_at s (eform.Paren e)) (E.Paren e) (sym (eform.rolls-Paren e))) ∙ both _ _ h refl

stepped_placed : (kind : StepKind) (s : Span) (x : Expr) (by : Option Expr) → expr_placed x ≡ true → any_placed by ≡ true → nat_le (place_of x).level 1 ≡ true → expr_placed (stepped kind s x by) ≡ true
stepped_placed kind s x by h k low =
    let z = step_by s by in
    let m = step_mark kind in
    let place = place_at (stepped kind s x by) (E.Binary m x z) (sym (eform.rolls-Binary m x z)) in
    ap (λ (p : Place). p.placed) place
    ∙ ap (λ n. (between n (place_of x) (place_of z)).placed) (level_of_step kind)
    ∙ both _ _ (within_four (place_of x) h low) (step_by_placed s by k)

declared_fine : (s : Span) (y : TyTree) (ds : List Declared) → ty_placed y ≡ true → list_all declared_placed ds ≡ true → AreFine (declared_alone s (λ d. form.Declare y (d ∷ [])) ds)
declared_fine s y [] t h = refl
declared_fine s y (d ∷ ds) t h =
    let k = both_true (declared_placed d) (list_all declared_placed ds) h in
    both _ _ (built s (form.Declare y (d ∷ [])) (F.Declare y (d ∷ [])) (form.rolls-Declare y (d ∷ [])) (both _ _ t (both _ _ k.0 refl))) (declared_fine s y ds t k.1)

-- Statements

abbrev form_plainly : Form → Span → Plainly
form_plainly = fold-Form (Span → Plainly) Plainly form_plain (λ s. s.form s.span)

abbrev act_stand : Form → Stand
act_stand = fold-Form Stand Stand form_stand (λ s. s.form)

abbrev FormFine : Form → Type 0
FormFine f = (s : Span) → (act_stand f).placed ≡ true → IsFine (form_plainly f s)

abbrev StmtFine : Stmt → Type 0
StmtFine e = stmt_placed e ≡ true → IsFine (plainly e)

abbrev Such : Type 0
Such = (e : Stmt) × StmtFine e

abbrev parts : F.Form-F ((f : Form) × FormFine f) Such → F.Form-F Form Stmt
parts y = map-Form ((f : Form) × FormFine f) Such Form Stmt (λ q. q.0) (λ q. q.0) y

each_fine : (qs : List Such) → all_stand (map stand_of (map (λ (q : Such). q.0) qs)) ≡ true → list_all stmt_fine (all_made (map plainly (map (λ (q : Such). q.0) qs))) ≡ true
each_fine [] h = refl
each_fine (q ∷ qs) h =
    let k = both_true (stmt_placed q.0) (all_stand (map stand_of (map (λ (q : Such). q.0) qs))) h in
    append_fine (plainly q.0).made (all_made (map plainly (map (λ (q : Such). q.0) qs))) (q.1 k.0).made (each_fine qs k.1)

layer : (y : F.Form-F ((f : Form) × FormFine f) Such) (s : Span) → (form_stand (map-Form Form Stmt Stand Stand act_stand stand_of (parts y))).placed ≡ true → IsFine (form_plain (map-Form Form Stmt (Span → Plainly) Plainly form_plainly plainly (parts y)) s)
layer (F.Block qs) s n = a_block_fine s _ (each_fine qs n)
layer F.Empty s n = in_block_fine s [] refl
layer (F.Declare y ds) s n = let k = both_true (ty_placed y) (list_all declared_placed ds) n in in_block_fine s _ (declared_fine s y ds k.0 k.1)
layer (F.Assign x e) s n =
    let k = both_true (expr_placed x) (expr_placed e) n in
    one_fine s (form.Assign x e) (F.Assign x e) (form.rolls-Assign x e) (both _ _ k.0 (imply _ _ (λ low. k.1)))
layer (F.Call e) s n = one_fine s (form.Call e) (F.Call e) (form.rolls-Call e) n
layer (F.Step kind x by) s n =
    let k = both_true (expr_placed x) (any_placed by) n in
    one_fine s (form.Assign x (stepped kind s x by)) (F.Assign x (stepped kind s x by)) (form.rolls-Assign x (stepped kind s x by)) (both _ _ k.0 (imply _ _ (stepped_placed kind s x by k.0 k.1)))
layer (F.If c a None) s n =
    let k = both_true (expr_placed c) (stmt_placed a.0) n in
    one_fine s _ (F.If c (plainly a.0).body None) (form.rolls-If c (plainly a.0).body None) (both _ _ k.0 (both _ _ (a.1 k.1).body refl))
layer (F.If c a (Some b)) s n =
    let k = both_true _ (stmt_placed b.0) n in
    let j = both_true (expr_placed c && stmt_placed a.0) _ k.0 in
    let i = both_true (expr_placed c) (stmt_placed a.0) j.0 in
    one_fine s _ (F.If c (plainly a.0).body (Some (plainly b.0).body)) (form.rolls-If c (plainly a.0).body (Some (plainly b.0).body)) (both _ _ i.0 (both _ _ (a.1 i.1).body (b.1 k.1).body))
layer (F.While c a) s n = let k = both_true (expr_placed c) (stmt_placed a.0) n in one_fine s _ (F.While c (plainly a.0).body) (form.rolls-While c (plainly a.0).body) (both _ _ k.0 (a.1 k.1).body)
layer (F.For a c x b) s n =
    let k = both_true _ (stmt_placed b.0) n in
    let j = both_true (stmt_placed a.0 && expr_placed c) (stmt_placed x.0) k.0 in
    let i = both_true (stmt_placed a.0) (expr_placed c) j.0 in
    let inner = (plainly b.0).body ∷ (plainly x.0).made in
    let inner_fine : list_all stmt_fine inner ≡ true = both _ _ (body_fine (plainly b.0) (b.1 k.1)) (x.1 j.1).made in
    let loop = form.While c (stmt_at s (form.Block inner)) in
    let loop_fine : stmt_fine (stmt_at s loop) ≡ true = built s loop (F.While c (stmt_at s (form.Block inner))) (form.rolls-While c (stmt_at s (form.Block inner))) (both _ _ i.1 (block_fine s inner inner_fine)) in
    a_block_fine s ((plainly a.0).made ++ stmt_at s loop ∷ []) (append_fine (plainly a.0).made (stmt_at s loop ∷ []) (a.1 i.0).made (both _ _ loop_fine refl))
layer (F.Return v) s n = one_fine s (form.Return v) (F.Return v) (form.rolls-Return v) n
layer (F.Assert e) s n = one_fine s (form.Assert e) (F.Assert e) (form.rolls-Assert e) n
layer (F.Assume e) s n = one_fine s (form.Assume e) (F.Assume e) (form.rolls-Assume e) n
layer (F.Minimize e) s n = one_fine s (form.Minimize e) (F.Minimize e) (form.rolls-Minimize e) n
layer (F.Repeat c a) s n = let k = both_true (expr_placed c) (stmt_placed a.0) n in one_fine s _ (F.Repeat c (plainly a.0).body) (form.rolls-Repeat c (plainly a.0).body) (a.1 k.1).body
layer (F.MinRepeat a) s n = one_fine s _ (F.MinRepeat (plainly a.0).body) (form.rolls-MinRepeat (plainly a.0).body) (a.1 n).body
layer (F.Reorder qs) s n = one_fine s _ (F.Reorder (all_made (map plainly (map (λ (q : Such). q.0) qs)))) (form.rolls-Reorder _) (list_all-map (λ (s : Shape). s.fine) shape_of _ ∙ each_fine qs n)

keeps : (e : Stmt) → StmtFine e
keeps = ind-Stmt FormFine StmtFine
    (λ x y is. subst (λ z. FormFine (roll-Form z)) is (form_fine y))
    (λ x y is. subst (λ z. StmtFine (roll-Stmt z)) is (stmt_layer_fine (record { span = y.span; form = y.form.0 }) y.form.1))
  where
    form_fine : (y : F.Form-F ((f : Form) × FormFine f) Such) → FormFine (roll-Form (parts y))
    form_fine y s n = subst IsFine (λ i. sym (fold-roll-Form (Span → Plainly) Plainly form_plain (λ s. s.form s.span) (parts y)) i s) (layer y s (ap (λ (z : Stand). z.placed) (sym (fold-roll-Form Stand Stand form_stand (λ s. s.form) (parts y))) ∙ n))

    stmt_layer_fine : (e : Stmt) → FormFine e.form → StmtFine e
    stmt_layer_fine e h n = subst IsFine (sym (fold-roll-Stmt (Span → Plainly) Plainly form_plain (λ s. s.form s.span) (record { span = e.span; form = e.form }))) (h e.span (ap (λ (z : Stand). z.placed) (sym (fold-roll-Stmt Stand Stand form_stand (λ s. s.form) (record { span = e.span; form = e.form }))) ∙ n))

plain_fine : (es : List Stmt) → list_all stmt_placed es ≡ true → list_all stmt_fine (plain_stmts es) ≡ true
plain_fine [] h = refl
plain_fine (e ∷ es) h = let k = both_true (stmt_placed e) (list_all stmt_placed es) h in append_fine (plain_stmt e) (plain_stmts es) (keeps e k.0).made (plain_fine es k.1)

-- A function is placed but for its body, and its body is fine.
abbrev pub item_fine : Item → Bool
item_fine (item.Fun g) = (any_ty_placed g.result && list_all param_placed g.params) && list_all stmt_fine g.body
item_fine (item.Const x e) = item_placed (item.Const x e)
item_fine (item.Struct x ys) = item_placed (item.Struct x ys)
item_fine (item.Pragma word text) = true

-- the items of the plain form of a placed tree
pub items_fine : (is : List Item) → list_all item_placed is ≡ true → list_all item_fine (plain_items is) ≡ true
items_fine [] h = refl
items_fine (item.Pragma word text ∷ is) h = items_fine is ((both_true (item_placed (item.Pragma word text)) (list_all item_placed is) h).1)
items_fine (item.Struct x ys ∷ is) h = let k = both_true (item_placed (item.Struct x ys)) (list_all item_placed is) h in both _ _ k.0 (items_fine is k.1)
items_fine (item.Const x e ∷ is) h = let k = both_true (item_placed (item.Const x e)) (list_all item_placed is) h in both _ _ k.0 (items_fine is k.1)
items_fine (item.Fun g ∷ is) h =
    let k = both_true (item_placed (item.Fun g)) (list_all item_placed is) h in
    let j = both_true (any_ty_placed g.result && list_all param_placed g.params) (list_all stmt_placed g.body) k.0 in
    both _ _ (both _ _ j.0 (plain_fine g.body j.1)) (items_fine is k.1)
