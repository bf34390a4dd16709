-- In the plain form of a tree each body is a block.
use Rattle.std.proofs.Common.{◌≡◌, Bool, true, false, List, [], ◌∷◌, ◌++◌, Option, Some, None, refl, sym, ap, subst, ◌∙◌}
use Rattle.std.specs.Prelude.{◌&&◌, map}
use Rattle.std.specs.List.{list_all}
use Rattle.std.proofs.lemmas.List.Folds.{list_all-map, list_all-append}
use Rattle.sk_base.specs.declared.span.Span.{Span}
use Rattle.sk_tree.specs.declared.stmt.Stmt.{Stmt}
use Rattle.sk_tree.specs.declared.stmt.Form.{Form}
use Rattle.sk_tree.specs.declared.stmt.Form.TheVariants as form
use Rattle.sk_tree.specs.declared.stmt.Form.TheOpen as F
use Rattle.sk_tree.specs.declared.stmt.Form.TheViews.{roll-Form}
use Rattle.sk_tree.specs.declared.stmt.Form.TheFolds.{map-Form, fold-Form, fold-Stmt, fold-roll-Form, fold-roll-Stmt}
use Rattle.sk_tree.specs.declared.stmt.Declared.{Declared}
use Rattle.sk_tree.specs.declared.item.TyTree.{TyTree}
use Rattle.sk_tree.specs.declared.item.FunItem.{FunItem}
use Rattle.sk_tree.specs.declared.item.Item.{Item}
use Rattle.sk_tree.specs.declared.item.Item.TheVariants as item
use Rattle.sk_tree.proofs.Layers.{StmtLayer, stmt_parts, stmt_law}
use Rattle.sk_types_rules.specs.Plain.{stepped, stmt_at, Plainly, all_made, a_block, in_block, one, declared_alone, form_plain, plainly, plain_stmt, plain_stmts, plain_items}
use Rattle.sk_types_laws.proofs.Ats.{both_true, both}
use Rattle.sk_print_laws.proofs.FormsBack.{built}

-- whether each body inside of a statement is a block, and whether it is one itself
pub record Shape : Type 0 where
  pub fine : Bool
  pub block : Bool

abbrev pub bodied : Shape → Bool
bodied a = a.fine && a.block

abbrev pub any_bodied : Option Shape → Bool
any_bodied None = true
any_bodied (Some a) = bodied a

abbrev pub all_fine : List Shape → Bool
all_fine ss = list_all (λ (s : Shape). s.fine) ss

abbrev pub no_block : Bool → Shape
no_block fine = record { fine = fine; block = false }

abbrev pub form_shape : F.Form-F Shape Shape → Shape
form_shape (F.Block ss) = record { fine = all_fine ss; block = true }
form_shape (F.If c a b) = no_block (bodied a && any_bodied b)
form_shape (F.While c a) = no_block (bodied a)
form_shape (F.Repeat c a) = no_block (bodied a)
form_shape (F.MinRepeat a) = no_block (bodied a)
form_shape (F.Reorder ss) = no_block (all_fine ss)
form_shape F.Empty = no_block true
form_shape (F.Declare y ds) = no_block true
form_shape (F.Assign x e) = no_block true
form_shape (F.Call e) = no_block true
form_shape (F.Step kind x by) = no_block true
form_shape (F.For a c n b) = no_block true
form_shape (F.Return e) = no_block true
form_shape (F.Assert e) = no_block true
form_shape (F.Assume e) = no_block true
form_shape (F.Minimize e) = no_block true

abbrev pub shape_of : Stmt → Shape
shape_of = fold-Stmt Shape Shape form_shape (λ s. s.form)

abbrev pub act_shape : Form → Shape
act_shape = fold-Form Shape Shape form_shape (λ s. s.form)

abbrev pub stmt_shaped : Stmt → Bool
stmt_shaped e = (shape_of e).fine

abbrev pub shapes : F.Form-F Form Stmt → F.Form-F Shape Shape
shapes l = map-Form Form Stmt Shape Shape act_shape shape_of l

pub shape_is : (e : Stmt) → shape_of e ≡ act_shape e.form
shape_is e = fold-roll-Stmt Shape Shape form_shape (λ s. s.form) (record { span = e.span; form = e.form })

pub shape_in : (f g : Form) (l : F.Form-F Form Stmt) → f ≡ g → roll-Form l ≡ g → (act_shape f).fine ≡ true → (form_shape (shapes l)).fine ≡ true
shape_in f g l is to h = ap (λ (s : Shape). s.fine) (sym (fold-roll-Form Shape Shape form_shape (λ s. s.form) l)) ∙ ap (λ f. (act_shape f).fine) (to ∙ sym is) ∙ h

pub stmts_shaped : (es : List Stmt) → all_fine (map shape_of es) ≡ true → list_all stmt_shaped es ≡ true
stmts_shaped es h = sym (list_all-map (λ (s : Shape). s.fine) shape_of es) ∙ h

-- what is a block has the form of one
pub is_block : (e : Stmt) → (shape_of e).block ≡ true → (es : List Stmt) × (e.form ≡ form.Block es)
is_block e h =
    let b = built e in
    go b.0 b.1 (ap (λ (s : Shape). s.block) (sym (shape_is e ∙ ap act_shape b.1 ∙ fold-roll-Form Shape Shape form_shape (λ s. s.form) b.0)) ∙ h)
  where
    go : (l : F.Form-F Form Stmt) → e.form ≡ roll-Form l → (form_shape (shapes l)).block ≡ true → (es : List Stmt) × (e.form ≡ form.Block es)
    go (F.Block es) is h = (es, is ∙ form.rolls-Block es)
    go _ is h = cc

-- What is built of such parts is such a statement.

shape_at : (s : Span) (g : Form) (l : F.Form-F Form Stmt) → roll-Form l ≡ g → shape_of (stmt_at s g) ≡ form_shape (shapes l)
shape_at s g l is = shape_is (stmt_at s g) ∙ ap act_shape (sym is) ∙ fold-roll-Form Shape Shape form_shape (λ s. s.form) l

abbrev Shaped : List Stmt → Type 0
Shaped es = list_all stmt_shaped es ≡ true

block_shaped : (s : Span) (es : List Stmt) → Shaped es → bodied (shape_of (stmt_at s (form.Block es))) ≡ true
block_shaped s es h = ap bodied (shape_at s (form.Block es) (F.Block es) (form.rolls-Block es)) ∙ both _ _ (list_all-map (λ (s : Shape). s.fine) shape_of es ∙ h) refl

record IsShaped (p : Plainly) : Type 0 where
  made : Shaped p.made
  body : bodied (shape_of p.body) ≡ true

body_shaped : (p : Plainly) → IsShaped p → stmt_shaped p.body ≡ true
body_shaped p h = (both_true (shape_of p.body).fine (shape_of p.body).block h.body).0

a_block_shaped : (s : Span) (es : List Stmt) → Shaped es → IsShaped (a_block s es)
a_block_shaped s es h =
    let b = block_shaped s es h in
    record { made = both _ _ (both_true (shape_of (stmt_at s (form.Block es))).fine (shape_of (stmt_at s (form.Block es))).block b).0 refl; body = b }

in_block_shaped : (s : Span) (es : List Stmt) → Shaped es → IsShaped (in_block s es)
in_block_shaped s es h = record { made = h; body = block_shaped s es h }

stmt_fine : (s : Span) (g : Form) (l : F.Form-F Form Stmt) → roll-Form l ≡ g → (form_shape (shapes l)).fine ≡ true → stmt_shaped (stmt_at s g) ≡ true
stmt_fine s g l is h = ap (λ (z : Shape). z.fine) (shape_at s g l is) ∙ h

one_shaped : (s : Span) (g : Form) (l : F.Form-F Form Stmt) → roll-Form l ≡ g → (form_shape (shapes l)).fine ≡ true → IsShaped (one s g)
one_shaped s g l is h = in_block_shaped s (stmt_at s g ∷ []) (both _ _ (stmt_fine s g l is h) refl)

append_shaped : (es ds : List Stmt) → Shaped es → Shaped ds → Shaped (es ++ ds)
append_shaped es ds h k = list_all-append stmt_shaped es ds ∙ both _ _ h k

declared_shaped : (s : Span) (y : TyTree) (ds : List Declared) → Shaped (declared_alone s (λ d. form.Declare y (d ∷ [])) ds)
declared_shaped s y [] = refl
declared_shaped s y (d ∷ ds) = both _ _ (stmt_fine s (form.Declare y (d ∷ [])) (F.Declare y (d ∷ [])) (form.rolls-Declare y (d ∷ [])) refl) (declared_shaped s y ds)

-- Statements

abbrev form_plainly : Form → Span → Plainly
form_plainly = fold-Form (Span → Plainly) Plainly form_plain (λ s. s.form s.span)

abbrev FormShaped : Form → Type 0
FormShaped f = (s : Span) → IsShaped (form_plainly f s)

abbrev StmtShaped : Stmt → Type 0
StmtShaped e = IsShaped (plainly e)

abbrev Met : Type 0
Met = (e : Stmt) × StmtShaped e

abbrev parts : StmtLayer FormShaped StmtShaped → F.Form-F Form Stmt
parts y = stmt_parts FormShaped StmtShaped y

all_shaped : (qs : List Met) → Shaped (all_made (map plainly (map (λ (q : Met). q.0) qs)))
all_shaped [] = refl
all_shaped (q ∷ qs) = append_shaped (plainly q.0).made (all_made (map plainly (map (λ (q : Met). q.0) qs))) (q.1).made (all_shaped qs)

layer : (y : StmtLayer FormShaped StmtShaped) (s : Span) → IsShaped (form_plain (map-Form Form Stmt (Span → Plainly) Plainly form_plainly plainly (parts y)) s)
layer (F.Block qs) s = a_block_shaped s _ (all_shaped qs)
layer F.Empty s = in_block_shaped s [] refl
layer (F.Declare y ds) s = in_block_shaped s _ (declared_shaped s y ds)
layer (F.Assign x e) s = one_shaped s (form.Assign x e) (F.Assign x e) (form.rolls-Assign x e) refl
layer (F.Call e) s = one_shaped s (form.Call e) (F.Call e) (form.rolls-Call e) refl
layer (F.Step kind x by) s = one_shaped s (form.Assign x (stepped kind s x by)) (F.Assign x (stepped kind s x by)) (form.rolls-Assign x (stepped kind s x by)) refl
layer (F.If c a None) s = one_shaped s _ (F.If c (plainly a.0).body None) (form.rolls-If c (plainly a.0).body None) (both _ _ (a.1).body refl)
layer (F.If c a (Some b)) s = one_shaped s _ (F.If c (plainly a.0).body (Some (plainly b.0).body)) (form.rolls-If c (plainly a.0).body (Some (plainly b.0).body)) (both _ _ (a.1).body (b.1).body)
layer (F.While c a) s = one_shaped s _ (F.While c (plainly a.0).body) (form.rolls-While c (plainly a.0).body) (a.1).body
layer (F.For a c x b) s =
    let inner = (plainly b.0).body ∷ (plainly x.0).made in
    let inner_shaped : Shaped inner = both _ _ (body_shaped (plainly b.0) b.1) (x.1).made in
    let loop = form.While c (stmt_at s (form.Block inner)) in
    let loop_shaped : stmt_shaped (stmt_at s loop) ≡ true = stmt_fine s loop (F.While c (stmt_at s (form.Block inner))) (form.rolls-While c (stmt_at s (form.Block inner))) (block_shaped s inner inner_shaped) in
    a_block_shaped s ((plainly a.0).made ++ stmt_at s loop ∷ []) (append_shaped (plainly a.0).made (stmt_at s loop ∷ []) (a.1).made (both _ _ loop_shaped refl))
layer (F.Return v) s = one_shaped s (form.Return v) (F.Return v) (form.rolls-Return v) refl
layer (F.Assert e) s = one_shaped s (form.Assert e) (F.Assert e) (form.rolls-Assert e) refl
layer (F.Assume e) s = one_shaped s (form.Assume e) (F.Assume e) (form.rolls-Assume e) refl
layer (F.Minimize e) s = one_shaped s (form.Minimize e) (F.Minimize e) (form.rolls-Minimize e) refl
layer (F.Repeat c a) s = one_shaped s _ (F.Repeat c (plainly a.0).body) (form.rolls-Repeat c (plainly a.0).body) (a.1).body
layer (F.MinRepeat a) s = one_shaped s _ (F.MinRepeat (plainly a.0).body) (form.rolls-MinRepeat (plainly a.0).body) (a.1).body
layer (F.Reorder qs) s = one_shaped s _ (F.Reorder (all_made (map plainly (map (λ (q : Met). q.0) qs)))) (form.rolls-Reorder _) (list_all-map (λ (s : Shape). s.fine) shape_of _ ∙ all_shaped qs)

stmt_is : (e : Stmt) → StmtShaped e
stmt_is = stmt_law FormShaped StmtShaped
    (λ y s. subst IsShaped (λ i. sym (fold-roll-Form (Span → Plainly) Plainly form_plain (λ s. s.form s.span) (parts y)) i s) (layer y s))
    (λ e h. subst IsShaped (sym (fold-roll-Stmt (Span → Plainly) Plainly form_plain (λ s. s.form s.span) (record { span = e.span; form = e.form }))) (h e.span))

pub plain_shaped : (es : List Stmt) → list_all stmt_shaped (plain_stmts es) ≡ true
plain_shaped [] = refl
plain_shaped (e ∷ es) = append_shaped (plain_stmt e) (plain_stmts es) (stmt_is e).made (plain_shaped es)

abbrev pub item_shaped : Item → Bool
item_shaped (item.Fun g) = list_all stmt_shaped g.body
item_shaped (item.Const x e) = true
item_shaped (item.Struct x ys) = true
item_shaped (item.Pragma word text) = true

-- the items of a plain tree
pub items_shaped : (is : List Item) → list_all item_shaped (plain_items is) ≡ true
items_shaped [] = refl
items_shaped (item.Pragma word text ∷ is) = items_shaped is
items_shaped (item.Struct x ys ∷ is) = items_shaped is
items_shaped (item.Const x e ∷ is) = items_shaped is
items_shaped (item.Fun g ∷ is) = both _ _ (plain_shaped g.body) (items_shaped is)
