-- How plain statements and items follow one another.
use Rattle.std.proofs.Common.{◌≡◌, ℕ, List, [], ◌∷◌, ◌++◌, refl, sym, ap, ◌∙◌, append_assoc}
use Rattle.std.specs.Prelude.{map, Option, Some, None}
use Rattle.sk_tree.specs.declared.stmt.Stmt.{Stmt}
use Rattle.sk_tree.specs.declared.item.Item.{Item}
use Rattle.sk_tree.specs.declared.item.Item.TheVariants as item
use Rattle.sk_types_rules.specs.Plain.{all_made, plainly, plain_stmts, plain_items}
use Rattle.sk_types_plain.specs.Plainer.{with_item}

pub all_plain : (es : List Stmt) → all_made (map plainly es) ≡ plain_stmts es
all_plain [] = refl
all_plain (e ∷ es) = ap (λ rest. (plainly e).made ++ rest) (all_plain es)

pub next_item : (x : Item) (xs : List Item) (o : Option Item) → plain_items (x ∷ []) ≡ with_item o [] → plain_items (x ∷ xs) ≡ with_item o (plain_items xs)
next_item (item.Pragma word text) xs None h = refl
next_item (item.Pragma word text) xs (Some y) h = cc
next_item (item.Struct x fields) xs None h = cc
next_item (item.Struct x fields) xs (Some y) h = let is : item.Struct x fields ≡ y = cc in ap (λ y. y ∷ plain_items xs) is
next_item (item.Const x e) xs None h = cc
next_item (item.Const x e) xs (Some y) h = let is : item.Const x e ≡ y = cc in ap (λ y. y ∷ plain_items xs) is
next_item (item.Fun g) xs None h = cc
next_item (item.Fun g) xs (Some y) h = let is : _ ≡ y = cc in ap (λ y. y ∷ plain_items xs) is
