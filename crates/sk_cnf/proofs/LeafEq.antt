-- `==` of leaves is equality, and is the test that definitions write.
use Rattle.std.proofs.Common.{◌≡◌, ℕ, Bool, true, false, List, Some, length, slice_get, get_or, rules, refl, ap, sym, ◌∙◌, All}
use Rattle.std.specs.List.{list_any}
use Rattle.std.proofs.lemmas.List.Folds.{list_any_none}
use Rattle.std.proofs.lemmas.Option.{slice_get-get_or}
use Rattle.sk_cnf.specs.declared.leaf.Leaf.{Leaf}
use Rattle.sk_cnf.specs.declared.leaf.Leaf.TheVariants.{Hole, Input}
use Rattle.sk_cnf.specs.contracts.leaf.LeafPartialEq.TheImpl as leaf_eq

pub equal_leaf : (x y : Leaf) → (leaf_eq.eq-value).it x y ≡ true → x ≡ y
equal_leaf (Hole s k) y h = search rules
equal_leaf (Input s k) y h = search rules

-- a leaf that is not among others
pub absent_leaf : (leaves : List Leaf) (x : Leaf) → ((i : ℕ) → slice_get leaves i ≡ Some x → ⊥) → list_any ((leaf_eq.eq-value).it x) leaves ≡ false
absent_leaf leaves x none = list_any_none ((leaf_eq.eq-value).it x) leaves (λ i d h. by i d h ((leaf_eq.eq-value).it x (get_or leaves i d)) refl)
  where
    by : (i : ℕ) (d : Leaf) → Rattle.std.proofs.Common.◌<◌ i (length leaves) → (b : Bool) → (leaf_eq.eq-value).it x (get_or leaves i d) ≡ b → (leaf_eq.eq-value).it x (get_or leaves i d) ≡ false
    by i d h false e = e
    by i d h true e = absurd (none i (slice_get-get_or leaves i d h ∙ ap Some (sym (equal_leaf x (get_or leaves i d) e))))

pub leaf_same : (x : Leaf) → (leaf_eq.eq-value).it x x ≡ true
leaf_same x = search rules
