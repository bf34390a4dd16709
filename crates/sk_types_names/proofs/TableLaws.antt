-- What a tree of rows has at a name, and after a change at a name.
use Rattle.std.proofs.Common.{◌≡◌, ℕ, Bool, true, false, cond, List, [], ◌∷◌, Option, Some, None, refl, sym, ap, subst, ◌∙◌, ⊎_elim}
use Rattle.std.specs.Prelude.{map, nat_eq, IsSome}
use Rattle.std.specs.Ordering.{is_eq, nat_cmp}
use Rattle.std.specs.Cmp.{eq_by_cmp_equiv}
use Rattle.std.specs.Cmp.Lexicographic.{slice_cmp, nat_list_eq_equiv, bytes_decides}
use Rattle.std.specs.BTreeMap.{BTreeMap, is_at}
use Rattle.std.specs.BTreeMap as tree
use Rattle.std.specs.Map.{lookup, IsKeyTest, AreApart, KeepsOthers}
use Rattle.std.specs.Str.{bytes_eq}
use Rattle.std.proofs.lemmas.Bool.{cases_Bool, cond-true, cond-false}
use Rattle.std.proofs.lemmas.Cmp.{nat_list_cmp_total}
use Rattle.std.proofs.lemmas.Map.Text.{is_eq-slice_cmp}
use Rattle.sk_types_names.specs.Tables.{number_of, Sets}

apart : (x y z : List ℕ) → bytes_eq x y ≡ false → is_eq (slice_cmp nat_cmp x z) ≡ true → is_eq (slice_cmp nat_cmp y z) ≡ false
apart x y z n same =
    is_eq-slice_cmp y z ∙ nat_list_eq_equiv.symm y z ∙ sym (nat_list_eq_equiv.congr x z y (sym (is_eq-slice_cmp x z) ∙ same)) ∙ n

others : {K X : Type 0} (eq : K → K → Bool) (test : K → Bool) (old new : List (K × X)) → KeepsOthers eq test old new → (other : K → Bool) → IsKeyTest eq other → AreApart test other → lookup other new ≡ lookup other old
unfolding KeepsOthers
others eq test old new h = h

module _ {K : Type 0} (bytes : K → List ℕ) where
  -- the rows that are seen
  abbrev pub seen : List (K × ℕ) → List (List ℕ × ℕ)
  seen rows = map (λ row. (bytes row.0, row.1)) rows

  -- what is looked up is what is seen
  looked : (x : List ℕ) (rows : List (K × ℕ)) → lookup (is_at (λ k. slice_cmp nat_cmp x (bytes k))) rows ≡ lookup (bytes_eq x) (seen rows)
  looked x [] = refl
  looked x (row ∷ rows) = (λ i. cond (is_eq-slice_cmp x (bytes row.0) i) (Some row.1) (looked x rows i))

  pub found : (x : List ℕ) (rows : List (K × ℕ)) → lookup (is_at (λ k. slice_cmp nat_cmp x (bytes k))) rows ≡ number_of (seen rows) x
  unfolding number_of
  found x rows = looked x rows

  -- a change at the name x
  changed : (x : List ℕ) (m n : BTreeMap K ℕ) (w : Option ℕ) → tree.UpdatesBy (λ j k. slice_cmp nat_cmp (bytes j) (bytes k)) (λ k. slice_cmp nat_cmp x (bytes k)) m n w → Sets (seen m.entries) (seen n.entries) x w
  changed x m n w h y =
      ⊎_elim
      (λ same. sym (found y n.entries) ∙ subst (λ z. lookup (is_at (λ k. slice_cmp nat_cmp z (bytes k))) n.entries ≡ w) ((bytes_decides x y).0 same) h.1 ∙ sym (cond-true (bytes_eq x y) w (number_of (seen m.entries) y) same))
      (λ no. sym (found y n.entries)
      ∙ others _ _ m.entries n.entries h.3 (is_at (λ k. slice_cmp nat_cmp y (bytes k))) (λ j k. (eq_by_cmp_equiv nat_list_cmp_total).congr y (bytes j) (bytes k)) (λ k. apart x y (bytes k) no)
      ∙ found y m.entries ∙ sym (cond-false (bytes_eq x y) w (number_of (seen m.entries) y) no))
      (cases_Bool (bytes_eq x y))

  -- the same, as rows and names are seen
  pub sets : (x z : List ℕ) (rows : List (List ℕ × ℕ)) (m n : BTreeMap K ℕ) (w : Option ℕ) → x ≡ z → seen m.entries ≡ rows
      → tree.UpdatesBy (λ j k. slice_cmp nat_cmp (bytes j) (bytes k)) (λ k. slice_cmp nat_cmp x (bytes k)) m n w → Sets rows (seen n.entries) z w
  sets x z rows m n w e same h = subst (λ z. Sets rows (seen n.entries) z w) e (subst (λ rows. Sets rows (seen n.entries) x w) same (changed x m n w h))
