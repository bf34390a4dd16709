-- Parts of an expansion side by side: how many sites they have, and what is asked of the choice for each.
use Rattle.std.proofs.Common.{◌≡◌, ℕ, zero, suc, ◌+◌, List, [], ◌∷◌, ◌++◌, map, length, length-append, refl, ap, subst, ◌∙◌, arith}
use Rattle.sk_base.specs.declared.span.Span.{Span}
use Rattle.sk_model.specs.declared.expanded.Site.{Site}
use Rattle.sk_model.specs.Parts.{Part, counts, in_turn, joined}
use Rattle.sk_model.specs.Sites.{places}
use Rattle.sk_model.specs.Stands.{Standing, own, beside, in_row, first_of, only}
use Rattle.sk_holes_laws.specs.Holes.{Below}
use Rattle.sk_holes_laws.specs.Filling.{Every, Ready}

pub below_append : (values : List ℕ) (xs ys : List Site) (i : ℕ) → Below values i (xs ++ ys) → Below values i xs × Below values (i + length xs) ys
below_append values [] ys i h = let e : i ≡ i + 0 = omega arith in (tt, subst (λ n. Below values n ys) e h)
below_append values (x ∷ xs) ys i h =
    let more = below_append values xs ys (i + 1) h.1 in
    let e : i + 1 + length xs ≡ i + suc (length xs) = omega arith in
    ((h.0, more.0), subst (λ n. Below values n ys) e more.1)

pub every_append : {A : Type 0} (Q : A → Type 0) (xs ys : List A) → Every Q (xs ++ ys) → Every Q xs × Every Q ys
every_append Q [] ys h = (tt, h)
every_append Q (x ∷ xs) ys h = let more = every_append Q xs ys h.1 in ((h.0, more.0), more.1)

pub every_join : {A : Type 0} (Q : A → Type 0) (xs ys : List A) → Every Q xs → Every Q ys → Every Q (xs ++ ys)
every_join Q [] ys h k = k
every_join Q (x ∷ xs) ys h k = (h.0, every_join Q xs ys h.1 k)

pub map_same : {A : Type 0} (xs : List A) → map (λ x. x) xs ≡ xs
map_same [] = refl
map_same (x ∷ xs) = ap (λ ys. x ∷ ys) (map_same xs)

pub length-places : (size n : ℕ) (s : Span) → length (places size n s) ≡ n
length-places size zero s = refl
length-places size (suc n) s = ap suc (length-places (size + 1) n s)

-- What is made has as many sites as are listed, and as stand or do not.
pub record Counted (S : List Site) (T : Part Standing) (n : ℕ) : Type 0 where
  pub sites : length S ≡ n
  pub standing : T.count ≡ n

pub none_counted : Counted [] (own 0) 0
none_counted = record { sites = refl; standing = refl }

pub both_counted : (S S' : List Site) (T T' : Part Standing) (n m : ℕ) → Counted S T n → Counted S' T' m → Counted (S ++ S') (beside T T') (n + m)
both_counted S S' T T' n m h k = record { sites = length-append S S' ∙ (λ i. h.sites i + k.sites i); standing = λ i. h.standing i + k.standing i }

module _ (values : List ℕ) (stands : ℕ → Type 0) where
  pub both_ready : (S S' : List Site) (T T' : Part Standing) (n i : ℕ) → Counted S T n → Ready values stands (S ++ S') (beside T T') i → Ready values stands S T i × Ready values stands S' T' (i + n)
  both_ready S S' T T' n i c h =
      let b = below_append values S S' i h.0 in
      let e = every_append stands (T.at i).called (T'.at (i + T.count)).called h.1 in
      ((b.0, e.0), (subst (λ m. Below values (i + m) S') c.sites b.1, subst (λ m. Every stands (T'.at (i + m)).called) c.standing e.1))

  module _ {E X : Type 0} (S : E → List Site) (T : E → Part Standing) (F : E → Part X) where
    abbrev pub CountedPart : E → Type 0
    CountedPart e = Counted (S e) (T e) (F e).count

    pub row_counted : (es : List E) → Every CountedPart es → Counted (joined (map S es)) (in_row (map T es)) (counts (map F es))
    row_counted [] h = none_counted
    row_counted (e ∷ es) h = both_counted (S e) (joined (map S es)) (T e) (in_row (map T es)) (F e).count (counts (map F es)) h.0 (row_counted es h.1)

    pub row_ready : (e : E) (es : List E) (i : ℕ) → CountedPart e → Ready values stands (joined (map S (e ∷ es))) (in_row (map T (e ∷ es))) i → Ready values stands (S e) (T e) i × Ready values stands (joined (map S es)) (in_row (map T es)) (i + (F e).count)
    row_ready e es i c h = both_ready (S e) (joined (map S es)) (T e) (in_row (map T es)) (F e).count i c h

    pub first_count : (v : ℕ) (es : List E) → (in_row (first_of v (map T es))).count ≡ counts (map T es)
    first_count v [] = refl
    first_count zero (e ∷ es) = ap (λ n. (T e).count + n) (first_count zero es)
    first_count (suc v) (e ∷ es) = ap (λ n. (T e).count + n) (first_count v es)

    pub only_count : (v : ℕ) (es : List E) → (in_row (only v (map T es))).count ≡ counts (map T es)
    only_count v [] = refl
    only_count zero (e ∷ es) = ap (λ n. (T e).count + n) (first_count zero es)
    only_count (suc v) (e ∷ es) = ap (λ n. (T e).count + n) (only_count v es)

    pub counts_made : (es : List E) → Every CountedPart es → counts (map T es) ≡ counts (map F es)
    counts_made [] h = refl
    counts_made (e ∷ es) h = λ i. h.0.standing i + counts_made es h.1 i

    pub turn_length : (es : List E) (i : ℕ) → length (in_turn (map F es) i) ≡ length es
    turn_length [] i = refl
    turn_length (e ∷ es) i = ap suc (turn_length es (i + (F e).count))
