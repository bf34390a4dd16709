-- Inputs are apart exactly where each is new.
use Rattle.std.proofs.Common.{◌≡◌, ℕ, zero, suc, List, [], ◌∷◌, map, slice_get, Some, Bool, true, false, not, ◌||◌, refl, sym, ap, subst, ◌∙◌, arith, true≢false}
use Rattle.std.specs.Prelude.{◌&&◌, IsTrue, ◌↔◌}
use Rattle.std.specs.List.{list_any}
use Rattle.std.proofs.Common.{Vec, Global}
use Rattle.std.specs.Cmp.{Equal-is, tied_itself}
use Rattle.std.specs.Cmp.Lexicographic.{slice_cmp}
use Rattle.std.specs.Ordering.{nat_cmp, match_ordering, is_eq}
use Rattle.std.specs.declared.cmp.Ordering.{Ordering}
use Rattle.std.specs.declared.cmp.Ordering.TheVariants.{Less, Equal, Greater}
use Rattle.std.specs.BTreeMap.{is_at}
use Rattle.std.specs.BTreeSet.{insert_key}
use Rattle.std.proofs.lemmas.Bool.{and_parts}
use Rattle.std.proofs.lemmas.Cmp.{nat_list_cmp_total}
use Rattle.std.proofs.lemmas.Map.Lookups.{exact_bytes}
use Rattle.std.proofs.lemmas.Option.{none-some, same_Some}
use Rattle.sk_cert.specs.declared.certificate.CertInput.{CertInput}
use Rattle.sk_cert_inputs.specs.Inputs.{AreApart}
use Rattle.sk_cert_inputs.specs.Words.{words, among, all_new}
use Rattle.sk_cert_inputs.proofs.Numerals.{words_apart}

abbrev compared : List ℕ → List ℕ → Ordering
compared = slice_cmp nat_cmp

same : (w v : List ℕ) → is_at (compared w) v ≡ true → w ≡ v
same w v e = exact_bytes w v ((Equal-is (compared w v)).0 e)

itself : (w v : List ℕ) → w ≡ v → is_at (compared w) v ≡ true
itself w v e = subst (λ u. is_at (compared w) u ≡ true) e (ap is_eq (tied_itself nat_list_cmp_total w))

or_turn : (a b c : Bool) → a || (b || c) ≡ b || (a || c)
or_turn true true c = refl
or_turn true false c = refl
or_turn false b c = refl

or_twice : (a c : Bool) → a || c ≡ a || (a || c)
or_twice true c = refl
or_twice false c = refl

or_false : (a b : Bool) → a || b ≡ false → (a ≡ false) × (b ≡ false)
or_false true b h = absurd (true≢false h)
or_false false b h = (refl, h)

by_test : {P : Type 0} (b : Bool) → (b ≡ true → P) → (b ≡ false → P) → P
by_test true f g = f refl
by_test false f g = g refl

-- among those with one more are that one and those that were there
among_more : (w v : List ℕ) (seen : List (List ℕ)) → among w (insert_key compared seen v) ≡ is_at (compared w) v || among w seen
among_more w v [] = refl
among_more w v (x ∷ seen) = by (compared v x) refl (among_more w v seen)
  where
    by : (o : Ordering) → compared v x ≡ o → among w (insert_key compared seen v) ≡ is_at (compared w) v || among w seen → among w (match_ordering o (v ∷ x ∷ seen) (x ∷ seen) (x ∷ insert_key compared seen v)) ≡ is_at (compared w) v || among w (x ∷ seen)
    by Less e rest = refl
    by Equal e rest =
        let eq : v ≡ x = exact_bytes v x e in
        or_twice (is_at (compared w) x) (among w seen) ∙ ap (λ u. is_at (compared w) u || among w (x ∷ seen)) (sym eq)
    by Greater e rest = ap (λ b. is_at (compared w) x || b) rest ∙ or_turn (is_at (compared w) x) (is_at (compared w) v) (among w seen)

-- each is among none of those that were seen
fresh : (seen : List (List ℕ)) (cs : List CertInput) → all_new seen cs ≡ true → (i : ℕ) (c : CertInput) → slice_get cs i ≡ Some c → among (words c) seen ≡ false
fresh seen [] h i c at = absurd (none-some c at)
fresh seen (d ∷ cs) h zero c at =
    let hs = and_parts (not (among (words d) seen)) (all_new (insert_key compared seen (words d)) cs) h in
    denied (among (words c) seen) (subst (λ x. not (among (words x) seen) ≡ true) (same_Some d c at) hs.0)
  where
    denied : (b : Bool) → not b ≡ true → b ≡ false
    denied true h = absurd (true≢false (sym h))
    denied false h = refl
fresh seen (d ∷ cs) h (suc i) c at =
    let hs = and_parts (not (among (words d) seen)) (all_new (insert_key compared seen (words d)) cs) h in
    let rest = fresh (insert_key compared seen (words d)) cs hs.1 i c at in
    (or_false (is_at (compared (words c)) (words d)) (among (words c) seen) (sym (among_more (words c) (words d) seen) ∙ rest)).1

-- none stands again behind itself
not_again : (seen : List (List ℕ)) (d : CertInput) (cs : List CertInput) → all_new seen (d ∷ cs) ≡ true → (j : ℕ) (c : CertInput) → d ≡ c → slice_get cs j ≡ Some c → ⊥
not_again seen d cs h j c e at =
    let hs = and_parts (not (among (words d) seen)) (all_new (insert_key compared seen (words d)) cs) h in
    let rest = fresh (insert_key compared seen (words d)) cs hs.1 j c at in
    let none = (or_false (is_at (compared (words c)) (words d)) (among (words c) seen) (sym (among_more (words c) (words d) seen) ∙ rest)).0 in
    true≢false (sym (itself (words c) (words d) (ap words (sym e))) ∙ none)

new_are_apart : (seen : List (List ℕ)) (cs : List CertInput) → all_new seen cs ≡ true → (i j : ℕ) (c : CertInput) → slice_get cs i ≡ Some c → slice_get cs j ≡ Some c → i ≡ j
new_are_apart seen [] h i j c a b = absurd (none-some c a)
new_are_apart seen (d ∷ cs) h zero zero c a b = refl
new_are_apart seen (d ∷ cs) h zero (suc j) c a b = absurd (not_again seen d cs h j c (same_Some d c a) b)
new_are_apart seen (d ∷ cs) h (suc i) zero c a b = absurd (not_again seen d cs h i c (same_Some d c b) a)
new_are_apart seen (d ∷ cs) h (suc i) (suc j) c a b =
    let hs = and_parts (not (among (words d) seen)) (all_new (insert_key compared seen (words d)) cs) h in
    ap suc (new_are_apart (insert_key compared seen (words d)) cs hs.1 i j c a b)

apart_are_new : (seen : List (List ℕ)) (cs : List CertInput) → ((i j : ℕ) (c : CertInput) → slice_get cs i ≡ Some c → slice_get cs j ≡ Some c → i ≡ j) → ((i : ℕ) (c : CertInput) → slice_get cs i ≡ Some c → among (words c) seen ≡ false) → all_new seen cs ≡ true
apart_are_new seen [] apart none = refl
apart_are_new seen (d ∷ cs) apart none =
    let rest = apart_are_new (insert_key compared seen (words d)) cs (λ i j c a b. (let e : suc i ≡ suc j = apart (suc i) (suc j) c a b in omega (arith, e))) (λ i c at. among_more (words c) (words d) seen ∙ ap (λ b. b || among (words c) seen) (differ i c at) ∙ none (suc i) c at) in
    ap (λ b. not b && all_new (insert_key compared seen (words d)) cs) (none 0 d refl) ∙ rest
  where
    differ : (i : ℕ) (c : CertInput) → slice_get cs i ≡ Some c → is_at (compared (words c)) (words d) ≡ false
    differ i c at = by_test (is_at (compared (words c)) (words d)) (λ e. (
        let eq : c ≡ d = words_apart c d (same (words c) (words d) e) in
        let place : 0 ≡ suc i = apart 0 (suc i) c (ap (λ x. Some x) (sym eq)) at in
        absurd (omega (arith, place)))) (λ e. e)

pub apart_exactly : (cs : List CertInput) (apart : Bool) → apart ≡ all_new [] cs → IsTrue apart ↔ AreApart cs
apart_exactly cs apart e = (
  λ h. record { apart = new_are_apart [] cs (sym e ∙ h) },
  λ a. e ∙ apart_are_new [] cs a.apart (λ i c at. refl),
)

-- Keys of a set

abbrev Key : Type 0
Key = Vec ℕ Global

abbrev keys_compared : Key → Key → Ordering
keys_compared k l = compared k.items l.items

pub seen_among : (k : Key) (seen : List Key) → list_any (is_at (keys_compared k)) seen ≡ among k.items (map (λ l. l.items) seen)
seen_among k [] = refl
seen_among k (l ∷ seen) = ap (λ b. is_at (keys_compared k) l || b) (seen_among k seen)

pub seen_more : (k : Key) (seen : List Key) → map (λ l. l.items) (insert_key keys_compared seen k) ≡ insert_key compared (map (λ l. l.items) seen) k.items
seen_more k [] = refl
seen_more k (l ∷ seen) = by (keys_compared k l) (seen_more k seen)
  where
    by : (o : Ordering) → map (λ l. l.items) (insert_key keys_compared seen k) ≡ insert_key compared (map (λ l. l.items) seen) k.items → map (λ l. l.items) (match_ordering o (k ∷ l ∷ seen) (l ∷ seen) (l ∷ insert_key keys_compared seen k)) ≡ match_ordering o (k.items ∷ l.items ∷ map (λ l. l.items) seen) (l.items ∷ map (λ l. l.items) seen) (l.items ∷ insert_key compared (map (λ l. l.items) seen) k.items)
    by Less rest = refl
    by Equal rest = refl
    by Greater rest = ap (λ ls. l.items ∷ ls) rest
