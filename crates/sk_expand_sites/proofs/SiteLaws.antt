-- The sites of a reorder, one after another.
use Rattle.std.proofs.Common.{◌≡◌, ℕ, zero, suc, ◌+◌, List, [], ◌∷◌, ◌++◌, refl, sym, ap, ◌∙◌, arith, length, append_assoc, length-append}
use Rattle.std.proofs.lemmas.List.{replicate_more, length-replicate}
use Rattle.sk_base.specs.declared.span.Span.{Span}
use Rattle.sk_model.specs.declared.expanded.Site.{Site}
use Rattle.sk_model.specs.Sites.{site, places}

more_from : (size n : ℕ) (span : Span) → places size n span ++ site (size + n) span ∷ [] ≡ places size (suc n) span
more_from size zero span = let e : size + 0 ≡ size = omega arith in ap (λ k. site k span ∷ []) e
more_from size (suc n) span =
    let e : size + suc n ≡ size + 1 + n = omega arith in
    ap (λ k. site size span ∷ (places (size + 1) n span ++ site k span ∷ [])) e ∙ ap (λ ss. site size span ∷ ss) (more_from (size + 1) n span)

-- one more site, which has one value more than the last
pub places_more : (n : ℕ) (span : Span) → places 2 n span ++ site (n + 2) span ∷ [] ≡ places 2 (n + 1) span
places_more n span =
    let e : n + 2 ≡ 2 + n = omega arith in
    let f : n + 1 ≡ suc n = omega arith in
    ap (λ k. places 2 n span ++ site k span ∷ []) e ∙ more_from 2 n span ∙ ap (λ m. places 2 m span) (sym f)

-- a reorder has so many sites
pub length-places : (size n : ℕ) (span : Span) → length (places size n span) ≡ n
length-places size zero span = refl
length-places size (suc n) span = ap suc (length-places (size + 1) n span)

pub ruleset bits_listed = (replicate_more, length-replicate)

pub ruleset places_listed = (places_more, length-places, append_assoc, length-append)
