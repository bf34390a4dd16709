-- The lines of a completion, put together in two ways.
use Rattle.std.proofs.Common.{◌≡◌, ℕ, List, [], ◌++◌, Some, map, refl, sym, ap, ◌∙◌, append_assoc, codes}
use Rattle.std.specs.Fmt.{decimal}
use Rattle.std.specs.List.{flat_map}
use Rattle.std.proofs.lemmas.List.{append-nil}
use Rattle.std.proofs.lemmas.List.Folds.{flat_map-map}
use Rattle.sk_cert.specs.Certificates.{result_lines}
use Rattle.sk_cert_layouts.specs.Laws.{SameLines}

pub same_lines : SameLines
same_lines a value =
    let front : List ℕ = codes "//@ completion\n//@ value " in
    let listed : List ℕ = flat_map (λ w. codes " " ++ w) (map decimal a.values) in
    let holes : List ℕ = (codes "//@ holes" ++ listed) ++ codes "\n" in
    let begin : result_lines (Some a) value ≡ front ++ (((decimal value ++ []) ++ codes "\n") ++ holes) = refl in
    let short : front ++ (((decimal value ++ []) ++ codes "\n") ++ holes) ≡ front ++ ((decimal value ++ codes "\n") ++ holes) = ap (λ d. front ++ ((d ++ codes "\n") ++ holes)) (append-nil (decimal value)) in
    let moved : front ++ ((decimal value ++ codes "\n") ++ holes) ≡ front ++ (decimal value ++ (codes "\n" ++ holes)) = ap (λ t. front ++ t) (append_assoc (decimal value) (codes "\n") holes) in
    let one : codes "\n" ++ holes ≡ codes "\n//@ holes" ++ (listed ++ codes "\n") = refl in
    let same : listed ≡ flat_map (λ n. codes " " ++ decimal n) a.values = flat_map-map (λ w. codes " " ++ w) decimal a.values in
    let mark : List ℕ = codes "\n//@ holes" in
    let spaced : List ℕ = flat_map (λ n. codes " " ++ decimal n) a.values in
    let left : decimal value ++ (mark ++ (spaced ++ codes "\n")) ≡ ((decimal value ++ mark) ++ spaced) ++ codes "\n" = sym (append_assoc (decimal value) mark (spaced ++ codes "\n")) ∙ sym (append_assoc (decimal value ++ mark) spaced (codes "\n")) in
    begin ∙ short ∙ moved ∙ ap (λ t. front ++ (decimal value ++ t)) one ∙ ap (λ t. front ++ (decimal value ++ (mark ++ (t ++ codes "\n")))) same ∙ ap (λ t. front ++ t) left
