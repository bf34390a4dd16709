-- How lines grow.
use Rattle.std.proofs.Common.{◌≡◌, ◌∙◌, ◌++◌, ℕ, List, ap, append_assoc}
use Rattle.std.proofs.lemmas.List.{map-append}
use Rattle.std.proofs.lemmas.List.Concat.{flat_map-append}

pub ruleset headers = (map-append, flat_map-append, append_assoc)

pub three_more : (o a b c x y z : List ℕ) → x ≡ o ++ a → y ≡ x ++ b → z ≡ y ++ c → z ≡ o ++ (a ++ b ++ c)
three_more o a b c x y z p q r =
    r ∙ ap (λ t. t ++ c) (q ∙ ap (λ t. t ++ b) p ∙ append_assoc o a b) ∙ append_assoc o (a ++ b) c

regroup : (o a b c d e : List ℕ) → ((o ++ (a ++ b)) ++ (c ++ d)) ++ e ≡ o ++ (a ++ b ++ c ++ d ++ e)
regroup o a b c d e = simp append_assoc

pub pairs_more : (o a b c d e x y z : List ℕ) → x ≡ o ++ (a ++ b) → y ≡ x ++ (c ++ d) → z ≡ y ++ e → z ≡ o ++ (a ++ b ++ c ++ d ++ e)
pairs_more o a b c d e x y z p q r =
    r ∙ ap (λ t. t ++ e) (q ∙ ap (λ t. t ++ (c ++ d)) p) ∙ regroup o a b c d e
