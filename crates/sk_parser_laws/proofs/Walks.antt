-- A walk over patterns, one after another.
use Rattle.std.proofs.Common.{◌≡◌, List, [], ◌∷◌, ◌++◌, map, flat_map, refl, ap}
use Rattle.sk_tree.specs.declared.pattern.Pattern.{Pattern}
use Rattle.sk_tree.specs.Patterns.{Patterns, join}
use Rattle.sk_parser_laws.specs.Faults.{Tally, seen, all_seen}

pub all_seen_none : (t : Tally) → all_seen t [] ≡ t
unfolding all_seen
all_seen_none t = refl

pub all_seen_one : (t : Tally) (p : Pattern) → all_seen t (p ∷ []) ≡ seen t p
unfolding all_seen
all_seen_one t p = refl

pub all_seen_both : (t : Tally) (ps qs : Patterns) → all_seen t (ps ++ qs) ≡ all_seen (all_seen t ps) qs
unfolding all_seen
all_seen_both t [] qs = refl
all_seen_both t (p ∷ ps) qs = all_seen_both (seen t p) ps qs

pub join_map : {A : Type 0} (f : A → Patterns) (xs : List A) → join (map f xs) ≡ flat_map f xs
join_map f [] = refl
join_map f (x ∷ xs) = ap (λ (l : Patterns). f x ++ l) (join_map f xs)
