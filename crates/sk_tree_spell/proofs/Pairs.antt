-- Strings behind fronts.
use Rattle.std.proofs.Common.{◌≡◌, ◌<◌, ◌≤◌, ◌+◌, ℕ, List, [], ◌∷◌, ◌++◌, map, drop, get_or, length, refl, sym, ap, ◌∙◌, append_assoc, append-nil}
use Rattle.std.proofs.lemmas.List.{map-append, at_drop_more, at_drop_all}
use Rattle.sk_tree.specs.declared.pattern.Pattern.{Pattern}
use Rattle.sk_tree.specs.declared.token.Token.{Token}
use Rattle.sk_tree.specs.Strings.{Strings, strings_of, pairs, rows}
use Rattle.sk_tree_spell.specs.Counts.{prefixed}

-- behind the empty front
pub prefixed_nothing : (ss : Strings) → prefixed [] ss ≡ ss
prefixed_nothing [] = refl
prefixed_nothing (s ∷ ss) = ap (λ (z : Strings). s ∷ z) (prefixed_nothing ss)

-- behind one front and another
pub prefixed_twice : (f g : List Token) (ss : Strings) → prefixed f (prefixed g ss) ≡ prefixed (f ++ g) ss
prefixed_twice f g [] = refl
prefixed_twice f g (s ∷ ss) = ap (λ (t : List Token). t ∷ prefixed f (prefixed g ss)) (sym (append_assoc f g s)) ∙ ap (λ (z : Strings). ((f ++ g) ++ s) ∷ z) (prefixed_twice f g ss)

-- the empty string behind each
pub pairs_nothing : (fs : Strings) → pairs fs ([] ∷ []) ≡ fs
pairs_nothing [] = refl
pairs_nothing (f ∷ fs) = ap (λ (t : List Token). t ∷ pairs fs ([] ∷ [])) (append-nil f) ∙ ap (λ (z : Strings). f ∷ z) (pairs_nothing fs)

-- one front
pub pairs_one : (f : List Token) (ss : Strings) → pairs (f ∷ []) ss ≡ prefixed f ss
pairs_one f ss = append-nil (prefixed f ss)

pairs_append : (fs gs ss : Strings) → pairs (fs ++ gs) ss ≡ pairs fs ss ++ pairs gs ss
pairs_append [] gs ss = refl
pairs_append (f ∷ fs) gs ss = ap (λ (z : Strings). prefixed f ss ++ z) (pairs_append fs gs ss) ∙ sym (append_assoc (prefixed f ss) (pairs fs ss) (pairs gs ss))

prefixed_pairs : (f : List Token) (fs ss : Strings) → pairs (prefixed f fs) ss ≡ prefixed f (pairs fs ss)
prefixed_pairs f [] ss = refl
prefixed_pairs f (g ∷ gs) ss =
    ap (λ (z : Strings). prefixed (f ++ g) ss ++ z) (prefixed_pairs f gs ss)
    ∙ ap (λ (z : Strings). z ++ prefixed f (pairs gs ss)) (sym (prefixed_twice f g ss))
    ∙ sym (map-append (λ s. f ++ s) (prefixed g ss) (pairs gs ss))

-- pairs of pairs
pub pairs_assoc : (fs gs ss : Strings) → pairs (pairs fs gs) ss ≡ pairs fs (pairs gs ss)
pairs_assoc [] gs ss = refl
pairs_assoc (f ∷ fs) gs ss =
    pairs_append (prefixed f gs) (pairs fs gs) ss
    ∙ ap (λ (z : Strings). z ++ pairs (pairs fs gs) ss) (prefixed_pairs f gs ss)
    ∙ ap (λ (z : Strings). prefixed f (pairs gs ss) ++ z) (pairs_assoc fs gs ss)

-- The strings of the parts so far, as fronts of those of the other parts.

pub row_more : (parts : List Pattern) (i : ℕ) (p : Pattern) (front : List Token) (fs gs : Strings) → i < length parts → p ≡ get_or parts i p → gs ≡ pairs fs (strings_of p)
    → pairs fs (rows (map strings_of (drop i parts))) ≡ prefixed front (rows (map strings_of parts))
    → pairs gs (rows (map strings_of (drop (i + 1) parts))) ≡ prefixed front (rows (map strings_of parts))
row_more parts i p front fs gs within is grown before =
    let rest = rows (map strings_of (drop (i + 1) parts)) in
    ap (λ (z : Strings). pairs z rest) grown
    ∙ pairs_assoc fs (strings_of p) rest
    ∙ ap (λ (q : Pattern). pairs fs (pairs (strings_of q) rest)) is
    ∙ sym (at_drop_more (λ (ps : List Pattern). pairs fs (rows (map strings_of ps))) parts i p within)
    ∙ before

pub row_all : (parts : List Pattern) (i : ℕ) (front : List Token) (fs : Strings) → length parts ≤ i
    → pairs fs (rows (map strings_of (drop i parts))) ≡ prefixed front (rows (map strings_of parts))
    → fs ≡ prefixed front (rows (map strings_of parts))
row_all parts i front fs past before =
    sym (pairs_nothing fs) ∙ sym (at_drop_all (λ (ps : List Pattern). pairs fs (rows (map strings_of ps))) parts i past) ∙ before
