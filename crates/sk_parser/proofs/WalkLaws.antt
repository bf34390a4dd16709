-- Steps of a walk over patterns: the parts of a form, one after another, and the items of a list.
use Rattle.std.proofs.Common.{◌≡◌, ℕ, ◌+◌, ◌<◌, ◌≤◌, suc, List, [], ◌∷◌, ◌++◌, length, drop, get_or, flat_map, sym, ap, ◌∙◌, add-one}
use Rattle.std.proofs.Math.Seq.{drop-cons}
use Rattle.std.proofs.lemmas.List.{at_drop_all}
use Rattle.sk_tree.specs.declared.pattern.Pattern.{Pattern}
use Rattle.sk_tree.specs.Patterns.{Patterns}
use Rattle.sk_parser_laws.specs.Faults.{Tally, seen, all_seen}
use Rattle.sk_parser_laws.proofs.Walks.{all_seen_none, all_seen_one, all_seen_both}

-- Forms with no part, with a pattern, and with several parts, where this is what patterns they have

pub none_seen : (t : Tally) (all : Patterns) → all ≡ [] → t ≡ all_seen t all
none_seen t all is = sym (all_seen_none t) ∙ ap (all_seen t) (sym is)

pub one_seen : (t u : Tally) (all : Patterns) (p : Pattern) → all ≡ p ∷ [] → u ≡ seen t p → u ≡ all_seen t all
one_seen t u all p is a = a ∙ sym (all_seen_one t p) ∙ ap (all_seen t) (sym is)

both : (t u v : Tally) (ps qs : Patterns) → u ≡ all_seen t ps → v ≡ all_seen u qs → v ≡ all_seen t (ps ++ qs)
both t u v ps qs a b = b ∙ ap (λ (y : Tally). all_seen y qs) a ∙ sym (all_seen_both t ps qs)

pub two_seen : (t u v : Tally) (all ps qs : Patterns) → all ≡ ps ++ qs → u ≡ all_seen t ps → v ≡ all_seen u qs → v ≡ all_seen t all
two_seen t u v all ps qs is a b = both t u v ps qs a b ∙ ap (all_seen t) (sym is)

pub three_seen : (t u v w : Tally) (all ps qs rs : Patterns) → all ≡ ps ++ qs ++ rs → u ≡ all_seen t ps → v ≡ all_seen u qs → w ≡ all_seen v rs → w ≡ all_seen t all
three_seen t u v w all ps qs rs is a b c = both t v w (ps ++ qs) rs (both t u v ps qs a b) c ∙ ap (all_seen t) (sym is)

pub four_seen : (t u v w x : Tally) (all ps qs rs ss : Patterns) → all ≡ ps ++ qs ++ rs ++ ss → u ≡ all_seen t ps → v ≡ all_seen u qs → w ≡ all_seen v rs → x ≡ all_seen w ss → x ≡ all_seen t all
four_seen t u v w x all ps qs rs ss is a b c d = both t w x (ps ++ qs ++ rs) ss (both t v w (ps ++ qs) rs (both t u v ps qs a b) c) d ∙ ap (all_seen t) (sym is)

-- Lists: what is to come, seen on top of what was met, gives the whole

item_at : {A : Type 0} (xs : List A) (i : ℕ) (x : A) → i < length xs → x ≡ get_or xs i x → drop i xs ≡ x ∷ drop (i + 1) xs
item_at xs i x h e = drop-cons xs i x h ∙ ap (λ y. y ∷ drop (suc i) xs) (sym e) ∙ ap (λ n. x ∷ drop n xs) (sym (add-one i))

pub item_seen : {A : Type 0} (f : A → Patterns) (t u whole : Tally) (xs : List A) (i : ℕ) (x : A) → i < length xs → x ≡ get_or xs i x → u ≡ all_seen t (f x) → all_seen t (flat_map f (drop i xs)) ≡ whole → all_seen u (flat_map f (drop (i + 1) xs)) ≡ whole
item_seen {A} f t u whole xs i x h e step before =
    ap (λ (y : Tally). all_seen y (flat_map f (drop (i + 1) xs))) step
    ∙ sym (all_seen_both t (f x) (flat_map f (drop (i + 1) xs)))
    ∙ sym (ap (λ (l : List A). all_seen t (flat_map f l)) (item_at xs i x h e))
    ∙ before

pub list_seen : {A : Type 0} (f : A → Patterns) (t whole : Tally) (xs : List A) (i : ℕ) → length xs ≤ i → all_seen t (flat_map f (drop i xs)) ≡ whole → t ≡ whole
list_seen {A} f t whole xs i h before = sym (all_seen_none t) ∙ sym (at_drop_all (λ (l : List A). all_seen t (flat_map f l)) xs i h) ∙ before
