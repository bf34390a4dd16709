-- Tokens of given kinds are found to spell something: the parts of a phrase are found one after another.
use Rattle.std.proofs.Common.{◌≡◌, true, List, [], ◌∷◌, ◌++◌, map, refl, ap, ◌∙◌}
use Rattle.sk_tree.specs.declared.token.Token.{Token}
use Rattle.sk_tree.specs.declared.token.Kind.{Kind}
use Rattle.sk_tree.specs.declared.token.Kind.TheVariants as kind
use Rattle.sk_tree.specs.declared.token.Mark.{Mark}
use Rattle.sk_tree.specs.declared.token.Key.{Key}
use Rattle.sk_tree.specs.Phrase.{Phrase, Nothing, One, Sign, Keyword, ◌▸◌, Each, Behind, Between}
use Rattle.sk_tree.specs.Spelt.{are_some}
use Rattle.sk_tree.specs.Spell.{Kinds, each, behind, between, sign, keyword}
use Rattle.sk_print.proofs.Lexed.{kinds}

abbrev Nil : Type 0
Nil = Unit {0}

-- tokens of these kinds spell some a, of which C holds
pub record Finds (A : Type 0) (P : A → Phrase) (ks : Kinds) (C : A → Type 0) : Type 0 where
  pub find : (ts : List Token) → kinds ts ≡ ks → (a : A) × P a ts × C a

abbrev Split : Kinds → Kinds → List Token → Type 0
Split ks ls ts = (xs ys : List Token) × (ts ≡ xs ++ ys) × (kinds xs ≡ ks) × (kinds ys ≡ ls)

split : (ks ls : Kinds) (ts : List Token) → kinds ts ≡ ks ++ ls → Split ks ls ts
split [] ls ts h = ([], ts, refl, refl, h)
split (k ∷ ks) ls [] h = cc
split (k ∷ ks) ls (t ∷ ts) h =
    let e : t.kind ≡ k = cc in
    let f : kinds ts ≡ ks ++ ls = cc in
    let r = split ks ls ts f in
    (t ∷ r.0, r.1, ap (λ us. t ∷ us) r.2, (λ i. e i ∷ r.3 i), r.4)

pub finds_then : {A B : Type 0} {P : A → Phrase} {Q : B → Phrase} {ks ls : Kinds} {C : A → Type 0} {D : B → Type 0} → Finds A P ks C → Finds B Q ls D → Finds (A × B) (λ r. P r.0 ▸ Q r.1) (ks ++ ls) (λ r. C r.0 × D r.1)
finds_then {ks = ks} {ls = ls} f g = record {
  find = λ ts h.
      let s = split ks ls ts h in
      let a = f.find s.0 s.3 in
      let b = g.find s.1 s.4 in
      ((a.0, b.0), (s.0, s.1, s.2, a.1, b.1), (a.2, b.2));
}

pub finds_as : {A B : Type 0} {P : A → Phrase} {Q : B → Phrase} {ks ls : Kinds} {C : A → Type 0} {D : B → Type 0} → Finds A P ks C → (g : A → B) → ((a : A) (ts : List Token) → C a → P a ts → Q (g a) ts) → ((a : A) → C a → D (g a)) → ls ≡ ks → Finds B Q ls D
finds_as f g p c e = record { find = λ ts h. let r = f.find ts (h ∙ e) in (g r.0, p r.0 ts r.2 r.1, c r.0 r.2) }

none_left : (ts : List Token) → kinds ts ≡ [] → ts ≡ []
none_left [] h = refl
none_left (t ∷ ts) h = cc

pub finds_nothing : Finds Nil (λ u. Nothing) [] (λ u. Nil)
finds_nothing = record { find = λ ts h. (tt, none_left ts h, tt) }

one_found : (k : Kind) (ts : List Token) → kinds ts ≡ k ∷ [] → (u : Nil) × One k ts × Nil
one_found k [] h = cc
one_found k (t ∷ []) h = let e : t.kind ≡ k = cc in (tt, (t.span, ap (λ k. record { kind = k; span = t.span } ∷ []) e), tt)
one_found k (t ∷ u ∷ ts) h = cc

pub finds_one : (k : Kind) → Finds Nil (λ u. One k) (k ∷ []) (λ u. Nil)
finds_one k = record { find = one_found k }

pub finds_sign : (m : Mark) → Finds Nil (λ u. Sign m) (sign m) (λ u. Nil)
finds_sign m = finds_one (kind.Mark m)

pub finds_key : (k : Key) → Finds Nil (λ u. Keyword k) (keyword k) (λ u. Nil)
finds_key k = finds_one (kind.Key k)

-- Lists: a thing is found for each of the others.

abbrev pub Match : {A X : Type 0} → (X → A → Type 0) → List X → List A → Type 0
Match C [] [] = Unit {0}
Match C (x ∷ xs) (a ∷ rest) = C x a × Match C xs rest
Match C [] (a ∷ rest) = ⊥
Match C (x ∷ xs) [] = ⊥

module _ {A X : Type 0} (P : A → Phrase) (spelling : X → Kinds) (C : X → A → Type 0) where
  abbrev pub All : List X → Type 0
  All [] = Unit {0}
  All (x ∷ xs) = Finds A P (spelling x) (C x) × All xs

  pub finds_each : (xs : List X) → All xs → Finds (List A) (Each P) (each (map spelling xs)) (Match C xs)
  finds_each [] all = finds_as finds_nothing (λ u. []) (λ u ts c h. h) (λ u c. tt) refl
  finds_each (x ∷ xs) all = finds_as (finds_then all.0 (finds_each xs all.1)) (λ r. r.0 ∷ r.1) (λ r ts c h. h) (λ r c. c) refl

  pub finds_behind : (m : Mark) (xs : List X) → All xs → Finds (List A) (Behind (Sign m) P) (behind (sign m) (map spelling xs)) (Match C xs)
  finds_behind m [] all = finds_as finds_nothing (λ u. []) (λ u ts c h. h) (λ u c. tt) refl
  finds_behind m (x ∷ xs) all = finds_as (finds_then (finds_sign m) (finds_then all.0 (finds_behind m xs all.1))) (λ r. r.1.0 ∷ r.1.1) (λ r ts c h. h) (λ r c. (c.1.0, c.1.1)) refl

  pub finds_between : (m : Mark) (xs : List X) → All xs → Finds (List A) (Between (Sign m) P) (between (sign m) (map spelling xs)) (Match C xs)
  finds_between m [] all = finds_as finds_nothing (λ u. []) (λ u ts c h. h) (λ u c. tt) refl
  finds_between m (x ∷ xs) all = finds_as (finds_then all.0 (finds_behind m xs all.1)) (λ r. r.0 ∷ r.1) (λ r ts c h. h) (λ r c. c) refl

-- what matches is made the same by two functions that make each part so
pub match_map : {A X B : Type 0} (f : A → B) (g : X → B) (xs : List X) (rest : List A) → Match (λ x a. f a ≡ g x) xs rest → map f rest ≡ map g xs
match_map f g [] [] h = refl
match_map f g (x ∷ xs) (a ∷ rest) h = λ i. h.0 i ∷ match_map f g xs rest h.1 i
match_map f g [] (a ∷ rest) h = absurd h
match_map f g (x ∷ xs) [] h = absurd h

pub match_some : {A X : Type 0} (C : X → A → Type 0) (xs : List X) (rest : List A) → Match C xs rest → are_some xs ≡ true → are_some rest ≡ true
match_some C [] [] h some = cc
match_some C (x ∷ xs) (a ∷ rest) h some = refl
match_some C [] (a ∷ rest) h some = absurd h
match_some C (x ∷ xs) [] h some = absurd h
