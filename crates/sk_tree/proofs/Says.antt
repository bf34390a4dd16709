-- Which kinds the tokens of a phrase have.
use Rattle.std.proofs.Common.{◌≡◌, List, [], ◌∷◌, ◌++◌, map, refl, ap, ◌∙◌, subst, Option, Some, None}
use Rattle.std.proofs.lemmas.List.{map-append}
use Rattle.sk_base.specs.declared.span.Span.{Span}
use Rattle.sk_tree.specs.declared.token.Token.{Token}
use Rattle.sk_tree.specs.declared.token.Kind.{Kind}
use Rattle.sk_tree.specs.Phrase.{Phrase, Nothing, Given, One, ◌▸◌, Each, Behind, Between, Perhaps}
use Rattle.sk_tree.specs.Spelt.{Spans}
use Rattle.sk_tree.specs.Spell.{Kinds, each, behind, between, perhaps}

abbrev pub kinds : List Token → List Kind
kinds ts = map (λ t. t.kind) ts

-- all tokens that say it have these kinds
pub record Says (P : Phrase) (ks : List Kind) : Type 0 where
  pub says : (ts : List Token) → P ts → kinds ts ≡ ks

pub says_same : {P Q : Phrase} {p q : List Kind} → P ≡ Q → p ≡ q → Says P p → Says Q q
says_same {Q = Q} {p = p} e f h = subst (λ ks. Says Q ks) f (subst (λ R. Says R p) e h)

pub says_nothing : Says Nothing []
says_nothing = record { says = λ ts h. ap kinds h }

pub says_one : (k : Kind) → Says (One k) (k ∷ [])
says_one k = record { says = λ ts h. ap kinds h.1 }

pub says_never : (ks : List Kind) → Says (λ ts. ⊥) ks
says_never ks = record { says = λ ts h. absurd h }

pub says_then : {P Q : Phrase} {p q : List Kind} → Says P p → Says Q q → Says (P ▸ Q) (p ++ q)
says_then {p = p} f g = record { says = λ ts h. ap kinds h.2 ∙ map-append (λ t. t.kind) h.0 h.1 ∙ ap (λ ks. ks ++ kinds h.1) (f.says h.0 h.3) ∙ ap (λ ks. p ++ ks) (g.says h.1 h.4) }

pub says_given : {T : Type 0} {P : Phrase} {p : List Kind} → Says P p → Says (Given T P) p
says_given f = record { says = λ ts h. f.says ts h.1 }

pub says_spans : {P : Phrase} {p : List Kind} (s : Span) → Says P p → Says (Spans s P) p
says_spans s f = record { says = λ ts h. f.says ts h.0 }

-- the parts of things of which it is known
module _ {A B : Type 0} (part : B → A) (P : A → Phrase) (k : A → Kinds) (said : (b : B) → Says (P (part b)) (k (part b))) where
  pub says_each : (bs : List B) → Says (Each P (map part bs)) (each (map k (map part bs)))
  says_each [] = says_nothing
  says_each (b ∷ bs) = says_then (said b) (says_each bs)

  pub says_behind : {S : Phrase} {s : Kinds} → Says S s → (bs : List B) → Says (Behind S P (map part bs)) (behind s (map k (map part bs)))
  says_behind by [] = says_nothing
  says_behind by (b ∷ bs) = says_then by (says_then (said b) (says_behind by bs))

  pub says_between : {S : Phrase} {s : Kinds} → Says S s → (bs : List B) → Says (Between S P (map part bs)) (between s (map k (map part bs)))
  says_between by [] = says_nothing
  says_between by (b ∷ bs) = says_then (said b) (says_behind by bs)

-- where it is known of all
module _ {A : Type 0} (P : A → Phrase) (k : A → Kinds) (all : (a : A) → Says (P a) (k a)) where
  pub all_each : (xs : List A) → Says (Each P xs) (each (map k xs))
  all_each [] = says_nothing
  all_each (a ∷ xs) = says_then (all a) (all_each xs)

  pub all_behind : {S : Phrase} {s : Kinds} → Says S s → (xs : List A) → Says (Behind S P xs) (behind s (map k xs))
  all_behind by [] = says_nothing
  all_behind by (a ∷ xs) = says_then by (says_then (all a) (all_behind by xs))

  pub all_between : {S : Phrase} {s : Kinds} → Says S s → (xs : List A) → Says (Between S P xs) (between s (map k xs))
  all_between by [] = says_nothing
  all_between by (a ∷ xs) = says_then (all a) (all_behind by xs)

  pub all_perhaps : (o : Option A) → Says (Perhaps P o) (perhaps k o)
  all_perhaps None = says_nothing
  all_perhaps (Some a) = all a

-- Lists of phrases and a function on their parts.
pub each_map : {A B : Type 0} (P : B → Phrase) (f : A → B) (xs : List A) → Each (λ a. P (f a)) xs ≡ Each P (map f xs)
each_map P f [] = refl
each_map P f (a ∷ xs) = ap (λ (Q : Phrase). P (f a) ▸ Q) (each_map P f xs)

pub behind_map : {A B : Type 0} (S : Phrase) (P : B → Phrase) (f : A → B) (xs : List A) → Behind S (λ a. P (f a)) xs ≡ Behind S P (map f xs)
behind_map S P f [] = refl
behind_map S P f (a ∷ xs) = ap (λ (Q : Phrase). S ▸ P (f a) ▸ Q) (behind_map S P f xs)

pub between_map : {A B : Type 0} (S : Phrase) (P : B → Phrase) (f : A → B) (xs : List A) → Between S (λ a. P (f a)) xs ≡ Between S P (map f xs)
between_map S P f [] = refl
between_map S P f (a ∷ xs) = ap (λ (Q : Phrase). P (f a) ▸ Q) (behind_map S P f xs)
