-- Phrases: which lists of tokens say a thing.
use Rattle.std.specs.Prelude.{◌≡◌, List, [], ◌∷◌, ◌++◌, Option, Some, None}
use Rattle.sk_base.specs.declared.span.Span.{Span}
use Rattle.sk_tree.specs.declared.token.Token.{Token}
use Rattle.sk_tree.specs.declared.token.Kind.{Kind}
use Rattle.sk_tree.specs.declared.token.Kind.TheVariants as kind
use Rattle.sk_tree.specs.declared.token.Mark.{Mark}
use Rattle.sk_tree.specs.declared.token.Key.{Key}

abbrev pub Phrase : Type 1
Phrase = List Token → Type 0

-- no tokens at all say it
abbrev pub Never : Phrase
Never ts = ⊥

-- no token
abbrev pub Nothing : Phrase
Nothing ts = ts ≡ []

-- a phrase that may stand only where this holds
abbrev pub Given : Type 0 → Phrase → Phrase
Given T P ts = T × P ts

-- one token of this kind, wherever it stands
abbrev pub One : Kind → Phrase
One k ts = (s : Span) × (ts ≡ record { kind = k; span = s } ∷ [])

abbrev pub Sign : Mark → Phrase
Sign m = One (kind.Mark m)

abbrev pub Keyword : Key → Phrase
Keyword k = One (kind.Key k)

-- one phrase, and then the other
infixr 5 ◌▸◌
abbrev pub ◌▸◌ : Phrase → Phrase → Phrase
(P ▸ Q) ts = (xs ys : List Token) × (ts ≡ xs ++ ys) × P xs × Q ys

-- a phrase for each, one after another
abbrev pub Each : {A : Type 0} → (A → Phrase) → List A → Phrase
Each P [] = Nothing
Each P (a ∷ rest) = P a ▸ Each P rest

-- the same, with a separator before each
abbrev pub Behind : {A : Type 0} → Phrase → (A → Phrase) → List A → Phrase
Behind S P [] = Nothing
Behind S P (a ∷ rest) = S ▸ P a ▸ Behind S P rest

-- the same, with a separator between two
abbrev pub Between : {A : Type 0} → Phrase → (A → Phrase) → List A → Phrase
Between S P [] = Nothing
Between S P (a ∷ rest) = P a ▸ Behind S P rest

-- a phrase where there is something to say
abbrev pub Perhaps : {A : Type 0} → (A → Phrase) → Option A → Phrase
Perhaps P None = Nothing
Perhaps P (Some a) = P a

-- The bytes that tokens stand on: from the first byte of the first to the end of the last.
abbrev pub from_of : List Token → Span → Span
from_of [] s = s
from_of (t ∷ ts) s = record s { from = t.span.from }

abbrev pub to_of : List Token → Span → Span
to_of [] s = s
to_of (t ∷ ts) s = to_of ts (record s { to = t.span.to })

abbrev pub span_of : List Token → Span
span_of ts = from_of ts (to_of ts (record { from = 0; to = 0 }))
