-- A text divided into its pieces, its tokens and its first fault.
use Rattle.std.specs.Prelude.{◌≡◌, ℕ, ◌+◌, ◌-◌, ◌*◌, ◌<◌, ◌≤◌, true, false, List, [], ◌∷◌, ◌++◌, length, take, drop, Option, Some, None}
use Rattle.sk_tree.specs.declared.shape.Shape.{Shape}
use Rattle.sk_tree.specs.declared.shape.Shape.TheVariants as shape
use Rattle.sk_tree.specs.declared.token.Key.{Key}
use Rattle.sk_tree.specs.declared.token.Kind.{Kind}
use Rattle.sk_tree.specs.declared.token.Kind.TheVariants as kind
use Rattle.sk_tree.specs.declared.token.Token.{Token}
use Rattle.sk_tree.specs.Spelling.{key_of}
use Rattle.sk_tree.specs.Shapes.{shape_of}
use Rattle.sk_tree.specs.Longest.{Stands, NoneStands, NoComment, opens_comment, opens_text}

-- the greatest number that a text may spell: 2^31 - 1
abbrev pub greatest_number : ℕ
greatest_number = 2147483647

-- the number of these digits behind n
abbrev pub number_from : ℕ → List ℕ → ℕ
number_from n [] = n
number_from n (b ∷ bs) = number_from (10 * n + (b - 48)) bs

-- the number that the digits spell
unfoldable pub number_of : List ℕ → ℕ
number_of bs = number_from 0 bs

-- a number is not too large
abbrev pub IsWithin : Option Shape → List ℕ → Type 0
IsWithin (Some shape.Number) p = number_of p ≤ greatest_number
IsWithin _ p = Unit {0}

-- p is the longest piece at the front of the text, and no number too large
pub record IsPiece (p text : List ℕ) : Type 0 where
  pub shape : Shape
  pub stands : Stands text shape (length p)
  pub within : IsWithin (Some shape) p

-- these pieces, one after another, are the text up to its rest, each the longest at its place
abbrev pub Divides : List (List ℕ) → List ℕ → List ℕ → Type 0
Divides [] text rest = text ≡ rest
Divides (p ∷ ps) text rest = (after : List ℕ) × (text ≡ p ++ after) × IsPiece p text × Divides ps after rest

-- a word, or the keyword that is spelt so
abbrev pub word_kind : Option Key → List ℕ → Kind
word_kind None p = kind.Word p
word_kind (Some key) p = kind.Key key

-- what stands between the first byte and the last
abbrev pub inner : List ℕ → List ℕ
inner p = take (length p - 2) (drop 1 p)

-- the token of this kind of a piece that begins at this byte
abbrev pub token_at : ℕ → List ℕ → Kind → List Token
token_at at p kind = record { kind = kind; span = record { from = at; to = at + length p } } ∷ []

-- the token of a piece that begins at this byte; none of a blank or a comment
abbrev pub token_of : Option Shape → ℕ → List ℕ → List Token
token_of (Some shape.Word) at p = token_at at p (word_kind (key_of p) p)
token_of (Some shape.Number) at p = token_at at p (kind.Number (number_of p))
token_of (Some shape.Text) at p = token_at at p (kind.Text (inner p))
token_of (Some (shape.Mark mark)) at p = token_at at p (kind.Mark mark)
token_of _ at p = []

-- the tokens of the pieces, the first of which begins at this byte
abbrev pub tokens_of : ℕ → List (List ℕ) → List Token
tokens_of at [] = []
tokens_of at (p ∷ ps) = token_of (shape_of p) at p ++ tokens_of (at + length p) ps

-- the tokens of a text: it is divided wholly into longest pieces, and these are their tokens
pub record AreTokens (text : List ℕ) (tokens : List Token) : Type 0 where
  pub pieces : List (List ℕ)
  pub whole : Divides pieces text []
  pub same : tokens ≡ tokens_of 0 pieces

-- what can be wrong with a text
pub data Fault : Type 0 where
  BadByte OpenComment LiteralTooLarge OpenString : Fault

-- what is wrong at the front of a text
abbrev pub IsWrong : Fault → List ℕ → Type 0
-- no piece stands there, and it is no text without its end
IsWrong BadByte rest = (0 < length rest) × (opens_text rest ≡ false) × NoneStands rest
-- a comment begins, and does not end
IsWrong OpenComment rest = (opens_comment rest ≡ true) × NoComment rest
-- the longest piece is a number that is too large
IsWrong LiteralTooLarge rest = (n : ℕ) × Stands rest shape.Number n × (greatest_number < number_of (take n rest))
-- a text begins, and does not end in its line
IsWrong OpenString rest = (opens_text rest ≡ true) × NoneStands rest

-- the first fault of a text, from the left, and the byte at which it stands
pub record IsFirstFault (text : List ℕ) (fault : Fault) (at : ℕ) : Type 0 where
  pub pieces : List (List ℕ)
  pub rest : List ℕ
  pub before : Divides pieces text rest
  pub wrong : IsWrong fault rest
  pub place : at + length rest ≡ length text
