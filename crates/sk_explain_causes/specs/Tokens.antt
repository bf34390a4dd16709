-- Tokens of a text, and the bytes of them.
use Rattle.std.specs.Prelude.{ℕ, ◌≡◌, nat_le, nat_lt, Bool, true, false, ◌&&◌, ◌||◌, List, [], ◌∷◌, length, slice_range, Option, Some, None, Ok, if◌then◌else◌}
use Rattle.sk_base.specs.declared.span.Span.{Span}
use Rattle.sk_tree.specs.declared.token.Token.{Token}
use Rattle.sk_tree.specs.declared.token.Kind.{Kind}
use Rattle.sk_tree.specs.declared.token.Kind.TheVariants as kind
use Rattle.sk_tree.specs.declared.token.Mark.TheVariants as mark
use Rattle.sk_tree.specs.Tokens.{AreTokens}
use Rattle.sk_parser_laws.specs.Readers.{is_mark}
use Rattle.sk_adt.specs.declared.algebraic.Lowered.{Lowered}
use Rattle.sk_adt.specs.Lowering.{lowered}

-- these are the tokens of the plain form of others
pub record ArePlain (tokens plain : List Token) : Type 0 where
  pub form : Lowered
  pub is : lowered tokens ≡ Ok form
  pub same : plain ≡ form.tokens

-- these are the tokens of the plain form of a text
pub record ArePlainOf (text : List ℕ) (plain : List Token) : Type 0 where
  pub tokens : List Token
  pub lexed : AreTokens text tokens
  pub plain_is : ArePlain tokens plain

-- These are the tokens that a line reads: those of the plain form of a text, where it takes that, or else of the text itself.
abbrev pub AreTokensRead : Bool → List ℕ → List Token → Type 0
AreTokensRead true text tokens = ArePlainOf text tokens
AreTokensRead false text tokens = AreTokens text tokens

-- the bytes of a span; none where it does not lie in the text
abbrev pub bytes_of : List ℕ → Span → List ℕ
bytes_of text span = if nat_le span.from span.to && nat_le span.to (length text) then slice_range text span.from span.to else []

-- the tokens from the first on that begins at a byte, or behind it
abbrev pub tokens_from : ℕ → List Token → List Token
tokens_from byte [] = []
tokens_from byte (t ∷ ts) = if nat_le byte t.span.from then t ∷ ts else tokens_from byte ts

-- the first of some tokens
abbrev pub first_of : List Token → Option Token
first_of [] = None
first_of (t ∷ ts) = Some t

-- it begins before a byte
abbrev pub begins_before : ℕ → Token → Bool
begins_before byte t = nat_lt t.span.from byte

-- a word that is no keyword
abbrev pub is_word : Kind → Bool
is_word (kind.Word name) = true
is_word _ = false

-- a mark that opens something, and one that closes it

abbrev pub opens : Kind → Bool
opens k = is_mark mark.OpenParen k || (is_mark mark.OpenBrace k || (is_mark mark.OpenBracket k || is_mark mark.OpenPattern k))

abbrev pub closes : Kind → Bool
closes k = is_mark mark.CloseParen k || (is_mark mark.CloseBrace k || (is_mark mark.CloseBracket k || is_mark mark.ClosePattern k))
