-- Which texts read as a tree, what is wrong with a text that reads as none, and where faults are told.
use Rattle.std.specs.Prelude.{◌≡◌, ℕ, ◌≤◌, ◌⊎◌, IsTrue, List, length}
use Rattle.sk_base.specs.declared.span.Span.{Span}
use Rattle.sk_tree.specs.declared.token.Token.{Token}
use Rattle.sk_tree.specs.declared.item.Tree.{Tree}
use Rattle.sk_tree.specs.Tokens.{AreTokens, BadByte, OpenComment, LiteralTooLarge, OpenString, IsFirstFault}
use Rattle.sk_lexer.specs.declared.fault.LexFault.{LexFault}
use Rattle.sk_lexer.specs.declared.fault.LexFault.TheVariants as lex
use Rattle.sk_parser.specs.declared.fault.ParseFault.{ParseFault}
use Rattle.sk_parser.specs.declared.fault.ParseFault.TheVariants as parse
use Rattle.sk_parser.specs.Parses.{IsTreeOf, ReadsAsNone, ReadsWithTooMany, ReadsWithBad, place_of}
use Rattle.sk_types.specs.Places.{tree_has, nowhere}
use Rattle.sk_front.specs.declared.fault.TextFault.{TextFault}
use Rattle.sk_front.specs.declared.fault.TextFault.TheVariants.{Lex, Parse}

-- the greatest number of bytes of a sketch
abbrev pub most_bytes : ℕ
most_bytes = 1048576

-- The text has tokens, and they read as this tree, which is at most 256 deep and whose patterns have no fault.
pub record HasTree (text : List ℕ) (tree : Tree) : Type 0 where
  pub tokens : List Token
  pub lexed : AreTokens text tokens
  pub reads : IsTreeOf tokens tree

-- The text has tokens, of which this holds, and this byte is in the text or at its end.
pub record HasTokens (text : List ℕ) (Holds : List Token → Type 0) (at : ℕ) : Type 0 where
  pub tokens : List Token
  pub lexed : AreTokens text tokens
  pub holds : Holds tokens
  pub place : at ≤ length text

-- This is the first fault of the text. Want of memory is none.
abbrev pub IsLexFault : LexFault → List ℕ → Type 0
IsLexFault (lex.BadByte at) text = IsFirstFault text BadByte at
IsLexFault (lex.OpenComment at) text = IsFirstFault text OpenComment at
IsLexFault (lex.LiteralTooLarge at) text = IsFirstFault text LiteralTooLarge at
IsLexFault (lex.OpenString at) text = IsFirstFault text OpenString at
IsLexFault lex.Memory text = ⊥

-- The tokens of the text read as no tree that is at most 256 deep; or they do, and one of its patterns has too many
-- strings; or none has, and one has a string that reads as no expression.
abbrev pub IsParseFault : ParseFault → List ℕ → Type 0
IsParseFault (parse.NoReading at) text = HasTokens text ReadsAsNone at
IsParseFault (parse.TooManyStrings at) text = HasTokens text ReadsWithTooMany at
IsParseFault (parse.BadAlternative at) text = HasTokens text ReadsWithBad at
IsParseFault parse.Memory text = ⊥

-- this is wrong with the text
abbrev pub IsTextFault : TextFault → List ℕ → Type 0
IsTextFault (Lex fault) text = IsLexFault fault text
IsTextFault (Parse fault) text = IsParseFault fault text

-- two faults of one name
abbrev pub IsSameKind : ParseFault → ParseFault → Type 0
IsSameKind (parse.NoReading at) (parse.NoReading to) = Unit {0}
IsSameKind (parse.TooManyStrings at) (parse.TooManyStrings to) = Unit {0}
IsSameKind (parse.BadAlternative at) (parse.BadAlternative to) = Unit {0}
IsSameKind _ _ = ⊥

-- The two faults have one name, and one place where they are faults of the bytes. Where a fault of what the tokens
-- read as is placed, no definition says.
abbrev pub IsSameFault : TextFault → TextFault → Type 0
IsSameFault (Lex a) (Lex b) = a ≡ b
IsSameFault (Parse a) (Parse b) = IsSameKind a b
IsSameFault _ _ = ⊥

-- Places

-- the byte at which a fault of a text is told
abbrev pub byte_of : TextFault → ℕ
byte_of (Lex (lex.BadByte at)) = at
byte_of (Lex (lex.OpenComment at)) = at
byte_of (Lex (lex.LiteralTooLarge at)) = at
byte_of (Lex (lex.OpenString at)) = at
byte_of (Lex lex.Memory) = 0
byte_of (Parse fault) = place_of fault

-- The span is that of an expression or a statement of the tree as which the text reads, or it is 0 to 0, which stands for no
-- place; and it lies within the text.
pub record HasSpan (text : List ℕ) (span : Span) : Type 0 where
  pub tree : Tree
  pub reads : HasTree text tree
  pub place : IsTrue (tree_has span tree) ⊎ (span ≡ nowhere)
  pub order : span.from ≤ span.to
  pub within : span.to ≤ length text
