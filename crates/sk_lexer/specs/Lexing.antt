-- What `tokens` answers where there are no tokens.
use Rattle.std.specs.Prelude.{◌≡◌, ℕ, ◌<◌, List}
use Rattle.sk_tree.specs.declared.shape.Shape.{Shape}
use Rattle.sk_tree.specs.declared.shape.Shape.TheVariants.{Number}
use Rattle.sk_tree.specs.Tokens.{Fault, BadByte, OpenComment, LiteralTooLarge, OpenString, IsWrong, IsFirstFault, number_of, greatest_number}
use Rattle.sk_lexer.specs.declared.fault.LexFault.{LexFault}
use Rattle.sk_lexer.specs.declared.fault.LexFault.TheVariants as lex

-- it tells the first fault and its place, or that memory ran out
abbrev pub Tells : List ℕ → LexFault → Type 0
Tells text (lex.BadByte at) = IsFirstFault text BadByte at
Tells text (lex.OpenComment at) = IsFirstFault text OpenComment at
Tells text (lex.LiteralTooLarge at) = IsFirstFault text LiteralTooLarge at
Tells text (lex.OpenString at) = IsFirstFault text OpenString at
Tells text lex.Memory = Unit {0}

abbrev pub IsMemory : LexFault → Type 0
IsMemory lex.Memory = Unit {0}
IsMemory _ = ⊥

-- it is this fault at this place, or memory ran out
abbrev pub IsFaultOrMemory : Fault → ℕ → LexFault → Type 0
IsFaultOrMemory f n (lex.BadByte at) = (f ≡ BadByte) × (n ≡ at)
IsFaultOrMemory f n (lex.OpenComment at) = (f ≡ OpenComment) × (n ≡ at)
IsFaultOrMemory f n (lex.LiteralTooLarge at) = (f ≡ LiteralTooLarge) × (n ≡ at)
IsFaultOrMemory f n (lex.OpenString at) = (f ≡ OpenString) × (n ≡ at)
IsFaultOrMemory f n lex.Memory = Unit {0}

-- a number is too large, or memory ran out
abbrev pub IsTooLarge : Shape → ℕ → List ℕ → LexFault → Type 0
IsTooLarge shape n p (lex.LiteralTooLarge at) = (shape ≡ Number) × (greatest_number < number_of p) × (n ≡ at)
IsTooLarge shape n p lex.Memory = Unit {0}
IsTooLarge shape n p _ = ⊥

-- this is wrong at the front of the rest, which begins at this byte
abbrev pub IsWrongAt : List ℕ → ℕ → LexFault → Type 0
IsWrongAt rest n (lex.BadByte at) = IsWrong BadByte rest × (n ≡ at)
IsWrongAt rest n (lex.OpenComment at) = IsWrong OpenComment rest × (n ≡ at)
IsWrongAt rest n (lex.LiteralTooLarge at) = IsWrong LiteralTooLarge rest × (n ≡ at)
IsWrongAt rest n (lex.OpenString at) = IsWrong OpenString rest × (n ≡ at)
IsWrongAt rest n lex.Memory = ⊥
