-- Readers: functions of a list of tokens that answer what stands at its front, with the tokens after it.
use Rattle.std.specs.Prelude.{◌≡◌, ℕ, zero, suc, ◌-◌, Bool, false, List, [], ◌∷◌, length, take, Option, Some, None, option_and_then, Result, Ok, Err, if◌then◌else◌, nat_eq, nat_lt}
use Rattle.sk_base.specs.declared.span.Span.{Span}
use Rattle.sk_tree.specs.declared.token.Token.{Token}
use Rattle.sk_tree.specs.declared.token.Kind.{Kind}
use Rattle.sk_tree.specs.declared.token.Kind.TheVariants as kind
use Rattle.sk_tree.specs.declared.token.Mark.{Mark}
use Rattle.sk_tree.specs.declared.token.Mark.TheVariants as mark
use Rattle.sk_tree.specs.declared.token.Key.{Key}
use Rattle.sk_tree.specs.declared.token.Key.TheVariants as key
use Rattle.sk_tree.specs.Phrase.{span_of}
use Rattle.sk_parser_laws.specs.declared.stop.Stop.{Stop}
use Rattle.sk_parser_laws.specs.declared.stop.Stop.TheVariants as stop

infixl 10 ◌>>=◌
abbrev pub ◌>>=◌ : {A B : Type 0} → Option A → (A → Option B) → Option B
o >>= f = option_and_then f o

-- what was read, and the tokens after it
abbrev pub Reader : Type 0 → Type 0
Reader A = List Token → Option (A × List Token)

-- Marks and keywords are told apart by their numbers.
abbrev pub mark_code : Mark → ℕ
mark_code mark.OpenPattern = 0
mark_code mark.ClosePattern = 1
mark_code mark.Hole = 2
mark_code mark.DoubleColon = 3
mark_code mark.Equal = 4
mark_code mark.NotEqual = 5
mark_code mark.AtMost = 6
mark_code mark.AtLeast = 7
mark_code mark.ShiftLeft = 8
mark_code mark.ShiftRight = 9
mark_code mark.AndThen = 10
mark_code mark.OrElse = 11
mark_code mark.Increment = 12
mark_code mark.Decrement = 13
mark_code mark.AddAssign = 14
mark_code mark.SubAssign = 15
mark_code mark.Plus = 16
mark_code mark.Minus = 17
mark_code mark.Star = 18
mark_code mark.Slash = 19
mark_code mark.Percent = 20
mark_code mark.Tilde = 21
mark_code mark.Bang = 22
mark_code mark.Ampersand = 23
mark_code mark.Bar = 24
mark_code mark.Caret = 25
mark_code mark.Less = 26
mark_code mark.Greater = 27
mark_code mark.Assign = 28
mark_code mark.OpenParen = 29
mark_code mark.CloseParen = 30
mark_code mark.OpenBrace = 31
mark_code mark.CloseBrace = 32
mark_code mark.OpenBracket = 33
mark_code mark.CloseBracket = 34
mark_code mark.Comma = 35
mark_code mark.Semicolon = 36
mark_code mark.Dot = 37
mark_code mark.Question = 38
mark_code mark.Colon = 39

abbrev pub key_code : Key → ℕ
key_code key.Adt = 0
key_code key.Assert = 1
key_code key.Assume = 2
key_code key.Bit = 3
key_code key.Case = 4
key_code key.Else = 5
key_code key.False = 6
key_code key.For = 7
key_code key.Generator = 8
key_code key.Harness = 9
key_code key.If = 10
key_code key.Implements = 11
key_code key.Int = 12
key_code key.Minimize = 13
key_code key.Minrepeat = 14
key_code key.New = 15
key_code key.Null = 16
key_code key.Pragma = 17
key_code key.Ref = 18
key_code key.Reorder = 19
key_code key.Repeat = 20
key_code key.Return = 21
key_code key.Struct = 22
key_code key.Switch = 23
key_code key.True = 24
key_code key.Void = 25
key_code key.While = 26

-- One token

abbrev pub is_mark : Mark → Kind → Bool
is_mark m (kind.Mark n) = nat_eq (mark_code n) (mark_code m)
is_mark m _ = false

-- the mark stands at the front
unfoldable pub mark_ahead : Mark → List Token → Bool
mark_ahead m [] = false
mark_ahead m (t ∷ ts) = is_mark m t.kind

-- the tokens after the mark at the front
unfoldable pub mark_at : Mark → List Token → Option (List Token)
mark_at m [] = None
mark_at m (t ∷ ts) = if is_mark m t.kind then Some ts else None

abbrev pub is_key : Key → Kind → Bool
is_key k (kind.Key n) = nat_eq (key_code n) (key_code k)
is_key k _ = false

-- the keyword stands at the front
unfoldable pub key_ahead : Key → List Token → Bool
key_ahead k [] = false
key_ahead k (t ∷ ts) = is_key k t.kind

-- the tokens after the keyword at the front
unfoldable pub key_at : Key → List Token → Option (List Token)
key_at k [] = None
key_at k (t ∷ ts) = if is_key k t.kind then Some ts else None

abbrev pub word_kind : Kind → List Token → Option (List ℕ × List Token)
word_kind (kind.Word name) ts = Some (name, ts)
word_kind _ ts = None

unfoldable pub word_at : Reader (List ℕ)
word_at [] = None
word_at (t ∷ ts) = word_kind t.kind ts

abbrev pub number_kind : Kind → List Token → Option (ℕ × List Token)
number_kind (kind.Number n) ts = Some (n, ts)
number_kind _ ts = None

unfoldable pub number_at : Reader ℕ
number_at [] = None
number_at (t ∷ ts) = number_kind t.kind ts

abbrev pub text_kind : Kind → List Token → Option (List ℕ × List Token)
text_kind (kind.Text bytes) ts = Some (bytes, ts)
text_kind _ ts = None

unfoldable pub text_at : Reader (List ℕ)
text_at [] = None
text_at (t ∷ ts) = text_kind t.kind ts

-- The tokens between two places of which the second is further on.
unfoldable pub taken : List Token → List Token → List Token
taken start rest = take (length start - length rest) start

-- the bytes that they stand on
unfoldable pub span_between : List Token → List Token → Span
span_between start rest = span_of (taken start rest)

-- Turn after turn, up to tokens where it ends. What has been read so far is passed on.

unfoldable pub turns : {S : Type 0} → (List Token → Bool) → (S → Reader S) → ℕ → S → Reader S
turns ends turn zero s ts = None
turns ends turn (suc n) s ts = if ends ts then Some (s, ts) else (turn s ts >>= λ r. turns ends turn n r.0 r.1)

-- each turn takes a token, so there are no more turns than tokens
unfoldable pub repeated : {S : Type 0} → (List Token → Bool) → (S → Reader S) → S → Reader S
repeated ends turn s ts = turns ends turn (suc (length ts)) s ts

-- Levels of depth

-- one level deeper, where the budget has room for it
unfoldable pub deeper : ℕ → ℕ → Option ℕ
deeper budget depth = if nat_lt depth budget then Some (suc depth) else None

-- the budget of what stands inside a node
unfoldable pub inside : ℕ → Option ℕ
inside zero = None
inside (suc b) = Some b

-- What a reader of the code answered is what the function answers, unless memory ran out.

abbrev pub Fails : {Y : Type 0} → Stop → Option Y → Type 0
Fails stop.NoMemory read = Unit {0}
Fails (stop.NoReading left) read = read ≡ None

abbrev pub Gives : {X Y : Type 0} → (X → Y) → Result X Stop → Option Y → Type 0
Gives view (Ok x) read = read ≡ Some (view x)
Gives view (Err e) read = Fails e read
