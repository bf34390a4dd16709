-- How keywords and marks are spelt.
use Rattle.std.specs.Prelude.{ℕ, List, [], ◌∷◌, Option, Some, None, if◌then◌else◌, ◌==◌, ◌&&◌, codes}
use Rattle.std.specs.Str.{bytes_eq}
use Rattle.sk_tree.specs.declared.token.Key.{Key}
use Rattle.sk_tree.specs.declared.token.Key.TheVariants as key
use Rattle.sk_tree.specs.declared.token.Mark.{Mark}
use Rattle.sk_tree.specs.declared.token.Mark.TheVariants as mark

-- the bytes of a keyword
abbrev pub key_bytes : Key → List ℕ
key_bytes key.Adt = codes "adt"
key_bytes key.Assert = codes "assert"
key_bytes key.Assume = codes "assume"
key_bytes key.Bit = codes "bit"
key_bytes key.Case = codes "case"
key_bytes key.Else = codes "else"
key_bytes key.False = codes "false"
key_bytes key.For = codes "for"
key_bytes key.Generator = codes "generator"
key_bytes key.Harness = codes "harness"
key_bytes key.If = codes "if"
key_bytes key.Implements = codes "implements"
key_bytes key.Int = codes "int"
key_bytes key.Minimize = codes "minimize"
key_bytes key.Minrepeat = codes "minrepeat"
key_bytes key.New = codes "new"
key_bytes key.Null = codes "null"
key_bytes key.Pragma = codes "pragma"
key_bytes key.Ref = codes "ref"
key_bytes key.Reorder = codes "reorder"
key_bytes key.Repeat = codes "repeat"
key_bytes key.Return = codes "return"
key_bytes key.Struct = codes "struct"
key_bytes key.Switch = codes "switch"
key_bytes key.True = codes "true"
key_bytes key.Void = codes "void"
key_bytes key.While = codes "while"

abbrev pub all_keys : List Key
all_keys = key.Adt ∷ key.Assert ∷ key.Assume ∷ key.Bit ∷ key.Case ∷ key.Else ∷ key.False ∷ key.For ∷ key.Generator ∷ key.Harness ∷ key.If ∷ key.Implements ∷ key.Int ∷ key.Minimize ∷ key.Minrepeat ∷ key.New ∷ key.Null ∷ key.Pragma ∷ key.Ref ∷ key.Reorder ∷ key.Repeat ∷ key.Return ∷ key.Struct ∷ key.Switch ∷ key.True ∷ key.Void ∷ key.While ∷ []

-- the keyword of a list that is spelt so
abbrev pub key_among : List Key → List ℕ → Option Key
key_among [] bytes = None
key_among (k ∷ ks) bytes = if bytes_eq bytes (key_bytes k) then Some k else key_among ks bytes

-- the keyword that is spelt so
unfoldable pub key_of : List ℕ → Option Key
key_of bytes = key_among all_keys bytes

-- the bytes of a mark
abbrev pub mark_bytes : Mark → List ℕ
mark_bytes mark.OpenPattern = codes "{|"
mark_bytes mark.ClosePattern = codes "|}"
mark_bytes mark.Hole = codes "??"
mark_bytes mark.DoubleColon = codes "::"
mark_bytes mark.Equal = codes "=="
mark_bytes mark.NotEqual = codes "!="
mark_bytes mark.AtMost = codes "<="
mark_bytes mark.AtLeast = codes ">="
mark_bytes mark.ShiftLeft = codes "<<"
mark_bytes mark.ShiftRight = codes ">>"
mark_bytes mark.AndThen = codes "&&"
mark_bytes mark.OrElse = codes "||"
mark_bytes mark.Increment = codes "++"
mark_bytes mark.Decrement = codes "--"
mark_bytes mark.AddAssign = codes "+="
mark_bytes mark.SubAssign = codes "-="
mark_bytes mark.Plus = codes "+"
mark_bytes mark.Minus = codes "-"
mark_bytes mark.Star = codes "*"
mark_bytes mark.Slash = codes "/"
mark_bytes mark.Percent = codes "%"
mark_bytes mark.Tilde = codes "~"
mark_bytes mark.Bang = codes "!"
mark_bytes mark.Ampersand = codes "&"
mark_bytes mark.Bar = codes "|"
mark_bytes mark.Caret = codes "^"
mark_bytes mark.Less = codes "<"
mark_bytes mark.Greater = codes ">"
mark_bytes mark.Assign = codes "="
mark_bytes mark.OpenParen = codes "("
mark_bytes mark.CloseParen = codes ")"
mark_bytes mark.OpenBrace = codes "{"
mark_bytes mark.CloseBrace = codes "}"
mark_bytes mark.OpenBracket = codes "["
mark_bytes mark.CloseBracket = codes "]"
mark_bytes mark.Comma = codes ","
mark_bytes mark.Semicolon = codes ";"
mark_bytes mark.Dot = codes "."
mark_bytes mark.Question = codes "?"
mark_bytes mark.Colon = codes ":"

-- the mark that is this byte
unfoldable pub single_mark : ℕ → Option Mark
single_mark b =
    if b == 43 then Some mark.Plus
    else (if b == 45 then Some mark.Minus
    else (if b == 42 then Some mark.Star
    else (if b == 47 then Some mark.Slash
    else (if b == 37 then Some mark.Percent
    else (if b == 126 then Some mark.Tilde
    else (if b == 33 then Some mark.Bang
    else (if b == 38 then Some mark.Ampersand
    else (if b == 124 then Some mark.Bar
    else (if b == 94 then Some mark.Caret
    else (if b == 60 then Some mark.Less
    else (if b == 62 then Some mark.Greater
    else (if b == 61 then Some mark.Assign
    else (if b == 40 then Some mark.OpenParen
    else (if b == 41 then Some mark.CloseParen
    else (if b == 123 then Some mark.OpenBrace
    else (if b == 125 then Some mark.CloseBrace
    else (if b == 91 then Some mark.OpenBracket
    else (if b == 93 then Some mark.CloseBracket
    else (if b == 44 then Some mark.Comma
    else (if b == 59 then Some mark.Semicolon
    else (if b == 46 then Some mark.Dot
    else (if b == 63 then Some mark.Question
    else (if b == 58 then Some mark.Colon
    else None)))))))))))))))))))))))

-- the mark that is these two bytes
unfoldable pub double_mark : ℕ → ℕ → Option Mark
double_mark b c =
    if b == 123 && c == 124 then Some mark.OpenPattern
    else (if b == 124 && c == 125 then Some mark.ClosePattern
    else (if b == 63 && c == 63 then Some mark.Hole
    else (if b == 58 && c == 58 then Some mark.DoubleColon
    else (if b == 61 && c == 61 then Some mark.Equal
    else (if b == 33 && c == 61 then Some mark.NotEqual
    else (if b == 60 && c == 61 then Some mark.AtMost
    else (if b == 62 && c == 61 then Some mark.AtLeast
    else (if b == 60 && c == 60 then Some mark.ShiftLeft
    else (if b == 62 && c == 62 then Some mark.ShiftRight
    else (if b == 38 && c == 38 then Some mark.AndThen
    else (if b == 124 && c == 124 then Some mark.OrElse
    else (if b == 43 && c == 43 then Some mark.Increment
    else (if b == 45 && c == 45 then Some mark.Decrement
    else (if b == 43 && c == 61 then Some mark.AddAssign
    else (if b == 45 && c == 61 then Some mark.SubAssign
    else None)))))))))))))))
