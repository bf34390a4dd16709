-- What can stand as one piece of a text.
use Rattle.std.specs.Prelude.{ℕ, Bool, false, not, ◌&&◌, ◌||◌, ◌==◌, nat_le, List, [], ◌∷◌, Option, Some, None, option_map, if◌then◌else◌}
use Rattle.std.specs.List.{list_all}
use Rattle.sk_tree.specs.declared.shape.Shape.{Shape}
use Rattle.sk_tree.specs.declared.shape.Shape.TheVariants as shape
use Rattle.sk_tree.specs.declared.token.Mark.TheVariants.{Slash}
use Rattle.sk_tree.specs.Spelling.{single_mark, double_mark}

-- space, tab, line feed, form feed, carriage return
unfoldable pub is_blank : ℕ → Bool
is_blank b = b == 32 || b == 9 || b == 10 || b == 12 || b == 13

-- a letter of ASCII or _
unfoldable pub is_letter : ℕ → Bool
is_letter b = (nat_le 97 b && nat_le b 122) || (nat_le 65 b && nat_le b 90) || b == 95

unfoldable pub is_digit : ℕ → Bool
is_digit b = nat_le 48 b && nat_le b 57

abbrev pub is_word_byte : ℕ → Bool
is_word_byte b = is_letter b || is_digit b

-- any byte but a line feed
abbrev pub is_line_byte : ℕ → Bool
is_line_byte b = not (b == 10)

-- no bytes
abbrev pub is_empty : List ℕ → Bool
is_empty bytes = list_all (λ _. false) bytes

-- the first */ is at the end
abbrev pub is_closed : List ℕ → Bool
is_closed [] = false
is_closed (b ∷ []) = false
is_closed (b ∷ c ∷ bs) = if b == 42 && c == 47 then is_empty bs else is_closed (c ∷ bs)

-- the first " is at the end, and no line feed stands before it
abbrev pub is_quoted : List ℕ → Bool
is_quoted [] = false
is_quoted (b ∷ bs) = if b == 34 then is_empty bs else is_line_byte b && is_quoted bs

-- the shape, where each byte passes
abbrev pub if_all : (ℕ → Bool) → List ℕ → Shape → Option Shape
if_all p bs shape = if list_all p bs then Some shape else None

-- a piece that begins with /: the mark, or a comment up to the end of the line, or one up to its first */
abbrev pub slash_of : List ℕ → Option Shape
slash_of [] = Some (shape.Mark Slash)
slash_of (b ∷ bs) =
    if b == 47 then if_all is_line_byte bs shape.Comment
    else (if b == 42 then (if is_closed bs then Some shape.Comment else None)
    else None)

-- a piece that begins with ": a text up to the next "
abbrev pub text_of : List ℕ → Option Shape
text_of bs = if is_quoted bs then Some shape.Text else None

-- a mark of one byte or two
abbrev pub mark_of : ℕ → List ℕ → Option Shape
mark_of b [] = option_map shape.Mark (single_mark b)
mark_of b (c ∷ []) = option_map shape.Mark (double_mark b c)
mark_of b (c ∷ d ∷ bs) = None

-- what the bytes are as one piece, where they can be one
unfoldable pub shape_of : List ℕ → Option Shape
shape_of [] = None
shape_of (b ∷ bs) =
    if is_blank b then if_all is_blank bs shape.Blank
    else (if is_letter b then if_all is_word_byte bs shape.Word
    else (if is_digit b then if_all is_digit bs shape.Number
    else (if b == 47 then slash_of bs
    else (if b == 34 then text_of bs
    else mark_of b bs))))
