-- The bytes of a line as people see them. A question mark stands for each byte that controls a terminal, and for each that is no
-- part of a character of UTF-8. All others stay, and so does their number.
use Rattle.std.specs.Prelude.{ℕ, ◌+◌, ◌-◌, ◌==◌, Bool, false, not, ◌&&◌, ◌||◌, nat_lt, max, if◌then◌else◌, List, [], ◌∷◌, length, take}
use Rattle.std.specs.Str.{continuation_len, is_utf8}

-- a byte that controls a terminal by itself, but for a tab
abbrev pub is_control : ℕ → Bool
is_control b = (nat_lt b 32 && not (b == 9)) || (b == 127)

-- bytes that begin with a control character of two bytes: U+0080 to U+009F
abbrev pub begins_control : List ℕ → Bool
begins_control [] = false
begins_control (b ∷ []) = false
begins_control (b ∷ c ∷ bs) = (b == 194) && nat_lt c 160

-- as many bytes as a character has that begins with the first of them
abbrev pub first_character : List ℕ → List ℕ
first_character [] = []
first_character (b ∷ bs) = take (continuation_len b + 1) (b ∷ bs)

-- how many bytes, from the first one, are a character of UTF-8 that is no control of two bytes
unfoldable pub width : List ℕ → ℕ
width bs = if is_utf8 (first_character bs) && not (begins_control bs) then length (first_character bs) else 0

-- how many bytes, from the first one, are of a character: where so many are of one that began before them, or of one that begins here
abbrev pub left_of : ℕ → List ℕ → ℕ
left_of left bs = max left (width bs)

-- a byte, where so many from it on are of a character
abbrev pub visible_byte : ℕ → ℕ → ℕ
visible_byte left b = if is_control b || (left == 0) then 63 else b

-- bytes of which so many are of a character that began before them
abbrev pub visible_from : ℕ → List ℕ → List ℕ
visible_from left [] = []
visible_from left (b ∷ bs) = visible_byte (left_of left (b ∷ bs)) b ∷ visible_from (left_of left (b ∷ bs) - 1) bs

-- the bytes of a line as people see them
abbrev pub visible : List ℕ → List ℕ
visible line = visible_from 0 line

-- a byte of what people see: none controls a terminal but a tab and a line feed
abbrev pub is_quiet : ℕ → Bool
is_quiet b = not (is_control b) || (b == 10)
