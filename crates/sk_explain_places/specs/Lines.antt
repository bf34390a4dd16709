-- The lines of a text, and in which line and column a byte stands.
use Rattle.std.specs.Prelude.{ℕ, ◌+◌, ◌-◌, ◌≤◌, ◌<◌, ◌≡◌, ◌≢◌, ◌⊎◌, ◌==◌, Bool, true, false, ◌&&◌, ◌||◌, List, [], ◌∷◌, length, take, drop, count_by, slice_index, slice_range, IsTrue}
use Rattle.sk_explain_places.specs.declared.places.Place.{Place}

-- a line feed
abbrev pub is_feed : ℕ → Bool
is_feed b = b == 10

-- bytes that begin with a line feed
abbrev pub feed_first : List ℕ → Bool
feed_first [] = false
feed_first (b ∷ bs) = is_feed b

-- A line ends where the text ends, at a line feed, and at a carriage return with a line feed behind it: these bytes stand
-- behind the line.
abbrev pub ends_line : List ℕ → Bool
ends_line [] = true
ends_line (b ∷ bs) = is_feed b || ((b == 13) && feed_first bs)

-- A line begins where the text begins, and behind each line feed.
abbrev pub BeginsLine : List ℕ → ℕ → Type 0
BeginsLine text at = (at ≡ 0) ⊎ (slice_index text (at - 1) ≡ 10)

-- the line of a byte begins here: no line feed stands between
pub record IsLineStart (text : List ℕ) (byte start : ℕ) : Type 0 where
  pub within : start ≤ byte
  pub begins : BeginsLine text start
  pub same : (k : ℕ) → start ≤ k → k < byte → slice_index text k ≢ 10

-- the line that begins at `start` has its first end at `end`
pub record IsLineEnd (text : List ℕ) (start end : ℕ) : Type 0 where
  pub behind : start ≤ end
  pub within : end ≤ length text
  pub ends : IsTrue (ends_line (drop end text))
  pub first : (k : ℕ) → start ≤ k → k < end → ends_line (drop k text) ≡ false

-- the line of a byte, without its end
pub record IsLineOf (text : List ℕ) (byte : ℕ) (line : List ℕ) : Type 0 where
  pub start : ℕ
  pub end : ℕ
  pub begins : IsLineStart text byte start
  pub ends : IsLineEnd text start end
  pub bytes : line ≡ slice_range text start end

-- The place of a byte. Lines count from 1: as many line feeds stand before the byte as lines before its own. Columns count
-- from 1: as many bytes of its line stand before it as columns before its own.
pub record IsPlace (text : List ℕ) (byte : ℕ) (place : Place) : Type 0 where
  pub line : place.line ≡ count_by is_feed (take byte text) + 1
  pub start : ℕ
  pub begins : IsLineStart text byte start
  pub column : place.column ≡ byte - start + 1
