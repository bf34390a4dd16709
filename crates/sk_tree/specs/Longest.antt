-- The longest piece that can stand at the front of a text.
use Rattle.std.specs.Prelude.{◌≡◌, ◌≢◌, ℕ, ◌<◌, ◌≤◌, ◌&&◌, ◌==◌, Bool, true, false, List, [], ◌∷◌, length, take, Option, Some, None}
use Rattle.sk_tree.specs.declared.shape.Shape.{Shape}
use Rattle.sk_tree.specs.declared.shape.Shape.TheVariants.{Comment}
use Rattle.sk_tree.specs.Shapes.{shape_of}

-- `of` is the shape of the first n bytes, and no longer front has one
pub record Longest (of : List ℕ → Option Shape) (text : List ℕ) (shape : Shape) (n : ℕ) : Type 0 where
  pub within : n ≤ length text
  pub stands : of (take n text) ≡ Some shape
  pub longest : (m : ℕ) → n < m → m ≤ length text → of (take m text) ≡ None

-- the text begins with /*
abbrev pub opens_comment : List ℕ → Bool
opens_comment [] = false
opens_comment (b ∷ []) = false
opens_comment (b ∷ c ∷ bs) = b == 47 && c == 42

-- the text begins with "
abbrev pub opens_text : List ℕ → Bool
opens_text [] = false
opens_text (b ∷ bs) = b == 34

-- The first n bytes are a piece of this shape, and no longer front of the text is a piece. Where /* stands, the piece
-- is a comment, and never the mark /.
pub record Stands (text : List ℕ) (shape : Shape) (n : ℕ) : Type 0 where
  pub piece : Longest shape_of text shape n
  pub comment : opens_comment text ≡ true → shape ≡ Comment

-- no front of the text is a piece
abbrev pub NoneStands : List ℕ → Type 0
NoneStands text = (m : ℕ) → shape_of (take m text) ≡ None

-- no front of the text is a comment
abbrev pub NoComment : List ℕ → Type 0
NoComment text = (m : ℕ) → shape_of (take m text) ≢ Some Comment
