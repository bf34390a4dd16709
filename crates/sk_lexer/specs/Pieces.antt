-- What the parts of the lexer answer.
use Rattle.std.specs.Prelude.{◌≡◌, ◌≢◌, ℕ, ◌<◌, ◌≤◌, Bool, true, false, List, [], ◌∷◌, length, take, Option, Some, None}
use Rattle.sk_tree.specs.declared.token.Mark.{Mark}
use Rattle.sk_tree.specs.declared.shape.Shape.TheVariants.{Comment}
use Rattle.sk_tree.specs.Spelling.{double_mark}
use Rattle.sk_tree.specs.Shapes.{slash_of}
use Rattle.sk_tree.specs.Longest.{NoneStands, NoComment, opens_comment}

-- the first n pass the test together, and no more do
pub record Reaches (test : List ℕ → Bool) (bytes : List ℕ) (n : ℕ) : Type 0 where
  pub within : n ≤ length bytes
  pub passes : test (take n bytes) ≡ true
  pub longest : (m : ℕ) → n < m → m ≤ length bytes → test (take m bytes) ≡ false

-- no piece stands at the front
pub record NoPiece (text : List ℕ) : Type 0 where
  pub none : opens_comment text ≡ false → NoneStands text
  pub comment : opens_comment text ≡ true → NoComment text

-- a comment begins behind a slash, and does not end
pub record NoSlash (after : List ℕ) : Type 0 where
  pub opens : opens_comment (47 ∷ after) ≡ true
  pub comment : (m : ℕ) → slash_of (take m after) ≢ Some Comment

-- the mark of this byte and the next
abbrev pub second_mark : ℕ → List ℕ → Option Mark
second_mark b [] = None
second_mark b (c ∷ bs) = double_mark b c
