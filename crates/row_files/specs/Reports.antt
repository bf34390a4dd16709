-- What is told of rows that are wrong.
use Rattle.std.specs.Prelude.{ℕ, List, [], ◌∷◌, ◌++◌, decimal, codes}

-- a message behind a blank, where there is one
abbrev pub behind_blank : List ℕ → List ℕ
behind_blank [] = []
behind_blank (b ∷ bs) = 32 ∷ b ∷ bs

-- how a line ended: its status, and the message
abbrev pub head_text : ℕ → List ℕ → List ℕ
head_text status message = decimal status ++ behind_blank message

-- what is told below a title
abbrev pub titled_text : List ℕ → List ℕ → List ℕ
titled_text title told = codes "=== " ++ title ++ 10 ∷ told
