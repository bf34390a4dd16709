-- What a text in the DIMACS format says. Its lines are comments, which begin with c, or words between blanks. A formula
-- begins with its header, `p cnf VARIABLES CLAUSES`; a log has none. Then come numbers, each the number of a variable,
-- from 1, or its negation, and 0 behind the last literal of each clause; how they stand in lines is free.
use Rattle.std.specs.Prelude.{◌≡◌, ℕ, ◌+◌, ◌<◌, ◌^◌, ◌++◌, ◌==◌, ◌&&◌, Bool, not, if◌then◌else◌, ℤ, pos, negsuc, FitsSigned, Option, Some, None, IfSome, List, [], ◌∷◌, All, map, filter, length, codes, slice_index, slice_index_or, ⊤}
use Rattle.std.specs.List.{flat_map, slice_split}
use Rattle.std.specs.Int.{w64}
use Rattle.std.specs.Str.Lines.{lines}
use Rattle.std.specs.Str.Parse.{IsNumeral, digits_value, without_leading_plus, without_leading_sign, signed_digits_value}
use Rattle.sk_clause.specs.declared.lit.Lit.{Lit}
use Rattle.sk_clause.specs.Problem.{Problem, IsWithin, AreWithin}

-- a line, or a word
abbrev pub Text : Type 0
Text = List ℕ

-- what stands between the blanks of a line
abbrev pub words : Text → List Text
words line = filter (λ w. not (length w == 0)) (slice_split (λ b. b == 32) line)

abbrev pub begins_comment : Text → Bool
begins_comment line = not (length line == 0) && (slice_index line 0 == 99)

-- the words that a line says
abbrev pub said : Text → List Text
said line = if begins_comment line then [] else words line

-- a word of digits, with a sign before them or none, whose number fits 64 bits
pub record Writes (word : Text) (z : ℤ) : Type 0 where
  pub numeral : IsNumeral 10 (without_leading_sign word)
  pub fits : FitsSigned w64 z
  pub value : z ≡ signed_digits_value 10 word

-- the same with no minus
pub record Counts (word : Text) (n : ℕ) : Type 0 where
  pub numeral : IsNumeral 10 (without_leading_plus word)
  pub fits : n < 2 ^ 64
  pub value : n ≡ digits_value 10 (without_leading_plus word)

-- words that write numbers, one each
abbrev pub Spells : List Text → List ℤ → Type 0
Spells [] [] = ⊤
Spells [] (z ∷ zs) = ⊥
Spells (w ∷ ws) [] = ⊥
Spells (w ∷ ws) (z ∷ zs) = Writes w z × Spells ws zs

-- the number of a literal
abbrev pub lit_number : Lit → ℤ
lit_number l = if l.neg then negsuc l.var else pos (l.var + 1)

-- the numbers of clauses
abbrev pub numbers : List (List Lit) → List ℤ
numbers [] = []
numbers (c ∷ cs) = map lit_number c ++ (pos 0 ∷ numbers cs)

-- the variables are below the limit, if there is one
abbrev pub IsAllowed : Option ℕ → List Lit → Type 0
IsAllowed limit c = IfSome limit (λ n. IsWithin n c)

abbrev pub AreAllowed : Option ℕ → List (List Lit) → Type 0
AreAllowed limit cs = IfSome limit (λ n. AreWithin n cs)

-- lines that say the numbers of clauses
pub record AreRows (limit : Option ℕ) (rows : List Text) (clauses : List (List Lit)) : Type 0 where
  pub spelt : Spells (flat_map said rows) (numbers clauses)
  pub allowed : AreAllowed limit clauses

-- the four words of a header
pub record AreHeader (ws : List Text) (vars count : ℕ) : Type 0 where
  pub four : length ws ≡ 4
  pub first : slice_index_or ws 0 [] ≡ codes "p"
  pub second : slice_index_or ws 1 [] ≡ codes "cnf"
  pub vars_are : Counts (slice_index_or ws 2 []) vars
  pub count_is : Counts (slice_index_or ws 3 []) count

-- lines that say nothing, a header, and rows of as many clauses as it says, over as many variables
pub record AreFormula (text : List Text) (problem : Problem) : Type 0 where
  pub front : List Text
  pub head : Text
  pub rows : List Text
  pub parts : text ≡ front ++ head ∷ rows
  pub silent : All (λ line. said line ≡ []) front
  pub header : AreHeader (said head) problem.vars (length problem.clauses)
  pub clauses : AreRows (Some problem.vars) rows problem.clauses

-- the text is that of a formula
abbrev pub IsFormula : Text → Problem → Type 0
IsFormula text problem = AreFormula (lines text) problem

-- the text is that of a log
abbrev pub IsLog : Text → List (List Lit) → Type 0
IsLog text log = AreRows None (lines text) log
