-- What `parse` answers.
use Rattle.std.specs.Prelude.{◌≡◌, ℕ, max, ◌≤◌, Bool, true, false, ◌||◌, IsTrue, List, [], ◌∷◌, Some, None, Result, Ok, Err, IfErr, MatchResult}
use Rattle.sk_tree.specs.declared.token.Token.{Token}
use Rattle.sk_tree.specs.declared.item.Tree.{Tree}
use Rattle.sk_tree.specs.Depth.{tree_depth, most_levels}
use Rattle.sk_tree.specs.Reads.{Reads, HasTooManyStrings, HasBadAlternative}
use Rattle.sk_parser.specs.declared.fault.ParseFault.{ParseFault}
use Rattle.sk_parser.specs.declared.fault.ParseFault.TheVariants as fault
use Rattle.sk_parser_laws.specs.Faults.{no_faults, tally_of}
use Rattle.sk_parser_laws.specs.Laws.{ReadsWithin}
use Rattle.sk_parser_laws.specs.ItemReader.{tree_at}

-- The tokens read as the tree, which is at most 256 deep, and none of its patterns has a fault.
pub record IsTreeOf (tokens : List Token) (tree : Tree) : Type 0 where
  pub reads : Reads tokens tree
  pub within : tree_depth tree ≤ most_levels
  pub few : HasTooManyStrings tree → ⊥
  pub good : HasBadAlternative tree → ⊥

-- The tokens read as no tree of that depth.
abbrev pub ReadsAsNone : List Token → Type 0
ReadsAsNone tokens = (tree : Tree) → ReadsWithin tokens tree → ⊥

-- A tree of that depth reads, and one of its patterns has too many strings.
abbrev pub ReadsWithTooMany : List Token → Type 0
ReadsWithTooMany tokens = (tree : Tree) × ReadsWithin tokens tree × HasTooManyStrings tree

-- A tree of that depth reads, none of its patterns has too many strings, and one has a string that reads as no expression.
abbrev pub ReadsWithBad : List Token → Type 0
ReadsWithBad tokens = (tree : Tree) × ReadsWithin tokens tree × (HasTooManyStrings tree → ⊥) × HasBadAlternative tree

abbrev pub is_memory : ParseFault → Bool
is_memory fault.Memory = true
is_memory _ = false

abbrev pub is_no_reading : ParseFault → Bool
is_no_reading (fault.NoReading at) = true
is_no_reading _ = false

abbrev pub is_too_many : ParseFault → Bool
is_too_many (fault.TooManyStrings at) = true
is_too_many _ = false

abbrev pub is_bad : ParseFault → Bool
is_bad (fault.BadAlternative at) = true
is_bad _ = false

-- The fault comes only by its cause, and where the cause holds it comes, unless memory runs out.
pub record Exactly (is_it : ParseFault → Bool) (cause : Type 0) (result : Result Tree ParseFault) : Type 0 where
  pub by_cause : IfErr result (λ e. IsTrue (is_it e) → cause)
  pub at_cause : cause → MatchResult result (λ _. ⊥) (λ e. IsTrue (is_it e || is_memory e))

-- where a fault is
abbrev pub place_of : ParseFault → ℕ
place_of (fault.NoReading at) = at
place_of (fault.BadAlternative at) = at
place_of (fault.TooManyStrings at) = at
place_of fault.Memory = 0

-- the greatest end of a token, and 0 where there is none
abbrev pub greatest_end : List Token → ℕ
greatest_end [] = 0
greatest_end (t ∷ ts) = max t.span.to (greatest_end ts)

-- what the function on lists says of an answer for a tree that has been read
abbrev pub Checks : Tree → Result Tree ParseFault → Type 0
Checks tree (Ok answer) = (answer ≡ tree) × (tally_of tree ≡ no_faults)
Checks tree (Err (fault.NoReading at)) = ⊥
Checks tree (Err (fault.TooManyStrings at)) = (tally_of tree).too_many ≡ true
Checks tree (Err (fault.BadAlternative at)) = ((tally_of tree).too_many ≡ false) × ((tally_of tree).bad ≡ true)
Checks tree (Err fault.Memory) = Unit {0}

-- and for tokens
abbrev pub Answers : List Token → Result Tree ParseFault → Type 0
Answers tokens (Ok answer) = (tree_at tokens ≡ Some answer) × (tally_of answer ≡ no_faults)
Answers tokens (Err (fault.NoReading at)) = tree_at tokens ≡ None
Answers tokens (Err (fault.TooManyStrings at)) = (tree : Tree) × (tree_at tokens ≡ Some tree) × ((tally_of tree).too_many ≡ true)
Answers tokens (Err (fault.BadAlternative at)) = (tree : Tree) × (tree_at tokens ≡ Some tree) × ((tally_of tree).too_many ≡ false) × ((tally_of tree).bad ≡ true)
Answers tokens (Err fault.Memory) = Unit {0}
