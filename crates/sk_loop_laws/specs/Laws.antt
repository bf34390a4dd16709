-- Laws of pairs, of choices that complete, and of formulas behind which stands what follows from them.
use Rattle.std.specs.Prelude.{ℕ, ◌≡◌, ◌≤◌, ◌++◌, ◌↔◌, List, length, All, Contains, Option, Some, slice_get}
use Rattle.sk_base.specs.declared.bounds.Bounds.{Bounds}
use Rattle.sk_clause.specs.declared.lit.Lit.{Lit}
use Rattle.sk_clause.specs.Meaning.{EachFollows}
use Rattle.sk_cnf.specs.declared.growing.Encoded.{Encoded}
use Rattle.sk_cnf.specs.Formula.{Tight}
use Rattle.sk_model.specs.declared.expanded.Choice.{Choice}
use Rattle.sk_model.specs.declared.expanded.Expanded.{Expanded}
use Rattle.sk_model.specs.declared.expanded.Input.{Input}
use Rattle.sk_model.specs.declared.expanded.Pair.{Pair}
use Rattle.sk_prog.specs.declared.prog.Prog.{Prog}
use Rattle.sk_model.specs.Fill.{InRange}
use Rattle.sk_model.specs.Inputs.{IsInput}
use Rattle.sk_holes_choice_laws.specs.Meeting.{IsMetUnder}
use Rattle.sk_oblig_queries.specs.declared.query.Query.{Query}
use Rattle.sk_oblig_queries.specs.Queries.{AsksFor, IsBad, IsWanted}
use Rattle.sk_loop_laws.specs.Counts.{inputs_count}
use Rattle.sk_loop_laws.specs.Honest.{Honest, Grown, inputs_of}
use Rattle.sk_loop_laws.specs.Shown.{Completes}

-- pairs to which those of rounds were added stay honest
abbrev pub GrownIsHonest : Type 0
GrownIsHonest = (e : Expanded) (bounds : Bounds) (limit : Option ℕ) (old new : List Pair) → Honest e bounds old → Grown e bounds limit old new → Honest e bounds new

-- the inputs of honest pairs are distinct
abbrev pub InputsAreDistinct : Type 0
InputsAreDistinct = (e : Expanded) (bounds : Bounds) (pairs : List Pair) → Honest e bounds pairs → (i j : ℕ) (x : Input) → slice_get (inputs_of pairs) i ≡ Some x → slice_get (inputs_of pairs) j ≡ Some x → i ≡ j

-- so there are at most as many honest pairs as the program has inputs, however great a budget of rounds is
abbrev pub RoundsAreFew : Type 0
RoundsAreFew = (e : Expanded) (bounds : Bounds) (pairs : List Pair) → Honest e bounds pairs → length pairs ≤ inputs_count bounds.inbits e.prog.funs

-- The list has each input of the program, and nothing else, once, and is as long as their count says.
pub record AreAllInputs (prog : Prog) (bounds : Bounds) (inputs : List Input) : Type 0 where
  pub long : length inputs ≡ inputs_count bounds.inbits prog.funs
  pub each : (x : Input) → IsInput prog bounds x ↔ Contains inputs x
  pub once : (i j : ℕ) (x : Input) → slice_get inputs i ≡ Some x → slice_get inputs j ≡ Some x → i ≡ j

-- there is such a list: so many inputs a program has
abbrev pub InputsAreCounted : Type 0
InputsAreCounted = (prog : Prog) (bounds : Bounds) → (inputs : List Input) × AreAllInputs prog bounds inputs

-- each input of honest pairs is one of the program
abbrev pub HonestAreInputs : Type 0
HonestAreInputs = (e : Expanded) (bounds : Bounds) (pairs : List Pair) → Honest e bounds pairs → All (IsInput e.prog bounds) (inputs_of pairs)

-- a choice against which no input speaks completes
abbrev pub NoneBadCompletes : Type 0
NoneBadCompletes = (e : Expanded) (bounds : Bounds) (limit : Option ℕ) (choice : Choice) → InRange e choice → IsMetUnder e choice bounds → ((input : Input) → IsBad e bounds choice limit input → ⊥) → Completes e bounds limit choice

-- and the other way round
abbrev pub CompletesHasNoneBad : Type 0
CompletesHasNoneBad = (e : Expanded) (bounds : Bounds) (limit : Option ℕ) (choice : Choice) → IsMetUnder e choice bounds → Completes e bounds limit choice → (input : Input) → IsBad e bounds choice limit input → ⊥

-- a choice that completes passes each list of inputs of the program
abbrev pub CompletesIsWanted : Type 0
CompletesIsWanted = (e : Expanded) (bounds : Bounds) (limit : Option ℕ) (choice : Choice) (inputs : List Input) → IsMetUnder e choice bounds → Completes e bounds limit choice → All (IsInput e.prog bounds) inputs → IsWanted e bounds inputs limit choice

-- the formula with further clauses behind its own
abbrev pub with_learnt : Encoded → List (List Lit) → Encoded
with_learnt f learnt = record { clauses = record { vars = f.clauses.vars; clauses = f.clauses.clauses ++ learnt }; names = f.names }

-- with clauses behind it that follow, a formula asks for what it asked
abbrev pub LearntAsksFor : Type 0
LearntAsksFor = (f : Encoded) (e : Expanded) (bounds : Bounds) (q : Query) (learnt : List (List Lit)) → AsksFor f e bounds q → EachFollows f.clauses.clauses learnt → AsksFor (with_learnt f learnt) e bounds q

-- and in one way, as before
abbrev pub LearntIsTight : Type 0
LearntIsTight = (f : Encoded) (learnt : List (List Lit)) → Tight f → Tight (with_learnt f learnt)
