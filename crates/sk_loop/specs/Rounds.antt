-- What the rounds of a search leave behind.
use Rattle.std.specs.Prelude.{ℕ, ◌≡◌, ◌≤◌, ◌⊎◌, ◌++◌, List, length, Option}
use Rattle.sk_base.specs.declared.bounds.Bounds.{Bounds}
use Rattle.sk_base.specs.declared.bounds.Budget.{Budget}
use Rattle.sk_model.specs.declared.expanded.Expanded.{Expanded}
use Rattle.sk_model.specs.declared.expanded.Pair.{Pair}
use Rattle.sk_oblig_queries.specs.Queries.{IsWanted}
use Rattle.sk_loop_laws.specs.Honest.{Grown, inputs_of}
use Rattle.sk_loop_laws.specs.Shown.{HasRoom}
use Rattle.sk_loop.specs.declared.session.Session.{Session}
use Rattle.sk_loop.specs.declared.turn.Proposed.{Proposed}
use Rattle.sk_loop.specs.declared.turn.Proposed.TheVariants as proposed
use Rattle.sk_loop.specs.declared.turn.Turn.{Turn}
use Rattle.sk_loop.specs.declared.turn.Turn.TheVariants as turn
use Rattle.sk_loop.specs.Found.{IsFound}
use Rattle.sk_loop.specs.Session.{IsLoaded, StandsFor}

-- the old pairs stand first
pub record Keeps (old new : List Pair) : Type 0 where
  pub added : List Pair
  pub behind : new ≡ old ++ added

-- Nothing but the solver changed, which has all clauses.
pub record Solves (old new : Session) : Type 0 where
  pub asking : new.asking ≡ old.asking
  pub count : new.count ≡ old.count
  pub limit : new.limit ≡ old.limit
  pub loaded : IsLoaded new.solver new.loaded new.asking.growing.encoded.clauses

-- Pairs of rounds were added, and the session stands for them.
pub record Steps (e : Expanded) (bounds : Bounds) (limit : Option ℕ) (old new : List Pair) (after : Session) : Type 0 where
  pub grown : Grown e bounds limit old new
  pub stands : StandsFor after e bounds (inputs_of new) limit

-- a choice that passes the inputs of the pairs, or the end
abbrev pub IsProposed : Expanded → Bounds → Option ℕ → Budget → List Pair → Proposed → Type 0
IsProposed e bounds limit budget pairs (proposed.Choice choice) = IsWanted e bounds (inputs_of pairs) limit choice
IsProposed e bounds limit budget pairs (proposed.Ended found) = IsFound e bounds limit budget pairs found

-- the end, or room for a further round
abbrev pub IsTurn : Expanded → Bounds → Option ℕ → Budget → List Pair → Turn → Type 0
IsTurn e bounds limit budget pairs (turn.Ended found) = IsFound e bounds limit budget pairs found
IsTurn e bounds limit budget pairs turn.Again = HasRoom budget pairs

-- no more pairs than the budget says, if there is one
abbrev pub HasKept : ℕ → List Pair → Type 0
HasKept rounds pairs = (rounds ≡ 0) ⊎ (length pairs ≤ rounds)
