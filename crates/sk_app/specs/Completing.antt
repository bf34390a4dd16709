-- Completions of a sketch, and which costs least.
use Rattle.std.specs.Prelude.{ℕ, ◌≡◌, ◌≤◌, List, None}
use Rattle.sk_base.specs.declared.bounds.Bounds.{Bounds}
use Rattle.sk_base.specs.declared.bounds.Budget.{Budget}
use Rattle.sk_model.specs.declared.expanded.Choice.{Choice}
use Rattle.sk_model.specs.declared.expanded.Expanded.{Expanded}
use Rattle.sk_model.specs.Fill.{InRange, fill}
use Rattle.sk_model.specs.Meets.{Meets, IsGreatestCost}
use Rattle.sk_model.specs.declared.expanded.Input.{Input}
use Rattle.sk_model.specs.declared.expanded.Pair.{Pair}
use Rattle.sk_oblig_queries.specs.Queries.{IsWanted}
use Rattle.sk_loop_laws.specs.Honest.{Honest, inputs_of}
use Rattle.sk_loop_laws.specs.Shown.{HasRoom}
use Rattle.sk_app.specs.declared.completion.Completion.{Completion}

-- The filling of a choice in range, which meets its obligations, and its greatest cost.
pub record IsCompletion (bounds : Bounds) (e : Expanded) (c : Completion) : Type 0 where
  pub in_range : InRange e c.choice
  pub is_filling : c.filled ≡ fill e c.choice
  pub meets : Meets c.filled bounds
  pub costs : IsGreatestCost c.filled bounds c.value

-- No choice in range passes even these inputs.
abbrev pub IsNoChoice : Expanded → Bounds → List Input → Type 0
IsNoChoice e bounds inputs = (choice : Choice) → IsWanted e bounds inputs None choice → ⊥

-- These pairs are honest, and show this by their inputs; the budget of rounds, if there is one, has room for a further pair.
pub record IsShownBy (e : Expanded) (bounds : Bounds) (budget : Budget) (Shown : List Input → Type 0) (pairs : List Pair) : Type 0 where
  pub honest : Honest e bounds pairs
  pub room : HasRoom budget pairs
  pub shown : Shown (inputs_of pairs)

-- Some pairs show it.
pub record IsShownWithin (e : Expanded) (bounds : Bounds) (budget : Budget) (Shown : List Input → Type 0) : Type 0 where
  pub pairs : List Pair
  pub by : IsShownBy e bounds budget Shown pairs

-- A completion, and none costs less.
pub record IsLeast (bounds : Bounds) (e : Expanded) (c : Completion) : Type 0 where
  pub completes : IsCompletion bounds e c
  pub least : (b : Choice) → InRange e b → Meets (fill e b) bounds → (v : ℕ) → IsGreatestCost (fill e b) bounds v → c.value ≤ v
