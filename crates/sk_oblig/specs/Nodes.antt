-- What the nodes say of which queries are made.
use Rattle.std.specs.Prelude.{◌≡◌, ℕ, ◌<◌, ◌⊎◌, ◌↔◌, Bool, true, false, List, [], ◌∷◌, drop, length, slice_get, All, Option, Some, None}
use Rattle.sk_base.specs.declared.bounds.Bounds.{Bounds}
use Rattle.sk_dag.specs.declared.env.Env.{Env}
use Rattle.sk_dag.specs.declared.node.BoolId.{BoolId}
use Rattle.sk_dag.specs.Graph.{Graph, Grows, HasBool}
use Rattle.sk_dag.specs.Eval.{bool_value}
use Rattle.sk_prog.specs.declared.prog.Fun.{Fun}
use Rattle.sk_prog.specs.declared.prog.Prog.{Prog}
use Rattle.sk_model.specs.declared.expanded.Choice.{Choice}
use Rattle.sk_model.specs.declared.expanded.Expanded.{Expanded}
use Rattle.sk_model.specs.declared.expanded.Input.{Input}
use Rattle.sk_model.specs.declared.expanded.Obligation.{Obligation}
use Rattle.sk_model.specs.declared.expanded.Site.{Site}
use Rattle.sk_model.specs.Fill.{InRange}
use Rattle.sk_model.specs.Inputs.{fun_of}
use Rattle.sk_holes_choice_laws.specs.Meeting.{BreaksUnder, cost_under}
use Rattle.sk_oblig_queries.specs.Queries.{IsOver}
use Rattle.sk_oblig_queries.specs.Said.{args_said}
use Rattle.sk_oblig_queries.specs.Widths.{sites_widths, params_widths, params_of, obligations_widths}
use Rattle.sk_oblig_checks.specs.Outcome.{choice_of}
use Rattle.sk_oblig_laws.specs.Laws.{HasNumbers, StartsBelow, are_plain}
use Rattle.sk_oblig_checks.specs.Checks.{IsBadUnder}

-- each value is below the size of its site
abbrev pub Within : List Site → List ℕ → Type 0
Within [] values = Unit {0}
Within (s ∷ ss) [] = ⊥
Within (s ∷ ss) (v ∷ vs) = (v < s.size) × Within ss vs

-- The node holds exactly where the values of the choice are below the sizes of their sites, where none has more bits than
-- the size asks for.
pub record SaysInRange (d : Graph) (sites : List Site) (r : BoolId) : Type 0 where
  pub there : HasBool d.nodes r
  pub value : (g : Graph) (e : Env) → Grows d g → StartsBelow (sites_widths sites) e.choice → (bool_value g e r ≡ true) ↔ Within sites e.choice

-- ---- Listed inputs

-- under the choice the input breaks its obligation, or costs more than the limit
abbrev pub BadBy : Expanded → Choice → Bounds → Option ℕ → Input → Type 0
BadBy x a bounds limit input = BreaksUnder x a bounds input ⊎ IsOver limit (cost_under x a bounds input)

-- the node holds exactly where a choice in range is one against which the input does not speak
pub record SaysFine (d : Graph) (x : Expanded) (bounds : Bounds) (limit : Option ℕ) (input : Input) (r : BoolId) : Type 0 where
  pub there : HasBool d.nodes r
  pub value : (g : Graph) (e : Env) → Grows d g → InRange x (choice_of None e) → (bool_value g e r ≡ true) ↔ (BadBy x (choice_of None e) bounds limit input → ⊥)

-- so of each
pub record SaysAllFine (d : Graph) (x : Expanded) (bounds : Bounds) (limit : Option ℕ) (inputs : List Input) (r : BoolId) : Type 0 where
  pub there : HasBool d.nodes r
  pub value : (g : Graph) (e : Env) → Grows d g → InRange x (choice_of None e) → (bool_value g e r ≡ true) ↔ All (λ input. BadBy x (choice_of None e) bounds limit input → ⊥) inputs

-- ---- Inputs that are asked for

-- whether the function is there and no parameter of it holds a reference
abbrev pub is_plain_fun : Option Fun → Bool
is_plain_fun (Some f) = are_plain f.params
is_plain_fun None = false

abbrev pub has_inputs : Prog → Obligation → Bool
has_inputs prog o = is_plain_fun (slice_get prog.funs (fun_of o).index)

-- the numbers say an input of the obligation that speaks against the choice
abbrev pub BadOf : Expanded → Choice → Bounds → Option ℕ → Obligation → List ℕ → Type 0
BadOf x a bounds limit o numbers = (has_inputs x.prog o ≡ true) × IsBadUnder x a bounds limit o (args_said (params_of x.prog o) numbers)

-- the node holds exactly where the numbers of the input from a scalar on do so
pub record SaysBad (d : Graph) (x : Expanded) (a : Choice) (bounds : Bounds) (limit : Option ℕ) (o : Obligation) (first : ℕ) (r : BoolId) : Type 0 where
  pub there : HasBool d.nodes r
  pub value : (g : Graph) (e : Env) (numbers : List ℕ) → Grows d g → HasNumbers e first numbers → StartsBelow (params_widths bounds.inbits (params_of x.prog o)) numbers → (bool_value g e r ≡ true) ↔ BadOf x a bounds limit o numbers

-- the numbers of one of the obligations, which have their numbers one after another, do so
abbrev pub AnyBad : Expanded → Choice → Bounds → Option ℕ → List Obligation → List ℕ → Type 0
AnyBad x a bounds limit [] numbers = ⊥
AnyBad x a bounds limit (o ∷ os) numbers = BadOf x a bounds limit o numbers ⊎ AnyBad x a bounds limit os (drop (length (params_widths bounds.inbits (params_of x.prog o))) numbers)

pub record SaysAnyBad (d : Graph) (x : Expanded) (a : Choice) (bounds : Bounds) (limit : Option ℕ) (os : List Obligation) (r : BoolId) : Type 0 where
  pub there : HasBool d.nodes r
  pub value : (g : Graph) (e : Env) (numbers : List ℕ) → Grows d g → HasNumbers e 0 numbers → StartsBelow (obligations_widths bounds.inbits x.prog os) numbers → (bool_value g e r ≡ true) ↔ AnyBad x a bounds limit os numbers
