-- What is asked of an expanded program for its queries to be put as formulas, and what their roots say.
use Rattle.std.specs.Prelude.{◌≡◌, ℕ, ◌<◌, ◌≤◌, ◌-◌, ◌↔◌, true, Bool, List, [], ◌∷◌, length, slice_get, All, IsTrue, Option, Some, None}
use Rattle.sk_base.specs.declared.bounds.Bounds.{Bounds}
use Rattle.sk_dag.specs.declared.env.Env.{Env}
use Rattle.sk_dag.specs.declared.node.BoolId.{BoolId}
use Rattle.sk_dag.specs.Graph.{Graph, Grows, HasBool}
use Rattle.sk_dag.specs.Eval.{bool_value}
use Rattle.sk_model.specs.declared.expanded.Choice.{Choice}
use Rattle.sk_model.specs.declared.expanded.Expanded.{Expanded}
use Rattle.sk_model.specs.declared.expanded.Input.{Input}
use Rattle.sk_model.specs.declared.expanded.Obligation.{Obligation}
use Rattle.sk_model.specs.Fill.{InRange}
use Rattle.sk_model.specs.Obligations.{obligations}
use Rattle.sk_expand_sites.specs.Needs.{HasItsSites, are_narrow}
use Rattle.sk_holes_choice_laws.specs.Meeting.{IsMetUnder}
use Rattle.sk_cnf.specs.declared.leaf.Leaf.{Leaf}
use Rattle.sk_cnf.specs.declared.growing.Encoded.{Encoded}
use Rattle.sk_cnf.specs.Formula.{Extends, Tight}
use Rattle.sk_cnf.specs.Leaves.{Says}
use Rattle.sk_oblig_queries.specs.declared.query.Query.{Query}
use Rattle.sk_oblig_queries.specs.declared.query.Query.TheVariants as query
use Rattle.sk_oblig_queries.specs.Numbers.{numbers_said}
use Rattle.sk_oblig_queries.specs.Queries.{Holds, IsBad, input_of_query, widths_of_query}
use Rattle.sk_oblig_queries.specs.Widths.{sites_widths}
use Rattle.sk_oblig_checks.specs.Outcome.{choice_of}
use Rattle.sk_oblig_laws.specs.Laws.{StartsBelow, choice_env, input_env}
use Rattle.sk_oblig.specs.Nodes.{BadBy}

-- The sites are those of the program, each is narrow, an int of the input is a word that is not negative, and under each choice
-- in range the expansion meets what its filling meets.
pub record IsAskable (e : Expanded) (bounds : Bounds) : Type 0 where
  pub sites : HasItsSites e
  pub narrow : IsTrue (are_narrow e.sites)
  pub low : 2 ≤ bounds.int_bits
  pub high : bounds.int_bits ≤ 32
  pub inbits : bounds.inbits ≤ bounds.int_bits - 1
  pub met : (choice : Choice) → InRange e choice → IsMetUnder e choice bounds

-- the choice of a query for an input is in range, and the one obligation that is asked of is there
abbrev pub IsAsked : Expanded → Query → Type 0
IsAsked e (query.Bad choice limit) = InRange e choice
IsAsked e (query.BadAt choice o limit) = InRange e choice × (o < length (obligations e.prog))
IsAsked e (query.Wanted inputs limit) = Unit {0}

-- the query asks for an input
abbrev pub AsksInput : Query → Type 0
AsksInput (query.Bad choice limit) = Unit {0}
AsksInput (query.BadAt choice o limit) = Unit {0}
AsksInput (query.Wanted inputs limit) = ⊥

-- the input is one that the query asks for
abbrev pub IsAnswer : Expanded → Bounds → Query → Input → Type 0
IsAnswer e bounds (query.Bad choice limit) input = IsBad e bounds choice limit input
IsAnswer e bounds (query.BadAt choice o limit) input = IsBad e bounds choice (Some limit) input × (input.obligation ≡ o)
IsAnswer e bounds (query.Wanted inputs limit) input = ⊥

-- An input of the obligation with a number that speaks against the choice; none only where the one that the bits of `Bad` say does not.
abbrev pub IsSaidAt : Expanded → Bounds → Choice → Option ℕ → ℕ → List Bool → Option Input → Type 0
IsSaidAt e bounds choice limit o bits (Some input) = IsBad e bounds choice limit input
IsSaidAt e bounds choice limit o bits None = IsBad e bounds choice limit (input_of_query e bounds (query.Bad choice limit) o bits) → ⊥

-- An input that speaks against the choice; none only where the bits of `Bad` say none.
abbrev pub IsSaid : Expanded → Bounds → Choice → Option ℕ → List Bool → Option Input → Type 0
IsSaid e bounds choice limit bits (Some input) = IsBad e bounds choice limit input
IsSaid e bounds choice limit bits None = Holds e bounds (query.Bad choice limit) bits → ⊥

-- ---- Step by step

-- of the first so many obligations the bits say no input that speaks against the choice
abbrev pub NoneBefore : Expanded → Bounds → Choice → Option ℕ → List Bool → ℕ → Type 0
NoneBefore e bounds choice limit bits count = (o : ℕ) → o < count → IsBad e bounds choice limit (input_of_query e bounds (query.Bad choice limit) o bits) → ⊥

-- the list of at most one
abbrev pub at_most_one : Option Obligation → List Obligation
at_most_one (Some o) = o ∷ []
at_most_one None = []

-- the environment that the bits of a query say
abbrev pub env_of : Expanded → Bounds → Query → List Bool → Env
env_of e bounds (query.Bad choice limit) bits = input_env (numbers_said (widths_of_query e bounds (query.Bad choice limit)) bits)
env_of e bounds (query.BadAt choice o limit) bits = input_env (numbers_said (widths_of_query e bounds (query.BadAt choice o limit)) bits)
env_of e bounds (query.Wanted inputs limit) bits = choice_env (numbers_said (widths_of_query e bounds (query.Wanted inputs limit)) bits)

-- the node holds exactly where the choice is in range and no listed input speaks against it
pub record SaysWanted (d : Graph) (x : Expanded) (bounds : Bounds) (inputs : List Input) (limit : Option ℕ) (r : BoolId) : Type 0 where
  pub there : HasBool d.nodes r
  pub value : (g : Graph) (e : Env) → Grows d g → StartsBelow (sites_widths x.sites) e.choice → length e.choice ≡ length x.sites → (bool_value g e r ≡ true) ↔ (InRange x (choice_of None e) × All (λ input. BadBy x (choice_of None e) bounds limit input → ⊥) inputs)

-- the node holds exactly where the bits say what the query asks for
pub record IsRoot (d : Graph) (x : Expanded) (bounds : Bounds) (q : Query) (r : BoolId) : Type 0 where
  pub there : HasBool d.nodes r
  pub value : (bits : List Bool) → (bool_value d (env_of x bounds q bits) r ≡ true) ↔ Holds x bounds q bits

-- bits of the leaves extend exactly where the node holds in each environment that they say, and in one way
pub record Puts (f : Encoded) (leaves : List Leaf) (d : Graph) (r : BoolId) : Type 0 where
  pub named : length f.names ≡ length leaves
  pub within : All (λ x. x < f.clauses.vars) f.names
  pub distinct : (i j x : ℕ) → slice_get f.names i ≡ Some x → slice_get f.names j ≡ Some x → i ≡ j
  pub exact : (bits : List Bool) (e : Env) → length bits ≡ length leaves → Says leaves bits e → Extends f bits ↔ (bool_value d e r ≡ true)
  pub tight : Tight f
