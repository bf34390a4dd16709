-- What a formula asks that grows by one input after another.
use Rattle.std.specs.Prelude.{◌≡◌, ℕ, List, [], ◌∷◌, Bool, All, Option, None, ◌↔◌}
use Rattle.sk_base.specs.declared.bounds.Bounds.{Bounds}
use Rattle.sk_dag.specs.declared.node.BoolId.{BoolId}
use Rattle.sk_dag.specs.Graph.{Graph}
use Rattle.sk_model.specs.declared.expanded.Choice.{Choice}
use Rattle.sk_model.specs.declared.expanded.Expanded.{Expanded}
use Rattle.sk_model.specs.declared.expanded.Input.{Input}
use Rattle.sk_model.specs.Fill.{InRange, fill}
use Rattle.sk_model.specs.Meets.{Passes}
use Rattle.sk_cnf.specs.declared.growing.Encoded.{Encoded}
use Rattle.sk_cnf.specs.Formula.{AreTrue, Encodes, Tight}
use Rattle.sk_cnf.specs.Standing.{Stands}
use Rattle.sk_oblig_queries.specs.declared.query.Query.TheVariants as query
use Rattle.sk_oblig_queries.specs.Queries.{bits_of_query, leaves_of_query}
use Rattle.sk_oblig_queries.specs.Said.{choice_said}
use Rattle.sk_oblig.specs.Formulas.{env_of}
use Rattle.sk_oblig_asking.specs.declared.asking.Asking.{Asking}

-- an input, and the limit on its cost
pub record Demand : Type 0 where
  pub input : Input
  pub limit : Option ℕ

-- A choice in range that passes each input within its own limit.
pub record PassesEach (e : Expanded) (bounds : Bounds) (demands : List Demand) (choice : Choice) : Type 0 where
  pub range : InRange e choice
  pub passes : All (λ (d : Demand). Passes (fill e choice) bounds (d.input ∷ []) d.limit) demands

-- The bits of all sites in order say such a choice.
abbrev pub AsksForEach : Encoded → Expanded → Bounds → List Demand → Type 0
AsksForEach f e bounds demands = Encodes f (bits_of_query e bounds (query.Wanted [] None)) (λ bits. PassesEach e bounds demands (choice_said e.sites bits))

-- the roots of the graph are true exactly where the bits of all sites say such a choice
pub record AreRoots (g : Graph) (e : Expanded) (bounds : Bounds) (demands : List Demand) (roots : List BoolId) : Type 0 where
  pub value : (bits : List Bool) → AreTrue g roots (env_of e bounds (query.Wanted [] None) bits) ↔ PassesEach e bounds demands (choice_said e.sites bits)

-- The formula asks for a choice in range that passes each of these inputs within its own limit, in one way. It means that roots
-- of the graph are true which say so.
pub record IsAsking (a : Asking) (e : Expanded) (bounds : Bounds) (demands : List Demand) : Type 0 where
  pub asks : AsksForEach a.growing.encoded e bounds demands
  pub tight : Tight a.growing.encoded
  pub width : a.dag.bits ≡ bounds.int_bits
  pub leaves : a.growing.leaves.keys ≡ leaves_of_query e bounds (query.Wanted [] None)
  pub roots : List BoolId
  pub stands : Stands a.growing a.dag roots
  pub means : AreRoots a.dag e bounds demands roots
