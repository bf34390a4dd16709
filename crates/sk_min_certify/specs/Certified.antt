-- What certifying a choice with its value, or that there is none, answers.
use Rattle.std.specs.Prelude.{ℕ, ◌≡◌, ◌<◌, ◌-◌, List, [], length, slice_get, Option, Some, None}
use Rattle.sk_base.specs.declared.bounds.Bounds.{Bounds}
use Rattle.sk_model.specs.declared.expanded.Choice.{Choice}
use Rattle.sk_model.specs.declared.expanded.Expanded.{Expanded}
use Rattle.sk_model.specs.declared.expanded.Input.{Input}
use Rattle.sk_model.specs.Obligations.{obligations}
use Rattle.sk_oblig_queries.specs.declared.query.Query.{Query}
use Rattle.sk_oblig_queries.specs.declared.query.Query.TheVariants as query
use Rattle.sk_oblig_queries.specs.Queries.{IsWanted}
use Rattle.sk_cert.specs.declared.certificate.Proof.{Proof}
use Rattle.sk_min_certify.specs.declared.certified.Certified.{Certified}
use Rattle.sk_min_certify.specs.declared.certified.Certified.TheVariants as certified
use Rattle.sk_min_certify.specs.Proves.{NoneIsWanted, Proves}
use Rattle.sk_min_certify.specs.Stops.{IsLearnt}

-- the limit of the lower proof, where one is made: none without a choice, and else the value less 1, where it is above 0
abbrev pub IsLowerLimit : Option Choice → ℕ → Option ℕ → Type 0
IsLowerLimit None value limit = limit ≡ None
IsLowerLimit (Some a) value limit = (0 < value) × (limit ≡ Some (value - 1))

-- a query of the lower proof
abbrev pub IsLowerQuery : Option Choice → ℕ → List Input → Query → Type 0
IsLowerQuery choice value inputs (query.Wanted listed limit) = (listed ≡ inputs) × IsLowerLimit choice value limit
IsLowerQuery choice value inputs (query.Bad a limit) = ⊥
IsLowerQuery choice value inputs (query.BadAt a o limit) = ⊥

module _ (e : Expanded) where
  -- a query of an upper proof: for an input of some obligation that speaks against the choice within the value
  abbrev pub IsUpperQuery : Choice → ℕ → Query → Type 0
  IsUpperQuery choice value (query.BadAt a o limit) = (a ≡ choice) × (o < length (obligations e.prog)) × (limit ≡ value)
  IsUpperQuery choice value (query.Bad a limit) = ⊥
  IsUpperQuery choice value (query.Wanted inputs limit) = ⊥

  -- which there is of a choice alone
  abbrev pub IsUpperQueryOf : Option Choice → ℕ → Query → Type 0
  IsUpperQueryOf None value q = ⊥
  IsUpperQueryOf (Some a) value q = IsUpperQuery a value q

module _ (e : Expanded) (bounds : Bounds) where
  -- where a lower proof is made, no choice passes the inputs within its limit
  abbrev pub NonePassesBelow : Option Choice → ℕ → List Input → Type 0
  NonePassesBelow choice value inputs = (limit : Option ℕ) → IsLowerLimit choice value limit → NoneIsWanted e bounds inputs limit

  -- One proof for each obligation, in order, that no input of it speaks against the choice within the value.
  pub record AreUpper (choice : Choice) (value : ℕ) (upper : List Proof) : Type 0 where
    pub count : length upper ≡ length (obligations e.prog)
    pub each : (o : ℕ) (p : Proof) → slice_get upper o ≡ Some p → Proves e bounds (query.BadAt choice o value) p

  -- and none without a choice
  abbrev pub AreUpperOf : Option Choice → ℕ → List Proof → Type 0
  AreUpperOf None value upper = upper ≡ []
  AreUpperOf (Some a) value upper = AreUpper a value upper

  -- A proof that no choice passes the inputs within the limit of the lower proof; none exactly where there is no such limit.
  abbrev pub IsLower : Option Choice → ℕ → List Input → Option Proof → Type 0
  IsLower choice value inputs (Some p) = (limit : Option ℕ) × IsLowerLimit choice value limit × Proves e bounds (query.Wanted inputs limit) p
  IsLower choice value inputs None = (limit : Option ℕ) → IsLowerLimit choice value limit → ⊥

  -- A query of one of these proofs: a choice for whose inputs it asks passes the listed ones.
  abbrev pub IsPut : Option Choice → ℕ → List Input → Query → Type 0
  IsPut choice value inputs (query.BadAt a o limit) = (choice ≡ Some a) × (o < length (obligations e.prog)) × (limit ≡ value) × IsWanted e bounds inputs (Some limit) a
  IsPut choice value inputs (query.Wanted listed limit) = (listed ≡ inputs) × IsLowerLimit choice value limit
  IsPut choice value inputs (query.Bad a limit) = ⊥

  -- Every proof; or a budget, which is not 0, is spent on the formula of the query of one.
  abbrev pub IsCertified : Option Choice → ℕ → List Input → ℕ → Certified → Type 0
  IsCertified choice value inputs count (certified.Proofs upper lower) = AreUpperOf choice value upper × IsLower choice value inputs lower
  IsCertified choice value inputs count (certified.Spent q f log) = IsPut choice value inputs q × IsLearnt e bounds count q f log
