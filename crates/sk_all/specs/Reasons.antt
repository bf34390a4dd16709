-- Inputs that explain why there is no completion.
use Rattle.std.specs.Prelude.{ℕ, zero, suc, ◌<◌, ◌++◌, List, [], ◌∷◌, drop, length, None, All, Contains}
use Rattle.sk_base.specs.declared.bounds.Bounds.{Bounds}
use Rattle.sk_model.specs.declared.expanded.Choice.{Choice}
use Rattle.sk_model.specs.declared.expanded.Expanded.{Expanded}
use Rattle.sk_model.specs.declared.expanded.Input.{Input}
use Rattle.sk_model.specs.Inputs.{IsInput}
use Rattle.sk_oblig_queries.specs.Queries.{IsWanted}
use Rattle.sk_min_laws.specs.Best.{Meeting}
use Rattle.sk_all.specs.declared.answer.Why.{Why}
use Rattle.sk_all.specs.declared.answer.Why.TheVariants as why

-- each differs from those behind it
abbrev pub AreDistinct : List Input → Type 0
AreDistinct [] = Unit {0}
AreDistinct (x ∷ xs) = (Contains xs x → ⊥) × AreDistinct xs

-- the list without the item at place k
abbrev pub without : ℕ → List Input → List Input
without k [] = []
without zero (x ∷ xs) = xs
without (suc k) (x ∷ xs) = x ∷ without k xs

-- Some choice in range is broken by none of the inputs.
pub record SomePasses (e : Expanded) (bounds : Bounds) (inputs : List Input) : Type 0 where
  pub choice : Choice
  pub passes : IsWanted e bounds inputs None choice

-- Each choice in range is broken by one of the inputs.
pub record NonePasses (e : Expanded) (bounds : Bounds) (inputs : List Input) : Type 0 where
  pub none : (c : Choice) → IsWanted e bounds inputs None c → ⊥

-- Distinct inputs of the program that no choice in range passes, though some passes all but any one of them.
pub record Explains (e : Expanded) (bounds : Bounds) (inputs : List Input) : Type 0 where
  pub are_inputs : All (IsInput e.prog bounds) inputs
  pub distinct : AreDistinct inputs
  pub none : NonePasses e bounds inputs
  pub needed : (k : ℕ) → k < length inputs → SomePasses e bounds (without k inputs)

-- inputs that explain why no choice meets its obligations, or a choice that does
abbrev pub IsWhy : Expanded → Bounds → Why → Type 0
IsWhy e bounds (why.Inputs inputs) = Explains e bounds inputs × ((c : Choice) → Meeting e bounds c → ⊥)
IsWhy e bounds (why.Met choice) = Meeting e bounds choice

-- The inputs kept of the first i, with those behind these, explain it so far.
pub record Thinned (e : Expanded) (bounds : Bounds) (all kept : List Input) (i : ℕ) : Type 0 where
  pub are_inputs : All (IsInput e.prog bounds) (kept ++ drop i all)
  pub distinct : AreDistinct (kept ++ drop i all)
  pub none : NonePasses e bounds (kept ++ drop i all)
  pub needed : (k : ℕ) → k < length kept → SomePasses e bounds (without k kept ++ drop i all)
