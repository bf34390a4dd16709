-- Targets of which each slot comes once, in rising order.
use Rattle.std.specs.Prelude.{◌≡◌, ℕ, ◌+◌, ◌≤◌, List, [], ◌∷◌, ◌++◌, ⊤}
use Rattle.sk_dag.specs.declared.node.BoolId.{BoolId}

-- each slot is above the one before it, and the first is at least `low`
abbrev pub RiseFrom : ℕ → List (ℕ × BoolId) → Type 0
RiseFrom low [] = ⊤
RiseFrom low (target ∷ targets) = (low ≤ target.0) × RiseFrom (target.0 + 1) targets

-- where two lists of targets rise, this slot is the least of theirs, and these targets, which rise, have those above it
pub record IsLeast (a b : List (ℕ × BoolId)) (slot : ℕ) (more others : List (ℕ × BoolId)) : Type 0 where
  pub rest : (low : ℕ) → RiseFrom low a → RiseFrom low b → (low ≤ slot) × (RiseFrom (slot + 1) more × RiseFrom (slot + 1) others)

-- behind these targets there are more, which rise
pub record AddsRising (low : ℕ) (before after : List (ℕ × BoolId)) : Type 0 where
  pub more : List (ℕ × BoolId)
  pub pushed : after ≡ before ++ more
  pub rises : RiseFrom low more
