-- What a test tells.
use Rattle.std.proofs.Common.{false, true, true≢false, refl, sym}
use Rattle.std.specs.Prelude.{IsTrue, ◌↔◌}

-- a test that fails tells that something is not so
pub not_so : {P : Type 0} → (P → ⊥) → IsTrue false ↔ P
not_so wrong = (λ is_true. absurd (true≢false (sym is_true)), λ p. absurd (wrong p))

pub is_so : {P : Type 0} → P → IsTrue true ↔ P
is_so p = (λ is_true. p, λ q. refl)
