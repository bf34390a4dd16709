-- Twice a number, and one more or not.
use Rattle.std.proofs.Common.{◌≡◌, ℕ, ◌+◌, ◌*◌, ◌/◌, ◌%◌, arith}

pub even_half : (n : ℕ) → (n * 2) / 2 ≡ n
even_half n = omega arith

pub odd_half : (n : ℕ) → (n * 2 + 1) / 2 ≡ n
odd_half n = omega arith

pub even_rest : (n : ℕ) → (n * 2) % 2 ≡ 0
even_rest n = omega arith

pub odd_rest : (n : ℕ) → (n * 2 + 1) % 2 ≡ 1
odd_rest n = omega arith

pub ruleset packs = (even_half, odd_half, even_rest, odd_rest)
