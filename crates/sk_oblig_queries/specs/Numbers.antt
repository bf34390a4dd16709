-- Numbers that bits say one after another. Each number has a width, which is how many bits say it, the least first.
use Rattle.std.specs.Prelude.{ℕ, zero, suc, ◌+◌, ◌^◌, nat_le, Bool, List, [], ◌∷◌, ◌++◌, map, take, drop, if◌then◌else◌}
use Rattle.std.specs.List.{range_with_len}
use Rattle.sk_cnf.specs.declared.leaf.Leaf.{Leaf}
use Rattle.sk_gates.specs.Words.{number}

-- the first of so many numbers from b on, the power of 2 by which is at least s; the next number where there is none
abbrev pub first_power : ℕ → ℕ → ℕ → ℕ
first_power s zero b = b
first_power s (suc k) b = if nat_le s (2 ^ b) then b else first_power s k (b + 1)

-- the least b with 2^b at least s: so many bits say each number below s. No size is above 2^64.
unfoldable pub bits_of_size : ℕ → ℕ
bits_of_size s = first_power s 64 0

-- the numbers of these widths that bits say; bits that are wanting are 0
abbrev pub numbers_said : List ℕ → List Bool → List ℕ
numbers_said [] bits = []
numbers_said (w ∷ ws) bits = number (take w bits) ∷ numbers_said ws (drop w bits)

-- the leaves for the bits of numbers of these widths, the first of which is number n, and of which `leaf` gives bit k of number i
abbrev pub leaves_from : (ℕ → ℕ → Leaf) → ℕ → List ℕ → List Leaf
leaves_from leaf n [] = []
leaves_from leaf n (w ∷ ws) = map (leaf n) (range_with_len 0 w) ++ leaves_from leaf (n + 1) ws
