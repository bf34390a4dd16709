-- What leaves say of the holes and of the input.
use Rattle.std.specs.Prelude.{◌≡◌, ℕ, zero, suc, ◌+◌, ◌*◌, ◌^◌, max, Bool, false, ◌&&◌, nat_eq, List, [], ◌∷◌, map, Option, Some, None, position, slice_index, slice_index_or, pos}
use Rattle.std.specs.List.{range_with_len}
use Rattle.sk_dag.specs.declared.env.Env.{Env}
use Rattle.sk_dag.specs.Eval.{entry}
use Rattle.sk_gates.specs.Words.{digit}
use Rattle.sk_cnf.specs.declared.leaf.Leaf.{Leaf}
use Rattle.sk_cnf.specs.declared.leaf.Leaf.TheVariants.{Hole, Input}

-- whether two leaves are the same
abbrev pub same_leaf : Leaf → Leaf → Bool
same_leaf (Hole s j) (Hole t k) = nat_eq s t && nat_eq j k
same_leaf (Input s j) (Input t k) = nat_eq s t && nat_eq j k
same_leaf (Hole s j) (Input t k) = false
same_leaf (Input s j) (Hole t k) = false

-- bit k of the same hole or scalar
abbrev pub with_bit : Leaf → ℕ → Leaf
with_bit (Hole site j) k = Hole site k
with_bit (Input scalar j) k = Input scalar k

-- the bit with this number, if there is one; false if there is none
abbrev pub bit_or_false : List Bool → Option ℕ → Bool
bit_or_false bits None = false
bit_or_false bits (Some i) = slice_index_or bits i false

-- the bit of a leaf, where these are the bits of the leaves in order: false for one that is not among them
abbrev pub leaf_bit : List Leaf → List Bool → Leaf → Bool
leaf_bit leaves bits x = bit_or_false bits (position (same_leaf x) leaves)

-- the number whose bit k is f k for each k below n, and which has no others
unfoldable pub number_of : ℕ → (ℕ → Bool) → ℕ
number_of zero f = 0
number_of (suc n) f = number_of n f + 2 ^ n * digit (f n)

-- the value of the hole at a site: bit k, from 0 to 31, is that of its leaf
abbrev pub hole_number : List Leaf → List Bool → ℕ → ℕ
hole_number leaves bits site = number_of 32 (λ k. leaf_bit leaves bits (Hole site k))

-- and of a scalar of the input, which so is never negative
abbrev pub input_number : List Leaf → List Bool → ℕ → ℕ
input_number leaves bits scalar = number_of 32 (λ k. leaf_bit leaves bits (Input scalar k))

-- the environment gives each hole and each scalar the value that the leaves say
pub record Says (leaves : List Leaf) (bits : List Bool) (e : Env) : Type 0 where
  pub holes : (site : ℕ) → slice_index e.choice site ≡ hole_number leaves bits site
  pub inputs : (scalar : ℕ) → entry e.input scalar ≡ pos (input_number leaves bits scalar)

-- one more than the greatest site of a hole
abbrev pub sites : List Leaf → ℕ
sites [] = 0
sites (Hole site k ∷ leaves) = max (site + 1) (sites leaves)
sites (Input scalar k ∷ leaves) = sites leaves

-- one more than the greatest number of a scalar
abbrev pub scalars : List Leaf → ℕ
scalars [] = 0
scalars (Hole site k ∷ leaves) = scalars leaves
scalars (Input scalar k ∷ leaves) = max (scalar + 1) (scalars leaves)

-- the environment that the leaves say
abbrev pub leaf_env : List Leaf → List Bool → Env
leaf_env leaves bits = record {
  choice = map (hole_number leaves bits) (range_with_len 0 (sites leaves));
  input = map (λ scalar. pos (input_number leaves bits scalar)) (range_with_len 0 (scalars leaves));
}
