-- What it means that clauses, some of whose variables have names, encode a question; and that a graph's roots are true.
use Rattle.std.specs.Prelude.{◌≡◌, ℕ, ◌<◌, ◌↔◌, Bool, true, List, Some, length, map, slice_get, All}
use Rattle.sk_clause.specs.Meaning.{Meets}
use Rattle.sk_dag.specs.declared.env.Env.{Env}
use Rattle.sk_dag.specs.declared.node.BoolId.{BoolId}
use Rattle.sk_dag.specs.Graph.{Graph}
use Rattle.sk_dag.specs.Eval.{bool_value}
use Rattle.sk_gates.specs.Extension.{AgreeBelow}
use Rattle.sk_cnf.specs.declared.leaf.Leaf.{Leaf}
use Rattle.sk_cnf.specs.declared.growing.Encoded.{Encoded}
use Rattle.sk_cnf.specs.Leaves.{Says, leaf_env}

-- the bits extend to values of all variables that meet the clauses: bit i is the value of name i
abbrev pub Extends : Encoded → List Bool → Type 0
Extends f bits = (v : ℕ → Bool) × (map v f.names ≡ bits) × Meets v f.clauses.clauses

-- The names are distinct variables of the clauses, so many of them, and bits for them extend exactly where Holds is
-- true of the bits.
pub record Encodes (f : Encoded) (count : ℕ) (Holds : List Bool → Type 0) : Type 0 where
  pub named : length f.names ≡ count
  pub within : All (λ x. x < f.clauses.vars) f.names
  pub distinct : (i j x : ℕ) → slice_get f.names i ≡ Some x → slice_get f.names j ≡ Some x → i ≡ j
  pub exact : (bits : List Bool) → length bits ≡ count → Extends f bits ↔ Holds bits

-- no bits extend in two ways
abbrev pub Tight : Encoded → Type 0
Tight f = (u v : ℕ → Bool) → map u f.names ≡ map v f.names → Meets u f.clauses.clauses → Meets v f.clauses.clauses → AgreeBelow f.clauses.vars u v

-- each of the roots is true in the environment
abbrev pub AreTrue : Graph → List BoolId → Env → Type 0
AreTrue g roots e = All (λ r. bool_value g e r ≡ true) roots

-- no leaf stands twice
pub record AreLeaves (leaves : List Leaf) : Type 0 where
  pub distinct : (i j : ℕ) (l : Leaf) → slice_get leaves i ≡ Some l → slice_get leaves j ≡ Some l → i ≡ j

-- the leaf is not among these
abbrev pub IsAbsent : List Leaf → Leaf → Type 0
IsAbsent leaves x = (i : ℕ) → slice_get leaves i ≡ Some x → ⊥

-- The formula has a name for each leaf, in order. Bits for the leaves extend exactly where the roots are true in the
-- environment that the leaves say, and so in each that has the values that they say.
pub record Means (f : Encoded) (leaves : List Leaf) (g : Graph) (roots : List BoolId) : Type 0 where
  pub encodes : Encodes f (length leaves) (λ bits. AreTrue g roots (leaf_env leaves bits))
  pub said : (bits : List Bool) (e : Env) → length bits ≡ length leaves → Says leaves bits e → Extends f bits ↔ AreTrue g roots e

-- The formula means that the roots are true, and no bits of the leaves extend in two ways.
pub record IsEncoding (f : Encoded) (leaves : List Leaf) (g : Graph) (roots : List BoolId) : Type 0 where
  pub means : Means f leaves g roots
  pub tight : Tight f
