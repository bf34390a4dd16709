-- What a table of codes shows of a graph, and what a formula that grows stands for.
use Rattle.std.specs.Prelude.{◌≡◌, ℕ, ◌<◌, ◌≤◌, ◌++◌, Bool, true, List, Option, Some, [], length, slice_get, All, ◌↔◌}
use Rattle.std.specs.List.{range_with_len}
use Rattle.sk_clause.specs.declared.lit.Lit.{Lit}
use Rattle.sk_clause.specs.Meaning.{Meets}
use Rattle.sk_clause.specs.Problem.{Problem, AreWithin}
use Rattle.sk_dag.specs.declared.node.BoolId.{BoolId}
use Rattle.sk_dag.specs.Eval.{bool_at}
use Rattle.sk_dag.specs.Graph.{Graph, HasBool}
use Rattle.sk_dag.specs.Reach.{IsMarked}
use Rattle.sk_gates.specs.declared.bit.Bit.{Bit}
use Rattle.sk_gates.specs.Bits.{bit_true}
use Rattle.sk_gates.specs.Sharing.{AreMade, Builds}
use Rattle.sk_cnf.specs.declared.leaf.Leaf.{Leaf}
use Rattle.sk_cnf.specs.declared.code.Code.{Code}
use Rattle.sk_cnf.specs.declared.growing.Encoded.{Encoded}
use Rattle.sk_cnf.specs.declared.growing.Growing.{Growing}
use Rattle.sk_cnf.specs.Codes.{table_values, TableFits, ShowsValues}
use Rattle.sk_cnf.specs.Formula.{Means}

-- a code stands at this place of the table
abbrev pub IsCoded : List (Option Code) → ℕ → Type 0
IsCoded codes i = (code : Code) × (slice_get codes i ≡ Some (Some code))

-- To the clauses of old others were added by which each code in the table stands for the value of its node; each marked
-- node below number i has a code.
pub record Covers (old : Problem) (g : Graph) (leaves : List Leaf) (names : List ℕ) (marks : List Bool) (to : Problem) (codes : List (Option Code)) (i : ℕ) : Type 0 where
  pub long : length codes ≡ length g.nodes
  pub fits : TableFits g.bits to.vars codes
  pub gate : Builds old to (ShowsValues g leaves names codes)
  pub full : (j : ℕ) → j < i → IsMarked marks j → IsCoded codes j

-- the added clauses are met exactly where the bit is true
pub record Demands (old new : Problem) (bit : Bit) : Type 0 where
  pub vars : new.vars ≡ old.vars
  pub added : List (List Lit)
  pub clauses : new.clauses ≡ old.clauses ++ added
  pub within : AreWithin new.vars added
  pub met : (v : ℕ → Bool) → Meets v added ↔ (bit_true v bit ≡ true)

-- new has the variables and the clauses of old, and maybe others behind them
pub record Begins (old new : Problem) : Type 0 where
  pub vars : old.vars ≤ new.vars
  pub added : List (List Lit)
  pub clauses : new.clauses ≡ old.clauses ++ added

-- the formula has a variable for each leaf, which is its name, and nothing else
pub record IsNamed (f : Encoded) (leaves : List Leaf) : Type 0 where
  pub names : f.names ≡ range_with_len 0 (length leaves)
  pub vars : f.clauses.vars ≡ length leaves
  pub none : f.clauses.clauses ≡ []

-- Where the clauses are met, each code in the table stands for the value of its node.
pub record Shows (g : Graph) (leaves : List Leaf) (names : List ℕ) (to : Problem) (codes : List (Option Code)) : Type 0 where
  pub short : length codes ≤ length g.nodes
  pub fits : TableFits g.bits to.vars codes
  pub values : (v : ℕ → Bool) → Meets v to.clauses → ShowsValues g leaves names codes v

-- The clauses of the nodes below a root were added, each once, and then that the root is true.
pub record Gains (old new : Problem) (g : Graph) (leaves : List Leaf) (names : List ℕ) (marks : List Bool) (codes : List (Option Code)) (root : BoolId) : Type 0 where
  pub mid : Problem
  pub bit : Bit
  pub covers : Covers old g leaves names marks mid codes (length g.nodes)
  pub demands : Demands mid new bit
  pub value : (w : ℕ) (v : ℕ → Bool) → bit_true v bit ≡ bool_at (table_values w v codes) root

-- The formula means that these roots of the graph are true, where its clauses are met each code that it keeps stands
-- for the value of its node, and so does each gate that it keeps for its bit.
pub record Stands (s : Growing) (g : Graph) (roots : List BoolId) : Type 0 where
  pub means : Means s.encoded s.leaves.keys g roots
  pub there : All (HasBool g.nodes) roots
  pub within : AreWithin s.encoded.clauses.vars s.encoded.clauses.clauses
  pub codes : Shows g s.leaves.keys s.encoded.names s.encoded.clauses s.codes
  pub made : AreMade s.encoded.clauses s.made
