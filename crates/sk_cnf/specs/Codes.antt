-- The bits that stand for the values of nodes.
use Rattle.std.specs.Prelude.{◌≡◌, ℕ, ◌≤◌, Bool, false, List, Option, Some, None, length, map, slice_get, slice_index_or, All, ⊤}
use Rattle.sk_base.specs.Word.{signed}
use Rattle.sk_clause.specs.Problem.{Problem}
use Rattle.sk_dag.specs.declared.env.Env.{Env}
use Rattle.sk_dag.specs.declared.value.Value.{Value}
use Rattle.sk_dag.specs.declared.value.Value.TheVariants.{Bit as BitValue, Int as IntValue, Cost as CostValue}
use Rattle.sk_dag.specs.declared.node.Node.{Node}
use Rattle.sk_dag.specs.Graph.{Graph}
use Rattle.sk_dag.specs.Eval.{value_of, value_at, graph_values}
use Rattle.sk_gates.specs.Bits.{bit_true, reach, AreOver}
use Rattle.sk_gates.specs.Words.{bits_word}
use Rattle.sk_gates.specs.Sharing.{Builds}
use Rattle.sk_cnf.specs.declared.leaf.Leaf.{Leaf}
use Rattle.sk_cnf.specs.declared.code.Code.{Code}
use Rattle.sk_cnf.specs.declared.code.Code.TheVariants.{Truth, Word, Cost}
use Rattle.sk_cnf.specs.Leaves.{Says}

-- the value that a code stands for, where words have w bits and the variables these values
abbrev pub code_value : ℕ → (ℕ → Bool) → Code → Value
code_value w v (Truth bit) = BitValue (bit_true v bit)
code_value w v (Word bits) = IntValue (signed w (bits_word v bits))
code_value w v (Cost bits) = CostValue (bits_word v bits)

-- the same of a place in the table, which may be empty
abbrev pub slot_value : ℕ → (ℕ → Bool) → Option Code → Value
slot_value w v None = BitValue false
slot_value w v (Some code) = code_value w v code

-- the code at this place of the table, if there is one
abbrev pub coded_at : List (Option Code) → ℕ → Option Code
coded_at codes i = slice_index_or codes i None

-- the values for which the codes in a table stand
abbrev pub table_values : ℕ → (ℕ → Bool) → List (Option Code) → List Value
table_values w v codes = map (slot_value w v) codes

-- a word has w bits and a cost 64, each a constant or a literal of one of the first vars variables
abbrev pub CodeFits : ℕ → ℕ → Code → Type 0
CodeFits w vars (Truth bit) = reach bit ≤ vars
CodeFits w vars (Word bits) = (length bits ≡ w) × AreOver vars bits
CodeFits w vars (Cost bits) = (length bits ≡ 64) × AreOver vars bits

abbrev pub SlotFits : ℕ → ℕ → Option Code → Type 0
SlotFits w vars None = ⊤
SlotFits w vars (Some code) = CodeFits w vars code

abbrev pub TableFits : ℕ → ℕ → List (Option Code) → Type 0
TableFits w vars codes = All (SlotFits w vars) codes

-- The code stands for the value of an operator on what the codes in the table stand for: for this clauses were added.
pub record Computes (w : ℕ) (codes : List (Option Code)) (node : Node) (old new : Problem) (code : Code) : Type 0 where
  pub fits : CodeFits w new.vars code
  pub gate : Builds old new (λ v. (e : Env) → code_value w v code ≡ value_of w e (table_values w v codes) node)

-- The code stands for the value of the node, where those in the table stand for the values of the nodes before it: for
-- this clauses were added.
pub record IsCode (w : ℕ) (leaves : List Leaf) (names : List ℕ) (codes : List (Option Code)) (node : Node) (old new : Problem) (code : Code) : Type 0 where
  pub fits : CodeFits w new.vars code
  pub gate : Builds old new (λ v. (e : Env) → Says leaves (map v names) e → code_value w v code ≡ value_of w e (table_values w v codes) node)

-- each code in the table stands for the value of its node, where the variables have these values
pub record ShowsValues (g : Graph) (leaves : List Leaf) (names : List ℕ) (codes : List (Option Code)) (v : ℕ → Bool) : Type 0 where
  pub each : (i : ℕ) (code : Code) → slice_get codes i ≡ Some (Some code) → (e : Env) → Says leaves (map v names) e → code_value g.bits v code ≡ value_at (graph_values g e) i

-- the same codes at the same places, and maybe more empty places
pub record IsLonger (old new : List (Option Code)) : Type 0 where
  pub old_codes : (i : ℕ) (code : Code) → slice_get new i ≡ Some (Some code) → slice_get old i ≡ Some (Some code)
