-- Statements in an order that sites give.
use Rattle.std.specs.Prelude.{◌≡◌, ℕ, suc, ◌+◌, ◌-◌, ◌==◌, ◌<◌, List, [], ◌∷◌, map, take, length, get_or, if◌then◌else◌}
use Rattle.std.specs.Option.{option_copied}
use Rattle.sk_dag.specs.declared.env.Env.{Env}
use Rattle.sk_dag.specs.declared.node.BoolId.{BoolId}
use Rattle.sk_dag.specs.Graph.{Graph}
use Rattle.sk_prog.specs.declared.stmt.PStmt.{PStmt}
use Rattle.sk_model.specs.Parts.{Part, in_turn}
use Rattle.sk_model.specs.Step.{Comp, pure}
use Rattle.sk_model.specs.Fill.{arrange}
use Rattle.sk_model.specs.Exec.{Flow, Onward, one_by_one}
use Rattle.sk_sym_choices.specs.Orders.{order}
use Rattle.sk_sym_choices.specs.Payments.{AreColumns}
use Rattle.sk_sym_walk.specs.declared.activation.Activation.{Activation}
use Rattle.sk_sym_walk.specs.Walk.{values_at, stmt_part, all_part}

-- what each of the statements does, of which the first site has a place
abbrev pub each_at : Activation → ℕ → List PStmt → Env → List (Comp Flow)
each_at a i ss e = in_turn (map (λ s. stmt_part a s e) ss) i

-- the numbers of so many statements in their order, by the values of the sites from a place on
abbrev pub order_at : Activation → ℕ → ℕ → Env → List ℕ
order_at a first count e = order (values_at a e) first count

-- what the statement with a number does, and nothing where there is none
abbrev pub numbered : List (Comp Flow) → ℕ → Comp Flow
numbered ms j = get_or ms j (pure Onward)

-- what is done in the first so many turns
abbrev pub turns_at : Activation → ℕ → ℕ → List PStmt → ℕ → Env → Comp Flow
turns_at a first n ss i e = one_by_one (map (numbered (each_at a i ss e)) (take n (order_at a first (length ss) e)))

-- the statements, in the order that the sites from a place on give
abbrev pub ordered_part : Activation → ℕ → List PStmt → Env → Part (Comp Flow)
ordered_part a first ss e = record { count = (all_part a ss e).count; at = λ i. one_by_one (arrange (values_at a e) first [] (each_at a i ss e)) }

-- those sites, and the statements
abbrev pub reorder_part : Activation → List PStmt → Env → Part (Comp Flow)
reorder_part a ss e = record { count = (length ss - 1) + (all_part a ss e).count; at = λ i. (ordered_part a i ss e).at (i + (length ss - 1)) }

-- of statements whose first has number k only the one with number j
abbrev pub alone : Activation → Env → ℕ → ℕ → List PStmt → ℕ → List (Comp Flow)
alone a e j k [] i = []
alone a e j k (s ∷ ss) i = (if j == k then (stmt_part a s e).at i else pure Onward) ∷ alone a e j (suc k) ss (i + (stmt_part a s e).count)

-- the number of the statement whose turn it is
abbrev pub number_at : Activation → ℕ → ℕ → ℕ → Env → ℕ
number_at a first count n e = get_or (order_at a first count e) n 0

-- what is done of the statements in the turn with number n, where all are so many
abbrev pub turn_at : Activation → ℕ → ℕ → ℕ → List PStmt → ℕ → Env → Comp Flow
turn_at a first count n ss i e = one_by_one (alone a e (number_at a first count n e) 0 ss i)

abbrev pub one_turn_part : Activation → ℕ → ℕ → ℕ → List PStmt → Env → Part (Comp Flow)
one_turn_part a first count n ss e = record { count = (all_part a ss e).count; at = λ i. turn_at a first count n ss i e }

-- the nodes that say whose turn it is
abbrev pub AreOrders : Activation → Graph → ℕ → ℕ → List (List BoolId) → Type 0
AreOrders a d first count columns = AreColumns d a.setting.expanded.now (option_copied a.setting.choice) first count count columns

-- the nodes for the statement with number k have one for the turn with number n
abbrev pub HasTurn : List (List BoolId) → ℕ → ℕ → Type 0
HasTurn columns k n = (column : List BoolId) → column ≡ get_or columns k column → n < length column

-- of the nodes for the statement with number k the one for the turn with number n
pub record IsNodeOf (columns : List (List BoolId)) (k n : ℕ) (node : BoolId) : Type 0 where
  pub column : List BoolId
  pub has : k < length columns
  pub is : column ≡ get_or columns k column
  pub long : n < length column
  pub same : node ≡ get_or column n node
