-- `==` of nodes is equality.
use Rattle.std.proofs.Common.{◌≡◌, true, rules}
use Rattle.sk_dag.specs.declared.node.Node.{Node}
use Rattle.sk_dag.specs.declared.node.Node.TheVariants.{Flag, Word, HoleBit, HoleWord, InputBit, InputWord, Not, And, Or, Xor, BoolMux, Mux, Add, Sub, Mul, Div, Rem, Lt, Eq, CostZero, CostAdd, CostLe}
use Rattle.sk_dag.specs.contracts.node.NodePartialEq.TheImpl as node_eq

pub same_node : (x y : Node) → (node_eq.eq-value).it x y ≡ true → x ≡ y
same_node (Flag a) y h = search rules
same_node (Word a) y h = search rules
same_node (HoleBit a b) y h = search rules
same_node (HoleWord a) y h = search rules
same_node (InputBit a) y h = search rules
same_node (InputWord a) y h = search rules
same_node (Not a) y h = search rules
same_node (And a b) y h = search rules
same_node (Or a b) y h = search rules
same_node (Xor a b) y h = search rules
same_node (BoolMux a b c) y h = search rules
same_node (Mux a b c) y h = search rules
same_node (Add a b) y h = search rules
same_node (Sub a b) y h = search rules
same_node (Mul a b) y h = search rules
same_node (Div a b) y h = search rules
same_node (Rem a b) y h = search rules
same_node (Lt a b) y h = search rules
same_node (Eq a b) y h = search rules
same_node CostZero y h = search rules
same_node (CostAdd a b c) y h = search rules
same_node (CostLe a b) y h = search rules

pub node_same : (x : Node) → (node_eq.eq-value).it x x ≡ true
node_same x = search rules
