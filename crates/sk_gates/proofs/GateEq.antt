-- `==` of gates is equality.
use Rattle.std.proofs.Common.{◌≡◌, true, rules}
use Rattle.sk_gates.specs.declared.key.Gate.{Gate}
use Rattle.sk_gates.specs.declared.key.Gate.TheVariants.{And, Xor, Mux}
use Rattle.sk_gates.specs.contracts.key.GatePartialEq.TheImpl as gate_eq

pub same_gate : (x y : Gate) → (gate_eq.eq-value).it x y ≡ true → x ≡ y
same_gate (And a b) y h = search rules
same_gate (Xor a b) y h = search rules
same_gate (Mux c a b) y h = search rules
