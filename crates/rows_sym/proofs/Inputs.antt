-- Shapes over inputs stand in their graph.
use Rattle.std.proofs.Common.{◌≡◌, ℕ, ◌<◌, List, length, get_or, sym, subst}
use Rattle.sk_dag.specs.declared.shape.Shape.{Shape}
use Rattle.sk_dag.specs.Graph.{Graph}
use Rattle.sk_dag.specs.Eval.{Keeps}
use Rattle.sk_dag.proofs.EvalLemmas.{Grows-refl}
use Rattle.sk_arr.specs.Shapes.{Stands, AllStand}
use Rattle.sk_arr.proofs.Makers.{Keeps-refl}
use Rattle.sk_arr.proofs.Standing.{bit_stands, int_stands, array_stands}

pub stands_at : {g : Graph} (list : List Shape) (i : ℕ) (a : Shape) → i < length list → a ≡ get_or list i a → AllStand g list → Stands g a
stands_at {g} list i a l at all = subst (Stands g) (sym at) (all.each i a l)

pub bits_kept : {a b : Graph} → Keeps a b → b.bits ≡ a.bits
bits_kept {a} {b} keeps = (keeps.later b (Grows-refl b)).bits

pub ruleset inputs = (Keeps-refl, bit_stands, int_stands, array_stands)
