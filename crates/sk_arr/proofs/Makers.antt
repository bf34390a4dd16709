-- What the makers of this crate cite of the graph.
use Rattle.sk_dag.specs.Graph.{Graph}
use Rattle.sk_dag.specs.Eval.{Keeps}
use Rattle.sk_dag.proofs.EvalLemmas.{Keeps-trans, HasSort-grows, Grows-refl, read_bool, read_word}

pub Keeps-refl : (a : Graph) → Keeps a a
Keeps-refl a = record { later = λ g h. h; sorts = λ i s h. h }

pub ruleset staying = (Keeps-refl)

pub ruleset reading = (read_bool, read_word)
