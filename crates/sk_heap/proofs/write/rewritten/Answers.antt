use Rattle.sk_dag.proofs.EvalLemmas.{Keeps-trans}
use Rattle.sk_arr.proofs.Standing.{Stands-keeps}
use Rattle.sk_heap.proofs.ReadLaws.{found_stands}
use Rattle.sk_heap.proofs.write.rewritten.Goals as goal

pub choose-requires-clause-a : goal.choose-requires-clause-a
choose-requires-clause-a c = Stands-keeps (Keeps-trans c.in_ok-at.ensures.keeps c.in_ok-c.ensures.keeps) c.requires.value

pub choose-requires-clause-b : goal.choose-requires-clause-b
choose-requires-clause-b c = Stands-keeps (Keeps-trans c.in_ok-at.ensures.keeps c.in_ok-c.ensures.keeps) (found_stands c.requires.field c.field_of.ensures)
