use Rattle.sk_dag.proofs.EvalLemmas.{Keeps-trans}
use Rattle.sk_sym_operators.proofs.Operating.{equals, differs, others_operate}
use Rattle.sk_sym_operators.proofs.binary.operator.Goals as goal

pub returns-in_ok-made-in-Eq-clause-operated : goal.returns-in_ok-made-in-Eq-clause-operated
returns-in_ok-made-in-Eq-clause-operated c = equals _ c.in_ok-r-in-Eq.ensures.equality c.in_ok-made-in-Eq.ensures.keeps _ c.in-Eq.is c.in_ok-made-in-Eq.ensures.computed

pub returns-in_ok-made-in-Ne-clause-operated : goal.returns-in_ok-made-in-Ne-clause-operated
returns-in_ok-made-in-Ne-clause-operated c = differs _ c.in_ok-r-in-Ne.ensures.equality (Keeps-trans c.in_ok-n-in-Ne.ensures.keeps c.in_ok-made-in-Ne.ensures.keeps) _ _ c.in-Ne.is (λ h more e. c.in_ok-n-in-Ne.ensures.value h (c.in_ok-made-in-Ne.ensures.keeps.later h more) e) c.in_ok-made-in-Ne.ensures.computed

pub returns-in_ok-made-in_default-clause-operated : goal.returns-in_ok-made-in_default-clause-operated
returns-in_ok-made-in_default-clause-operated c = others_operate _ _ _ c.in_default.not-Eq c.in_default.not-Ne c.in_ok-made-in_default.ensures.operated
