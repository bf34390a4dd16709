use Rattle.std.proofs.Common.{ap}
use Rattle.sk_dag.specs.Eval.{value_of}
use Rattle.sk_dag.specs.declared.value.Value.TheVariants.{Cost as CostValue}
use Rattle.sk_gates.proofs.SharingLaws.{Builds-same}
use Rattle.sk_cnf.proofs.encoder.cost_zero.Goals as goal

pub returns : goal.returns
unfolding value_of
returns c = λ w codes p. record { fits = (c.in_ok-bits.ensures.length, c.in_ok-bits.ensures.within p.vars); gate = Builds-same p _ (λ v e. ap CostValue (c.in_ok-bits.ensures.value v)) }
