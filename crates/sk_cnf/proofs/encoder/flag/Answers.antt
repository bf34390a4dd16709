use Rattle.std.proofs.Common.{arith, refl}
use Rattle.sk_dag.specs.Eval.{value_of}
use Rattle.sk_gates.proofs.SharingLaws.{Builds-same}
use Rattle.sk_cnf.proofs.encoder.flag.Goals as goal

pub returns : goal.returns
unfolding value_of
returns c = λ leaves names w codes p. record { fits = omega arith; gate = Builds-same p _ (λ v e said. refl) }
