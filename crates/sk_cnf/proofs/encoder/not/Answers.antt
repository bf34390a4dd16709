use Rattle.std.proofs.Common.{◌∙◌, arith, ap}
use Rattle.sk_dag.specs.Eval.{value_of}
use Rattle.sk_dag.specs.declared.value.Value.TheVariants.{Bit as BitValue}
use Rattle.sk_gates.proofs.SharingLaws.{Builds-same}
use Rattle.std.proofs.Common.{not}
use Rattle.sk_cnf.proofs.encoder.not.Goals as goal

pub returns : goal.returns
unfolding value_of
returns c = λ w p fits. record {
  fits = omega (arith, c.truth_of.ensures.within w p.vars fits, c.negate.ensures.within);
  gate = Builds-same p _ (λ v e. ap BitValue (c.negate.ensures.value v ∙ ap not (c.truth_of.ensures.value w v)));
}
