use Rattle.std.proofs.Common.{◌∙◌, arith, ap}
use Rattle.sk_dag.specs.Eval.{value_of}
use Rattle.sk_dag.specs.declared.value.Value.TheVariants.{Bit as BitValue}
use Rattle.sk_gates.proofs.SharingLaws.{Builds-same}
use Rattle.sk_cnf.proofs.LeafLaws.{hole_bit_value, hole_bit_past}
use Rattle.sk_cnf.proofs.encoder.hole_bit.Goals as goal

pub returns-then-k-lt32 : goal.returns-then-k-lt32
unfolding value_of
returns-then-k-lt32 c = λ w codes p within. record {
  fits = c.leaf_literal.ensures.within p.vars within;
  gate = Builds-same p _ (λ v e said. ap BitValue (c.leaf_literal.ensures.value v ∙ hole_bit_value _ _ e c.args.site c.args.k said (omega arith)));
}

pub returns-else-k-lt32 : goal.returns-else-k-lt32
unfolding value_of
returns-else-k-lt32 c = λ w codes p within. record { fits = omega arith; gate = Builds-same p _ (λ v e said. ap BitValue (hole_bit_past _ _ e c.args.site c.args.k said (omega arith))) }
