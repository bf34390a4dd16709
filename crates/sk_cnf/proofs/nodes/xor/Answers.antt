use Rattle.std.proofs.Common.{◌∙◌, ap}
use Rattle.sk_dag.specs.Eval.{value_of}
use Rattle.sk_dag.specs.declared.value.Value.TheVariants.{Bit as BitValue}
use Rattle.sk_gates.specs.Bits.{differ}
use Rattle.sk_gates.proofs.SharingLaws.{Builds-weaker}
use Rattle.sk_cnf.proofs.nodes.xor.Goals as goal

pub returns-clause-code : goal.returns-clause-code
unfolding value_of
returns-clause-code c =
    let w = c.args.width in
    record {
      fits = c.in_ok-r.ensures.within;
      gate = Builds-weaker _ _ c.in_ok-r.ensures.gate (λ v h e. ap BitValue (h ∙ (λ i. differ (c.truth_of.ensures.value w v i) (c.truth_of-2.ensures.value w v i))));
    }

pub xor-requires-clause-a : goal.xor-requires-clause-a
xor-requires-clause-a c = c.truth_of.ensures.within c.args.width c.args.to.now.vars c.requires.table

pub xor-requires-clause-b : goal.xor-requires-clause-b
xor-requires-clause-b c = c.truth_of-2.ensures.within c.args.width c.args.to.now.vars c.requires.table
