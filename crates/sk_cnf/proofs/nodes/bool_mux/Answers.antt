use Rattle.std.proofs.Common.{◌∙◌, ap}
use Rattle.sk_dag.specs.Eval.{value_of}
use Rattle.sk_dag.specs.declared.value.Value.TheVariants.{Bit as BitValue}
use Rattle.sk_gates.specs.Bits.{choose}
use Rattle.sk_gates.proofs.SharingLaws.{Builds-weaker}
use Rattle.sk_cnf.proofs.nodes.bool_mux.Goals as goal

pub returns-clause-code : goal.returns-clause-code
unfolding value_of
returns-clause-code c =
    let w = c.args.width in
    record {
      fits = c.in_ok-r.ensures.within;
      gate = Builds-weaker _ _ c.in_ok-r.ensures.gate (λ v h e. ap BitValue (h ∙ (λ i. choose (c.truth_of-condition.ensures.value w v i) (c.truth_of.ensures.value w v i) (c.truth_of-2.ensures.value w v i))));
    }

pub mux-requires-clause-c : goal.mux-requires-clause-c
mux-requires-clause-c c = c.truth_of-condition.ensures.within c.args.width c.args.to.now.vars c.requires.table

pub mux-requires-clause-a : goal.mux-requires-clause-a
mux-requires-clause-a c = c.truth_of.ensures.within c.args.width c.args.to.now.vars c.requires.table

pub mux-requires-clause-b : goal.mux-requires-clause-b
mux-requires-clause-b c = c.truth_of-2.ensures.within c.args.width c.args.to.now.vars c.requires.table
