use Rattle.std.proofs.Common.{◌∙◌, ◌||◌, ap}
use Rattle.sk_dag.specs.Eval.{value_of}
use Rattle.sk_dag.specs.declared.value.Value.TheVariants.{Bit as BitValue}
use Rattle.sk_gates.proofs.SharingLaws.{Builds-weaker}
use Rattle.sk_cnf.proofs.nodes.or.Goals as goal

pub returns-clause-code : goal.returns-clause-code
unfolding value_of
returns-clause-code c =
    let w = c.args.width in
    record {
      fits = c.in_ok-r.ensures.within;
      gate = Builds-weaker _ _ c.in_ok-r.ensures.gate (λ v h e. ap BitValue (h ∙ (λ i. c.truth_of.ensures.value w v i || c.truth_of-2.ensures.value w v i)));
    }

pub or-requires-clause-a : goal.or-requires-clause-a
or-requires-clause-a c = c.truth_of.ensures.within c.args.width c.args.to.now.vars c.requires.table

pub or-requires-clause-b : goal.or-requires-clause-b
or-requires-clause-b c = c.truth_of-2.ensures.within c.args.width c.args.to.now.vars c.requires.table
