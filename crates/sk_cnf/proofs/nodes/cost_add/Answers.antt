use Rattle.std.proofs.Common.{◌∙◌, ap, arith}
use Rattle.sk_dag.specs.Eval.{value_of, charge}
use Rattle.sk_dag.specs.declared.value.Value.TheVariants.{Cost as CostValue}
use Rattle.sk_gates.proofs.SharingLaws.{Builds-weaker}
use Rattle.sk_cnf.proofs.nodes.cost_add.Goals as goal

pub returns-clause-code : goal.returns-clause-code
unfolding value_of
returns-clause-code c =
    let w = c.args.width in
    let lm = c.word_of-more.ensures.length _ c.requires.table in
    record {
      fits = (c.in_ok-r.ensures.length, c.in_ok-r.ensures.within);
      gate = Builds-weaker _ _ c.in_ok-r.ensures.gate (λ v h e.
          ap CostValue ((rw lm at h) ∙ (λ i. charge (c.cost_of-before.ensures.value w v i) (c.truth_of.ensures.value w v i) (c.word_of-more.ensures.value v i))));
    }

pub charge-requires-clause-cost_length : goal.charge-requires-clause-cost_length
charge-requires-clause-cost_length c = c.cost_of-before.ensures.length c.args.width c.args.to.now.vars c.requires.table

pub charge-requires-clause-some : goal.charge-requires-clause-some
charge-requires-clause-some c = let e = c.word_of-more.ensures.length c.args.to.now.vars c.requires.table in omega (arith, e, c.requires.low)

pub charge-requires-clause-most : goal.charge-requires-clause-most
charge-requires-clause-most c = let e = c.word_of-more.ensures.length c.args.to.now.vars c.requires.table in omega (arith, e, c.requires.high)

pub charge-requires-clause-cost : goal.charge-requires-clause-cost
charge-requires-clause-cost c = c.cost_of-before.ensures.within c.args.width c.args.to.now.vars c.requires.table

pub charge-requires-clause-when : goal.charge-requires-clause-when
charge-requires-clause-when c = c.truth_of.ensures.within c.args.width c.args.to.now.vars c.requires.table
