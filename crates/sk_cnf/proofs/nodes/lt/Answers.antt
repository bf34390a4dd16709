use Rattle.std.proofs.Common.{◌∙◌, ap, sym, arith}
use Rattle.std.specs.Prelude.{int_lt}
use Rattle.sk_dag.specs.Eval.{value_of}
use Rattle.sk_dag.specs.declared.value.Value.TheVariants.{Bit as BitValue}
use Rattle.sk_gates.proofs.SharingLaws.{Builds-weaker}
use Rattle.sk_cnf.proofs.nodes.lt.Goals as goal

pub returns-clause-code : goal.returns-clause-code
unfolding value_of
returns-clause-code c =
    let w = c.args.width in
    record {
      fits = c.in_ok-r.ensures.within;
      gate = Builds-weaker _ _ c.in_ok-r.ensures.gate (λ v h e. ap BitValue ((rw (c.word_of-x.ensures.length _ c.requires.table) at h) ∙ (λ i. int_lt (c.word_of-x.ensures.value v i) (c.word_of-y.ensures.value v i))));
    }

pub less_bits-requires-clause-some : goal.less_bits-requires-clause-some
less_bits-requires-clause-some c = let e = c.word_of-x.ensures.length c.args.to.now.vars c.requires.table in omega (arith, e, c.requires.low)

pub less_bits-requires-clause-lengths : goal.less_bits-requires-clause-lengths
less_bits-requires-clause-lengths c = (c.word_of-x.ensures.length c.args.to.now.vars c.requires.table) ∙ sym (c.word_of-y.ensures.length c.args.to.now.vars c.requires.table)
