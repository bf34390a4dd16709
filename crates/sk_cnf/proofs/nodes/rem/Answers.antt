use Rattle.std.proofs.Common.{◌∙◌, ap, sym, arith}
use Rattle.sk_dag.specs.Word.{remainder}
use Rattle.sk_dag.specs.Eval.{value_of}
use Rattle.sk_dag.specs.declared.value.Value.TheVariants.{Int as IntValue}
use Rattle.sk_gates.proofs.SharingLaws.{Builds-weaker}
use Rattle.sk_cnf.proofs.nodes.rem.Goals as goal

pub returns-clause-code : goal.returns-clause-code
unfolding value_of
returns-clause-code c =
    let w = c.args.width in
    record {
      fits = (c.in_ok-r.ensures.length ∙ (c.word_of-x.ensures.length _ c.requires.table), c.in_ok-r.ensures.within);
      gate = Builds-weaker _ _ c.in_ok-r.ensures.gate (λ v h e. ap IntValue ((rw (c.word_of-x.ensures.length _ c.requires.table) at h) ∙ (λ i. remainder w (c.word_of-x.ensures.value v i) (c.word_of-y.ensures.value v i))));
    }

pub remainder_words-requires-clause-some : goal.remainder_words-requires-clause-some
remainder_words-requires-clause-some c = let e = c.word_of-x.ensures.length c.args.to.now.vars c.requires.table in omega (arith, e, c.requires.low)

pub remainder_words-requires-clause-lengths : goal.remainder_words-requires-clause-lengths
remainder_words-requires-clause-lengths c = (c.word_of-x.ensures.length c.args.to.now.vars c.requires.table) ∙ sym (c.word_of-y.ensures.length c.args.to.now.vars c.requires.table)
