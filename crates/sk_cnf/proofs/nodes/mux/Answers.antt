use Rattle.std.proofs.Common.{◌∙◌, ap, sym, if◌then◌else◌}
use Rattle.sk_base.specs.Word.{signed}
use Rattle.sk_dag.specs.Eval.{value_of}
use Rattle.sk_dag.specs.declared.value.Value.TheVariants.{Int as IntValue}
use Rattle.sk_gates.specs.Bits.{bit_true}
use Rattle.sk_gates.proofs.SharingLaws.{Builds-weaker}
use Rattle.sk_cnf.proofs.CodeLaws.{signed_choice}
use Rattle.sk_cnf.proofs.nodes.mux.Goals as goal

pub returns-clause-code : goal.returns-clause-code
unfolding value_of
returns-clause-code c =
    let w = c.args.width in
    record {
      fits = (c.in_ok-r.ensures.length ∙ (c.word_of-x.ensures.length _ c.requires.table), c.in_ok-r.ensures.within);
      gate = Builds-weaker _ _ c.in_ok-r.ensures.gate (λ v h e. ap IntValue (ap (signed w) h ∙ signed_choice w (bit_true v c.truth_of-condition.result) _ _ ∙ (λ i. if c.truth_of-condition.ensures.value w v i then c.word_of-x.ensures.value v i else c.word_of-y.ensures.value v i)));
    }

pub mux_each-requires-clause-lengths : goal.mux_each-requires-clause-lengths
mux_each-requires-clause-lengths c = (c.word_of-x.ensures.length c.args.to.now.vars c.requires.table) ∙ sym (c.word_of-y.ensures.length c.args.to.now.vars c.requires.table)

pub mux_each-requires-clause-condition : goal.mux_each-requires-clause-condition
mux_each-requires-clause-condition c = c.truth_of-condition.ensures.within c.args.width c.args.to.now.vars c.requires.table
