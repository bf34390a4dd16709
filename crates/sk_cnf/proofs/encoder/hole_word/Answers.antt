use Rattle.std.proofs.Common.{◌∙◌, arith, ap, sym}
use Rattle.sk_dag.specs.Eval.{value_of}
use Rattle.sk_dag.specs.declared.value.Value.TheVariants.{Int as IntValue}
use Rattle.sk_gates.proofs.SharingLaws.{Builds-same}
use Rattle.std.proofs.Common.{pos}
use Rattle.sk_base.specs.Word.{wrapped}
use Rattle.sk_cnf.proofs.LeafLaws.{low_word}
use Rattle.sk_cnf.proofs.encoder.hole_word.Goals as goal

pub returns : goal.returns
unfolding value_of
returns c = λ codes p within. record {
  fits = (c.in_ok-bits.ensures.length, c.in_ok-bits.ensures.within p.vars within);
  gate = Builds-same p _ (λ v e said. ap IntValue (low_word c.args.width _ _ (omega arith) (omega arith) (c.in_ok-bits.ensures.value v) ∙ ap (λ n. wrapped c.args.width (pos n)) (sym (said.holes c.args.site))));
}
