use Rattle.std.proofs.Common.{◌∙◌, ap, sym}
use Rattle.sk_dag.specs.Eval.{value_of}
use Rattle.sk_dag.specs.declared.value.Value.TheVariants.{Bit as BitValue}
use Rattle.sk_gates.proofs.SharingLaws.{Builds-weaker}
use Rattle.std.proofs.Common.{not, nat_eq, pos}
use Rattle.std.specs.Ordering.{int_eq}
use Rattle.sk_gates.specs.Words.{bits_word}
use Rattle.sk_cnf.proofs.LeafLaws.{is_some}
use Rattle.sk_cnf.proofs.encoder.input_bit.Goals as goal

pub returns-clause-code : goal.returns-clause-code
unfolding value_of
returns-clause-code c = record {
  fits = c.in_ok-r.ensures.within;
  gate = Builds-weaker _ _ c.in_ok-r.ensures.gate (λ v h e said. ap BitValue (h
      ∙ (λ i. not (nat_eq ((ap (bits_word v) c.as_slice.ensures ∙ c.in_ok-bits.ensures.value v) i) ((ap (bits_word v) c.as_slice-2.ensures ∙ c.in_ok-none.ensures.value v) i)))
      ∙ is_some _ ∙ ap (λ z. not (int_eq z (pos 0))) (sym (said.inputs c.args.scalar))));
}
