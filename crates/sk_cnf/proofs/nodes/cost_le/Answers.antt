use Rattle.std.proofs.Common.{◌≡◌, ◌∙◌, not, ap, sym, arith, length}
use Rattle.sk_dag.specs.Eval.{value_of}
use Rattle.sk_dag.specs.declared.value.Value.TheVariants.{Bit as BitValue}
use Rattle.sk_gates.specs.Words.{bits_word}
use Rattle.sk_gates.proofs.SharingLaws.{Builds-weaker}
use Rattle.std.proofs.Common.{nat_lt, nat_le, ◌%◌, ◌^◌}
use Rattle.sk_cnf.proofs.CodeLaws.{not_below}
use Rattle.sk_cnf.proofs.nodes.cost_le.Goals as goal

pub returns-clause-code : goal.returns-clause-code
unfolding value_of
returns-clause-code c =
    let w = c.args.width in
    let most : c.args.limit % 2 ^ 64 ≡ c.args.limit = omega arith in
    record {
      fits = omega (arith, c.in_ok-above.ensures.within, c.negate.ensures.within);
      gate = Builds-weaker _ _ c.in_ok-above.ensures.gate (λ v h e.
          ap BitValue (c.negate.ensures.value v ∙ ap not h
          ∙ ap (λ m. not (nat_lt m (bits_word v c.cost_of.result.now))) (ap (bits_word v) c.as_slice.ensures ∙ c.in_ok-most.ensures.value v ∙ most)
          ∙ not_below c.args.limit (bits_word v c.cost_of.result.now)
          ∙ ap (λ z. nat_le z c.args.limit) (c.cost_of.ensures.value w v)));
    }

pub less_bits-requires-clause-lengths : goal.less_bits-requires-clause-lengths
less_bits-requires-clause-lengths c = ap length c.as_slice.ensures ∙ c.in_ok-most.ensures.length ∙ sym (c.cost_of.ensures.length c.args.width c.args.to.now.vars c.requires.table)

pub less_bits-requires-clause-b : goal.less_bits-requires-clause-b
less_bits-requires-clause-b c = c.cost_of.ensures.within c.args.width c.args.to.now.vars c.requires.table
