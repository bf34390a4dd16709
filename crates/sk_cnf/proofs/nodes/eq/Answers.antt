use Rattle.std.proofs.Common.{◌∙◌, not, ap, sym, arith}
use Rattle.sk_dag.specs.Eval.{value_of}
use Rattle.sk_dag.specs.declared.value.Value.TheVariants.{Bit as BitValue}
use Rattle.sk_gates.specs.Words.{bits_word}
use Rattle.sk_gates.proofs.SharingLaws.{Builds-weaker}
use Rattle.sk_gates.proofs.WordLaws.{bits_below}
use Rattle.std.proofs.Common.{nat_eq}
use Rattle.std.specs.Ordering.{int_eq}
use Rattle.sk_cnf.proofs.SignedLaws.{same_signed}
use Rattle.sk_cnf.proofs.CodeLaws.{not_not}
use Rattle.sk_cnf.proofs.nodes.eq.Goals as goal

pub returns-clause-code : goal.returns-clause-code
unfolding value_of
returns-clause-code c =
    let w = c.args.width in
    let lx = c.word_of-x.ensures.length _ c.requires.table in
    let ly = c.word_of-y.ensures.length _ c.requires.table in
    record {
      fits = omega (arith, c.in_ok-r.ensures.within, c.negate.ensures.within);
      gate = Builds-weaker _ _ c.in_ok-r.ensures.gate (λ v h e.
          let bx = rw lx at (bits_below v c.word_of-x.result.now) in
          let by = rw ly at (bits_below v c.word_of-y.result.now) in
          ap BitValue (c.negate.ensures.value v ∙ ap not h ∙ not_not (nat_eq (bits_word v c.word_of-x.result.now) (bits_word v c.word_of-y.result.now))
          ∙ sym (same_signed w (bits_word v c.word_of-x.result.now) (bits_word v c.word_of-y.result.now) (omega (arith, c.requires.low)) bx by)
          ∙ (λ i. int_eq (c.word_of-x.ensures.value v i) (c.word_of-y.ensures.value v i))));
    }

pub apart-requires-clause-lengths : goal.apart-requires-clause-lengths
apart-requires-clause-lengths c = (c.word_of-x.ensures.length c.args.to.now.vars c.requires.table) ∙ sym (c.word_of-y.ensures.length c.args.to.now.vars c.requires.table)
