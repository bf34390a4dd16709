use Rattle.std.proofs.Common.{All, sym, subst}
use Rattle.sk_check_laws.specs.Parts.{Refuting}
use Rattle.sk_check.proofs.parts.test_upper.Goals as goal

pub returns-then-not-counted-clause-stops : goal.returns-then-not-counted-clause-stops
returns-then-not-counted-clause-stops c = (
  c.requires.values,
  c.requires.inputs,
  λ h. (
      let t = c.in_ok-counted.ensures.1 h.counts in
      let f = c.if-not-counted.true in
      cc),
)

pub returns-then-not-refuted-clause-stops : goal.returns-then-not-refuted-clause-stops
returns-then-not-refuted-clause-stops c = (
  c.requires.values,
  c.requires.inputs,
  λ h. (
      let t = c.in_ok-refuted.ensures.1 (subst (All Refuting) (sym c.as_slice-upper.ensures) h.refuting) in
      let f = c.if-not-refuted.true in
      cc),
)

pub returns-clause-upper : goal.returns-clause-upper
returns-clause-upper c = record {
  refuting = subst (All Refuting) c.as_slice-upper.ensures (c.in_ok-refuted.ensures.0 c.if-not-refuted.false);
  counts = c.in_ok-counted.ensures.0 c.if-not-counted.false;
}
