use Rattle.std.proofs.Common.{arith, ◌∙◌}
use Rattle.std.proofs.lemmas.Bool.{ne_eqb}
use Rattle.sk_lexer.proofs.Fronts.{quoted_step, quoted_found, quoted_not}
use Rattle.sk_lexer.proofs.piece.quoted_len.Goals as goal

pub returns-then-bytes-i-eq34-clause-found : goal.returns-then-bytes-i-eq34-clause-found
returns-then-bytes-i-eq34-clause-found c =
    quoted_found _ _ c.loop-i-test.true c.if-bytes-i-eq34.true c.loop-i.invariant.before

pub returns-then-bytes-i-eq10-clause-none : goal.returns-then-bytes-i-eq10-clause-none
returns-then-bytes-i-eq10-clause-none c =
    quoted_not _ _ c.loop-i-test.true c.if-bytes-i-eq10.true c.loop-i.invariant.before

pub loop-i-preserved : goal.loop-i-preserved
loop-i-preserved c = record {
  within = omega (arith, c.loop-i-test.true);
  before = λ m. c.loop-i.invariant.before m ∙ quoted_step _ _ m c.loop-i-test.true (ne_eqb _ 34 c.if-bytes-i-eq34.false) (ne_eqb _ 10 c.if-bytes-i-eq10.false);
}
