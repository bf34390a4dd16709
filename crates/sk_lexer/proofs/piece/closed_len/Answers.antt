use Rattle.std.proofs.Common.{arith, ◌∙◌}
use Rattle.std.proofs.lemmas.Bool.{ne_eqb}
use Rattle.sk_lexer.proofs.Fronts.{closed_step, closed_found, closed_nowhere}
use Rattle.sk_lexer.proofs.piece.closed_len.Goals as goal
use Rattle.sk_lexer.proofs.piece.closed_len.Goals.{else-bytes-i-eq42-via-then-bytes-i-eq42+else-bytes-i-eq47, else-bytes-i-eq42-via-else-bytes-i-eq42}

pub returns-then-bytes-i-eq47-clause-found : goal.returns-then-bytes-i-eq47-clause-found
returns-then-bytes-i-eq47-clause-found c =
    closed_found _ _ c.loop-i-test.true c.if-bytes-i-eq42.true c.if-bytes-i-eq47.true c.loop-i.invariant.before

pub loop-i-preserved : goal.loop-i-preserved
loop-i-preserved c = record {
  within = omega arith;
  before = λ m. c.loop-i.invariant.before m ∙ closed_step _ _ m c.loop-i-test.true (
      elim c.else-bytes-i-eq42.branch [
        | else-bytes-i-eq42-via-then-bytes-i-eq42+else-bytes-i-eq47 w ↦ grind (arith, ne_eqb)
        | else-bytes-i-eq42-via-else-bytes-i-eq42 w ↦ grind (arith, ne_eqb)
      ]);
}

pub returns-clause-none : goal.returns-clause-none
returns-clause-none c = closed_nowhere _ _ (omega (arith, c.loop-i-test.false)) c.loop-i.invariant.before
