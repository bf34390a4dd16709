use Rattle.std.proofs.Common.{arith}
use Rattle.sk_sat.proofs.TrimLemmas.{implied_by}
use Rattle.sk_sat.proofs.minimize.has_reason.Goals as goal

pub returns-clause-implied : goal.returns-clause-implied
returns-clause-implied c = λ e kept covered.
    implied_by _ _ _ _ _ _ c.requires.trail kept c.args.l (omega (arith, c.if-at-eq0.false)) (omega (arith, c.if-at-lims.false)) c.if-lits-begin.false covered
