use Rattle.std.proofs.Common.{arith}
use Rattle.sk_sat.proofs.InsideLemmas.{is_inside}
use Rattle.sk_sat.proofs.known.is_inside.Goals as goal

pub returns-clause-some : goal.returns-clause-some
returns-clause-some c = λ e. is_inside _ _ c.args.j (omega arith) (rw c.get.ensures at (c.includes.ensures.0 e))

pub returns-clause-none : goal.returns-clause-none
returns-clause-none c = λ e l h. (let t = c.includes.ensures.1 (rw c.get.ensures h) in cc)
