use Rattle.std.proofs.Common.{subst}
use Rattle.sk_clause.specs.Meaning.{EachFollows}
use Rattle.sk_sat.specs.Solver.{State}
use Rattle.sk_sat.proofs.solver.Solver.learnt_len.Goals as goal

pub returns-clause-follows : goal.returns-clause-follows
returns-clause-follows c = subst (λ (s : State). EachFollows s.added s.learnt) c.self.view_is c.self.invariant.0.each
