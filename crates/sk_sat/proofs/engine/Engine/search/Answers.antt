use Rattle.std.proofs.Common.{◌∙◌, sym, subst}
use Rattle.sk_clause.specs.Problem.{AreWithin}
use Rattle.sk_sat.proofs.engine.Engine.search.Goals as goal

pub returns-clause-ready : goal.returns-clause-ready
returns-clause-ready g c = record {
  on_trail = c.back_to.ensures.trail;
  at_start = c.back_to.ensures.back.lims;
  within = subst (λ n. AreWithin n c.search.new.known) (sym (c.back_to.ensures.back.long ∙ c.in_ok-outcome.ensures.stands.long)) c.in_ok-outcome.ensures.within;
}

pub returns-clause-vars : goal.returns-clause-vars
returns-clause-vars g c = c.back_to.ensures.back.long ∙ c.in_ok-outcome.ensures.stands.long
