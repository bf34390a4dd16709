use Rattle.sk_sym_steps.proofs.Records.{allocates}
use Rattle.sk_sym_steps.proofs.record.allocate_more.Goals as goal

pub returns-clause-evaluates : goal.returns-clause-evaluates
returns-clause-evaluates c = allocates c.requires.stands c.in_ok-target.ensures.keeps c.in_ok-target.ensures.stands c.in_ok-target.ensures.allocated c.in_ok-push.ensures.ok c.len-state.ensures
