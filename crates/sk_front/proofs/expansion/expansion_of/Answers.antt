use Rattle.sk_front.proofs.FrontLaws.{only_expansion, expansion_taken}
use Rattle.sk_front.proofs.expansion.expansion_of.Goals as goal

pub returns-clause-only : goal.returns-clause-only
returns-clause-only c = only_expansion c.args.set.now c.args.text.now c.expanded.result c.expanded.ensures.found c.expanded.ensures.fault

pub returns-clause-taken : goal.returns-clause-taken
returns-clause-taken c = expansion_taken c.args.set.now c.args.text.now c.expanded.result c.expanded.ensures.found c.expanded.ensures.fault
