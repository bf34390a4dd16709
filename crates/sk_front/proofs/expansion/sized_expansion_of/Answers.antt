use Rattle.sk_front.proofs.FrontLaws.{only_sized, sized_taken}
use Rattle.sk_front.proofs.expansion.sized_expansion_of.Goals as goal

pub returns-clause-only : goal.returns-clause-only
returns-clause-only c = only_sized c.args.set.now c.args.text.now c.sized.result c.sized.ensures.found c.sized.ensures.fault

pub returns-clause-taken : goal.returns-clause-taken
returns-clause-taken c = sized_taken c.args.set.now c.args.text.now c.sized.result c.sized.ensures.found c.sized.ensures.fault
