use Rattle.sk_front.proofs.FrontLaws.{only_program, program_taken}
use Rattle.sk_front.proofs.program.program_of.Goals as goal

pub returns-clause-only : goal.returns-clause-only
returns-clause-only c = only_program c.args.set.now c.args.text.now c.meant.result c.meant.ensures.found c.meant.ensures.fault

pub returns-clause-taken : goal.returns-clause-taken
returns-clause-taken c = program_taken c.args.set.now c.args.text.now c.meant.result c.meant.ensures.found c.meant.ensures.fault
