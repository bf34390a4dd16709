use Rattle.std.proofs.Common.{sym, ◌∙◌}
use Rattle.sk_sym_steps.proofs.Records.{kind_of, takes_again}
use Rattle.sk_sym_steps.proofs.record.allocate_again.Goals as goal

pub retake_under-requires-clause-place : goal.retake_under-requires-clause-place
retake_under-requires-clause-place c = sym (kind_of c.args.state.now.heap c.args.state.now.structs c.args.s c.args.place c.requires.stands.structs) ∙ c.requires.next.kind

pub returns-clause-evaluates : goal.returns-clause-evaluates
returns-clause-evaluates c = takes_again c.requires.stands c.in_ok-target.ensures.keeps c.in_ok-target.ensures.stands c.requires.next.up c.in_ok-target.ensures.retaken c.behind-state.ensures
