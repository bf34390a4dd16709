use Rattle.sk_exec.proofs.TextLaws.{refused_answer, run_answer}
use Rattle.sk_exec.proofs.executing.execute.Goals as goal

pub returns-in-Err-clause-not_run : goal.returns-in-Err-clause-not_run
returns-in-Err-clause-not_run c reason w = c.in-Err.ensures.taken w.tree w.bounds w.prog w.e w.expanded

pub returns-in-Err-clause-run : goal.returns-in-Err-clause-run
returns-in-Err-clause-run c outcome out w = c.in-Err.ensures.taken w.tree w.bounds w.prog w.e w.expanded

pub returns-in-Ok-answer-clause-not_run : goal.returns-in-Ok-answer-clause-not_run
returns-in-Ok-answer-clause-not_run c = refused_answer c.args.set.now c.args.name.now c.args.words.now c.args.text.now c.in-Ok.it c.in-Ok-answer.executed c.in-Ok.ensures.found c.in-Ok-answer.ensures

pub returns-in-Ok-answer-clause-run : goal.returns-in-Ok-answer-clause-run
returns-in-Ok-answer-clause-run c = run_answer c.args.set.now c.args.name.now c.args.words.now c.args.text.now c.in-Ok.it c.in-Ok-answer.executed c.in-Ok.ensures.found c.in-Ok-answer.ensures
