use Rattle.sk_prune_text.proofs.TextLaws.{pruning_of, open_answer, pruned_answer}
use Rattle.sk_prune_text.proofs.Keeping.{kept}
use Rattle.sk_prune_text.proofs.pruning.pruned_text.Goals as goal

pub returns-in-Err-clause-unfilled : goal.returns-in-Err-clause-unfilled
returns-in-Err-clause-unfilled c w = c.in-Err.ensures.taken w.tree w.bounds w.prog w.e w.expanded

pub returns-in-Err-clause-pruned : goal.returns-in-Err-clause-pruned
returns-in-Err-clause-pruned c out w = c.in-Err.ensures.taken w.tree w.bounds w.prog w.e w.expanded

pub returns-in-Ok-answer-clause-kept : goal.returns-in-Ok-answer-clause-kept
returns-in-Ok-answer-clause-kept c = kept c.args.set.now c.args.text.now c.in-Ok-answer.pruning c.requires.set (pruning_of c.args.set.now c.args.text.now c.in-Ok.it c.in-Ok-answer.pruning c.in-Ok.ensures.found c.in-Ok-answer.ensures)

pub returns-in-Ok-answer-clause-unfilled : goal.returns-in-Ok-answer-clause-unfilled
returns-in-Ok-answer-clause-unfilled c = open_answer c.args.set.now c.args.text.now c.in-Ok.it c.in-Ok-answer.pruning c.in-Ok.ensures.found c.in-Ok-answer.ensures

pub returns-in-Ok-answer-clause-pruned : goal.returns-in-Ok-answer-clause-pruned
returns-in-Ok-answer-clause-pruned c = pruned_answer c.args.set.now c.args.text.now c.in-Ok.it c.in-Ok-answer.pruning c.in-Ok.ensures.found c.in-Ok-answer.ensures
