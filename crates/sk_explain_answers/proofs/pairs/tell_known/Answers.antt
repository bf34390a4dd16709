use Rattle.sk_explain_answers.proofs.Fillable.{known_fillable}
use Rattle.sk_explain_answers.proofs.pairs.tell_known.Goals as goal

pub tell_listed-requires-clause-fillable : goal.tell_listed-requires-clause-fillable
tell_listed-requires-clause-fillable c = known_fillable c.args.text.now c.args.expansion.now c.requires
