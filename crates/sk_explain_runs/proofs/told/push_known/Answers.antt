use Rattle.sk_explain_answers.proofs.Fillable.{known_fillable}
use Rattle.sk_explain_runs.proofs.told.push_known.Goals as goal

-- what filling asks of the expansion of a text
pub push_expansion-requires-clause-fillable : goal.push_expansion-requires-clause-fillable
push_expansion-requires-clause-fillable c = known_fillable c.args.text.now c.args.expansion.now c.requires
