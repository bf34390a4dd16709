use Rattle.sk_holes_choice_laws.proofs.Whole.{ordinary_runs}
use Rattle.sk_holes_choice_laws.proofs.laws.ordinary_runs_under_choices.Goals as goal

pub returns : goal.returns
returns c = ordinary_runs
