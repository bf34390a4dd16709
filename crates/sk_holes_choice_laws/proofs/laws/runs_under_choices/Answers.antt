use Rattle.sk_holes_choice_laws.proofs.Whole.{runs_under_choices}
use Rattle.sk_holes_choice_laws.proofs.laws.runs_under_choices.Goals as goal

pub returns : goal.returns
returns c = runs_under_choices
