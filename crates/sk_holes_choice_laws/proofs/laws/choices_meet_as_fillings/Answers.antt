use Rattle.sk_holes_choice_laws.proofs.Meeting.{choices_meet}
use Rattle.sk_holes_choice_laws.proofs.laws.choices_meet_as_fillings.Goals as goal

pub returns : goal.returns
returns c = choices_meet
