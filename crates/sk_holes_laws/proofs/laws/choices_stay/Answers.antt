use Rattle.sk_holes_laws.proofs.Operands.{choice_stays}
use Rattle.sk_holes_laws.proofs.laws.choices_stay.Goals as goal

pub returns : goal.returns
returns c = choice_stays
