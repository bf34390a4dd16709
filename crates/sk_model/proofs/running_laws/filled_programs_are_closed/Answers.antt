use Rattle.sk_model.proofs.FilledClosed.{filled_closes}
use Rattle.sk_model.proofs.running_laws.filled_programs_are_closed.Goals as goal

pub returns : goal.returns
returns c = filled_closes
