use Rattle.sk_holes_laws.proofs.Program.{filled_means}
use Rattle.sk_holes_laws.proofs.laws.filled_means.Goals as goal

pub returns : goal.returns
returns c = filled_means
