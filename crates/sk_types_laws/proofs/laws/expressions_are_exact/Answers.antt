use Rattle.sk_types_laws.proofs.Exact.{exact}
use Rattle.sk_types_laws.proofs.laws.expressions_are_exact.Goals as goal

pub returns : goal.returns
returns c = exact
