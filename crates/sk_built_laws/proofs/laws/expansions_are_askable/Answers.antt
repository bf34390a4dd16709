use Rattle.sk_built_laws.proofs.Taken.{ready_of, askable, few}
use Rattle.sk_built_laws.proofs.laws.expansions_are_askable.Goals as goal

pub returns : goal.returns
returns c = record { ready = ready_of; askable = askable; few = few }
