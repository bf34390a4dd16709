use Rattle.sk_sym_operators.proofs.Elements.{read_nothing}
use Rattle.sk_sym_stores.proofs.part.nothing.Goals as goal

pub returns-clause-read : goal.returns-clause-read
returns-clause-read c = read_nothing _ _ c.requires c.in_ok-fails.ensures.there c.in_ok-fails.ensures.value
