use Rattle.sk_sym_literals.proofs.Values.{null_given}
use Rattle.sk_sym_literals.proofs.given.null.Goals as goal

pub returns : goal.returns
returns c = λ g. null_given g _ c.new.ensures.items
