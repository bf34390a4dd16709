use Rattle.std.proofs.Common.{refl}
use Rattle.sk_sym_operators.proofs.BitRows.{at_forms}
use Rattle.sk_sym_operators.proofs.rows.on_even.Goals as goal

pub returns-in_ok-made-in-Add-clause-operated : goal.returns-in_ok-made-in-Add-clause-operated
returns-in_ok-made-in-Add-clause-operated c = at_forms _ refl refl c.in-Add.is c.in_ok-made-in-Add.ensures.operated
