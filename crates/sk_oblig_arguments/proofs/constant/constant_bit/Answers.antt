use Rattle.sk_oblig_arguments.proofs.Shaping.{constant_bit as is_constant_bit}
use Rattle.sk_oblig_arguments.proofs.constant.constant_bit.Goals as goal

pub returns-clause-constant : goal.returns-clause-constant
returns-clause-constant c = is_constant_bit c.in_ok-id.id c.in_ok-id.ensures.there c.in_ok-id.ensures.value
