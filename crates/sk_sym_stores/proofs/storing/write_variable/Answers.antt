use Rattle.std.proofs.Common.{refl}
use Rattle.sk_sym_stores.proofs.Variables.{variable_written}
use Rattle.sk_sym_stores.proofs.storing.write_variable.Goals as goal

pub returns : goal.returns
returns c = variable_written c.args.span c.requires.stands refl (c.in_ok-again.ensures c.args.dag.now c.requires.value) c.assign.ensures
