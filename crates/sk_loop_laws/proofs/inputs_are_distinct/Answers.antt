use Rattle.sk_loop_laws.proofs.Pairs.{inputs_are_distinct}
use Rattle.sk_loop_laws.proofs.inputs_are_distinct.Goals as goal

pub returns : goal.returns
returns c = inputs_are_distinct
