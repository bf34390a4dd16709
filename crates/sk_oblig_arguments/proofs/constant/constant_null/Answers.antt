use Rattle.sk_oblig_arguments.proofs.Shaping.{constant_null as is_constant_null}
use Rattle.sk_oblig_arguments.proofs.constant.constant_null.Goals as goal

pub returns : goal.returns
returns c = is_constant_null (record { slots = c.new.result }) c.new.ensures.items
