use Rattle.std.proofs.Common.{None}
use Rattle.sk_types_names.proofs.TableLaws.{sets}
use Rattle.sk_types_names.proofs.numbers.Numbers.remove.Goals as goal

pub returns : goal.returns
returns c = sets (λ k. k.items) c.as_bytes.result.now c.args.name.now c.args.self.now c.self.inside.rows c.remove.new.self None c.as_bytes.ensures c.self.view_is c.remove.ensures.updates
