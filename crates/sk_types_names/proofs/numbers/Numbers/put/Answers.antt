use Rattle.std.proofs.Common.{◌∙◌, Some}
use Rattle.sk_types_names.proofs.TableLaws.{sets}
use Rattle.sk_types_names.proofs.numbers.Numbers.put.Goals as goal

pub returns-clause-ok : goal.returns-clause-ok
returns-clause-ok c =
    let name = c.in_ok-name.name.items in
    sets (λ k. k.items) name c.args.name.now c.args.self.now c.self.inside.rows c.insert.new.self (Some c.args.number) (c.in_ok-name.ensures.items ∙ c.as_bytes.ensures) c.self.view_is c.in_ok-insert.ensures.updates
