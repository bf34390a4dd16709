use Rattle.std.proofs.Common.{◌∙◌}
use Rattle.sk_types_names.specs.Tables.{number_of}
use Rattle.sk_types_names.proofs.TableLaws.{found}
use Rattle.sk_types_names.proofs.numbers.Numbers.get.Goals as goal

pub returns : goal.returns
returns c = c.copied.ensures ∙ c.get.ensures.value ∙ found (λ k. k.items) c.as_bytes.result.now c.self.inside.rows.entries ∙ (λ i. number_of (c.self.view_is i) (c.as_bytes.ensures i))
