use Rattle.std.proofs.Common.{◌∙◌}
use Rattle.sk_app.proofs.StreamLemmas.{help_joins}
use Rattle.sk_app.proofs.help.help.Goals as goal

pub returns : goal.returns
returns c = help_joins c.extend_from_slice.new.self.items c.in_ok-text.text.items c.statuses.result.now c.in_ok-extend_from_slice.ensures.items (c.in_ok-text.ensures.items ∙ c.usage.ensures) c.statuses.ensures
