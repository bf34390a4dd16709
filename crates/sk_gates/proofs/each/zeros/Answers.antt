use Rattle.std.proofs.Common.{◌∙◌}
use Rattle.sk_gates.proofs.EachLaws.{bits_none}
use Rattle.sk_gates.proofs.each.zeros.Goals as goal

pub returns-clause-value : goal.returns-clause-value
returns-clause-value c = λ v. c.in_ok-r.ensures.value v ∙ bits_none v _ c.new.ensures
