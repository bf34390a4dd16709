use Rattle.std.proofs.Common.{refl, ◌∙◌}
use Rattle.sk_sym_walk.proofs.Layers.{paren_is}
use Rattle.sk_sym_walk.proofs.step.+inside.Goals as goal

pub returns-in-Paren : goal.returns-in-Paren
returns-in-Paren t c =
    let is = rw (← c.get.ensures) at c.in-Paren.is in
    record { same = λ a span e. paren_is a span c.args.e.now c.get.result.now is e ∙ c.inside.ensures.same a span e }

pub returns-in_default : goal.returns-in_default
returns-in_default t c = record { same = λ a span e. refl }
