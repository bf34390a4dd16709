use Rattle.std.proofs.Common.{subst}
use Rattle.sk_model.specs.Eval.{const_value}
use Rattle.sk_sym_literals.specs.Given.{IsGiven}
use Rattle.sk_sym_forms.proofs.Values.{given_evaluates}
use Rattle.sk_sym_forms.proofs.leaf.constant.Goals as goal

pub returns-clause-evaluates : goal.returns-clause-evaluates
returns-clause-evaluates c = given_evaluates c.requires.stands c.in_ok-r.ensures.keeps (subst (λ o. IsGiven c.const_value.new.dag (const_value o) c.in_ok-r.r) c.constant_at-found.ensures c.in_ok-r.ensures.given)
