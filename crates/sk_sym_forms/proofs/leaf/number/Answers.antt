use Rattle.std.proofs.Common.{subst}
use Rattle.sk_model.specs.Eval.{literal}
use Rattle.sk_sym_literals.specs.Given.{IsGiven}
use Rattle.sk_sym_forms.proofs.Values.{given_evaluates}
use Rattle.sk_sym_forms.proofs.leaf.number.Goals as goal

pub returns-clause-evaluates : goal.returns-clause-evaluates
returns-clause-evaluates c = given_evaluates c.requires.stands c.in_ok-r.ensures.keeps (subst (λ w. IsGiven c.literal.new.dag (literal w c.args.ty c.args.n) c.in_ok-r.r) c.in_ok-width_is.ensures c.in_ok-r.ensures.given)
