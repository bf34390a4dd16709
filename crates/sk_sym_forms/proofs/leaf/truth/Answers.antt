use Rattle.sk_sym_forms.proofs.Values.{given_evaluates}
use Rattle.sk_sym_forms.proofs.leaf.truth.Goals as goal

pub returns-clause-evaluates : goal.returns-clause-evaluates
returns-clause-evaluates c = given_evaluates c.requires.stands c.in_ok-r.ensures.keeps c.in_ok-r.ensures.given
