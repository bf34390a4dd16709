use Rattle.sk_sym_forms.proofs.Values.{given_evaluates}
use Rattle.sk_sym_forms.proofs.Acts.{declares_given}
use Rattle.sk_sym_forms.proofs.end.declare_zero.Goals as goal

pub returns-clause-executes : goal.returns-clause-executes
returns-clause-executes c = declares_given c.requires.stands (given_evaluates c.requires.stands c.in_ok-zero.ensures.keeps c.in_ok-zero.ensures.given) c.in_ok-declare.ensures
