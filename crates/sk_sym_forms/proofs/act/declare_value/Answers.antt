use Rattle.sk_sym_forms.proofs.Acts.{declares}
use Rattle.sk_sym_forms.proofs.act.declare_value.Goals as goal

pub returns-clause-executes : goal.returns-clause-executes
returns-clause-executes c = declares c.requires.stands c.requires.a c.in_ok-declare.ensures
