use Rattle.sk_sym_forms.proofs.Acts.{returns_nothing}
use Rattle.sk_sym_forms.proofs.end.give_nothing.Goals as goal

pub returns-clause-executes : goal.returns-clause-executes
returns-clause-executes c = returns_nothing c.in_ok-give.ensures.gives
