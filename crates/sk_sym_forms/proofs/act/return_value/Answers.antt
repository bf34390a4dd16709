use Rattle.sk_sym_forms.proofs.Acts.{returns_value}
use Rattle.sk_sym_forms.proofs.act.return_value.Goals as goal

pub returns-clause-executes : goal.returns-clause-executes
returns-clause-executes c = returns_value c.in_ok-give.ensures.gives
