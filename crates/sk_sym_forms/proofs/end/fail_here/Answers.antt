use Rattle.sk_sym_forms.proofs.Acts.{fails_here}
use Rattle.sk_sym_forms.proofs.end.fail_here.Goals as goal

pub returns-clause-executes : goal.returns-clause-executes
returns-clause-executes c = fails_here c.args.span c.in_ok-fail_now.ensures.fails
