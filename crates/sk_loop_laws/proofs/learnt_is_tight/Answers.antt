use Rattle.sk_loop_laws.proofs.Learning.{learnt_is_tight}
use Rattle.sk_loop_laws.proofs.learnt_is_tight.Goals as goal

pub returns : goal.returns
returns c = learnt_is_tight
