use Rattle.sk_loop_laws.proofs.Learning.{learnt_asks_for}
use Rattle.sk_loop_laws.proofs.learnt_asks_for.Goals as goal

pub returns : goal.returns
returns c = learnt_asks_for
