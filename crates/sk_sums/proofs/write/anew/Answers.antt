use Rattle.std.proofs.Common.{◌∙◌}
use Rattle.sk_dag.specs.Eval.{bool_value}
use Rattle.sk_sums.specs.Sums.{SumsTo}
use Rattle.sk_sums.proofs.write.anew.Goals as goal

pub returns-in_ok-r-in-Some-clause-value : goal.returns-in_ok-r-in-Some-clause-value
unfolding bool_value
returns-in_ok-r-in-Some-clause-value c = λ g more e.
    let sums : SumsTo c.args.dag.now c.in-Some.sum c.args.top.index = rw c.in-Some.is at c.in_ok-sum.ensures in
    c.in_ok-r-in-Some.ensures.value g more e ∙ sums.value g (c.written.ensures.keeps.later g more) e
