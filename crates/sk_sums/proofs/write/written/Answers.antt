use Rattle.sk_sums.proofs.SumLemmas.{value_written}
use Rattle.sk_dag.specs.Eval.{bool_value, graph_values}
use Rattle.sk_sums.proofs.write.written.Goals as goal

pub returns-clause-value : goal.returns-clause-value
returns-clause-value c = λ g more e.
    let after_odd = c.xor.ensures.keeps.later g more in
    let after_all = c.flag.ensures.keeps.later g after_odd in
    let all = rw c.deref.ensures.value at (c.in_ok-all.ensures.value g after_all e) in
    value_written (graph_values g e) c.args.sum.now (bool_value g e c.in_ok-r.r) (bool_value g e c.in_ok-odd.odd) (bool_value g e c.in_ok-all.all) (c.in_ok-r.ensures.value g more e) (c.in_ok-odd.ensures.value g after_odd e) all
