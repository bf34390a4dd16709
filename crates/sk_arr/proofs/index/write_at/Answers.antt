use Rattle.std.proofs.Common.{ap, ◌∙◌, ◌&&◌}
use Rattle.sk_dag.specs.Graph.{BoolSort}
use Rattle.sk_dag.specs.Eval.{bool_value}
use Rattle.sk_dag.proofs.EvalLemmas.{Keeps-trans}
use Rattle.sk_arr.proofs.Standing.{Stands-keeps}
use Rattle.sk_arr.proofs.WriteLaws.{written_at}
use Rattle.sk_arr.proofs.index.write_at.Goals as goal

pub both-requires-clause-a : goal.both-requires-clause-a
both-requires-clause-a c = c.in_ok-here.ensures.keeps.sorts _ BoolSort c.requires.guard

pub choose-requires-clause-a : goal.choose-requires-clause-a
choose-requires-clause-a c = Stands-keeps (Keeps-trans c.in_ok-here.ensures.keeps c.in_ok-test.ensures.keeps) c.requires.value

pub choose-requires-clause-b : goal.choose-requires-clause-b
choose-requires-clause-b c = Stands-keeps (Keeps-trans c.in_ok-here.ensures.keeps c.in_ok-test.ensures.keeps) c.requires.old

pub returns-clause-written : goal.returns-clause-written
returns-clause-written c = written_at
    (λ h more e.
    let mid = c.in_ok-r.ensures.keeps.later h more in
    c.in_ok-test.ensures.value h mid e
    ∙ ap (λ b. bool_value h e c.args.guard && b) (c.in_ok-here.ensures.value h (c.in_ok-test.ensures.keeps.later h mid) e))
    c.in_ok-r.ensures.choice c.requires.alike
