use Rattle.std.proofs.Common.{arith, ap, length}
use Rattle.sk_dag.specs.Graph.{BoolSort}
use Rattle.sk_dag.specs.Eval.{bool_value}
use Rattle.sk_dag.proofs.EvalLemmas.{Keeps-trans}
use Rattle.sk_arr.specs.Held.{held_in}
use Rattle.sk_arr.proofs.Standing.{AllIn-keeps}
use Rattle.sk_arr.proofs.Equals.{first_guard, first_more, common_more}
use Rattle.sk_arr.proofs.equality.+meet.Goals as goal

pub both-requires-clause-a : goal.both-requires-clause-a
both-requires-clause-a t c = c.in_ok-other.ensures.keeps.sorts _ BoolSort (first_guard c.in-Some.ensures c.requires.a)

pub meet-requires : goal.meet-requires
meet-requires t c =
    let k = Keeps-trans c.in_ok-other.ensures.keeps c.in_ok-pair.ensures.keeps in
    (omega (arith, ap length c.in-Some.ensures.front), (AllIn-keeps k (first_more c.in-Some.ensures c.requires.a), AllIn-keeps k c.requires.b))

pub returns-clause-value : goal.returns-clause-value
returns-clause-value t c = λ g more e.
    let after = c.in_ok-r.ensures.keeps.later g more in
    let before = c.in_ok-rest.ensures.keeps.later g after in
    common_more c.in-Some.ensures (bool_value g e) (held_in g e c.args.b.now)
    (c.in_ok-r.ensures.value g more e)
    (c.in_ok-pair.ensures.value g before e)
    (c.in_ok-other.ensures.value g (c.in_ok-pair.ensures.keeps.later g before) e)
    (c.in_ok-rest.ensures.value g after e)
