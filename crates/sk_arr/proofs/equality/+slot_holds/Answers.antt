use Rattle.std.proofs.Common.{arith, ap, length}
use Rattle.sk_dag.specs.Graph.{BoolSort}
use Rattle.sk_dag.specs.Eval.{bool_value}
use Rattle.sk_arr.proofs.Equals.{first_guard, first_more, among_more}
use Rattle.sk_arr.proofs.equality.+slot_holds.Goals as goal

pub slot_holds-requires : goal.slot_holds-requires
slot_holds-requires t c = (omega (arith, ap length c.in-Some.ensures.front), first_more c.in-Some.ensures c.requires)

pub either_where-requires-clause-a : goal.either_where-requires-clause-a
either_where-requires-clause-a t c = c.in_ok-rest.ensures.keeps.sorts _ BoolSort (first_guard c.in-Some.ensures c.requires)

pub returns-clause-value : goal.returns-clause-value
returns-clause-value t c = λ g more e. among_more c.in-Some.ensures (bool_value g e) c.args.slot (c.in_ok-r.ensures.value g more e) (c.in_ok-rest.ensures.value g (c.in_ok-r.ensures.keeps.later g more) e)
