use Rattle.sk_dag.specs.Graph.{BoolSort}
use Rattle.sk_dag.proofs.EvalLemmas.{Keeps-trans}
use Rattle.sk_arr.proofs.Standing.{Stands-keeps}
use Rattle.sk_sym_walk.proofs.Ways.{joined_kept}
use Rattle.sk_sym_walk.proofs.step.joined.Goals as goal

pub join_shapes-requires-clause-c : goal.join_shapes-requires-clause-c
join_shapes-requires-clause-c c = c.in_ok-join.ensures.joined.keeps.sorts _ BoolSort c.requires.cond

pub join_shapes-requires-clause-a : goal.join_shapes-requires-clause-a
join_shapes-requires-clause-a c = Stands-keeps c.in_ok-join.ensures.joined.keeps c.requires.a

pub join_shapes-requires-clause-b : goal.join_shapes-requires-clause-b
join_shapes-requires-clause-b c = Stands-keeps c.in_ok-join.ensures.joined.keeps c.requires.b

pub returns-clause-joined : goal.returns-clause-joined
returns-clause-joined c = record { joined = joined_kept c.in_ok-join.ensures.joined c.in_ok-r.ensures.keeps (Keeps-trans c.in_ok-join.ensures.joined.keeps c.in_ok-r.ensures.keeps); choice = c.in_ok-r.ensures.choice }

pub returns-in_err-r-clause-keeps : goal.returns-in_err-r-clause-keeps
returns-in_err-r-clause-keeps c = Keeps-trans c.in_ok-join.ensures.keeps c.join_shapes.ensures.keeps

pub returns-clause-keeps : goal.returns-clause-keeps
returns-clause-keeps c = Keeps-trans c.in_ok-join.ensures.keeps c.in_ok-r.ensures.keeps
