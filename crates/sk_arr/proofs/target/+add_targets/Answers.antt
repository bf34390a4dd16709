use Rattle.std.proofs.Common.{arith}
use Rattle.sk_dag.specs.Graph.{BoolSort}
use Rattle.sk_arr.proofs.Standing.{AllIn-keeps}
use Rattle.sk_arr.proofs.Targets.{merged_on, guard_first, guard_second, more_in, others_in, added_in}
use Rattle.sk_arr.proofs.Rises.{rising_on}
use Rattle.sk_arr.proofs.target.+add_targets.Goals as goal

pub add_target-requires-clause-first : goal.add_target-requires-clause-first
add_target-requires-clause-first t c = guard_first c.in-Some.ensures.next c.requires.a

pub add_target-requires-clause-second : goal.add_target-requires-clause-second
add_target-requires-clause-second t c = guard_second c.in-Some.ensures.next c.requires.b

pub add_targets-requires : goal.add_targets-requires
add_targets-requires t c = let k = c.in_ok-add_target.ensures.keeps in (
  omega (arith, c.in-Some.ensures.next.fewer),
  (k.sorts _ BoolSort c.requires.c, (more_in c.in-Some.ensures.next (AllIn-keeps k c.requires.a), (others_in c.in-Some.ensures.next (AllIn-keeps k c.requires.b), added_in c.in_ok-add_target.ensures.added (AllIn-keeps k c.requires.made)))),
)

pub returns-clause-merged : goal.returns-clause-merged
returns-clause-merged t c = merged_on c.in-Some.ensures.next c.in_ok-add_target.ensures.added c.in_ok-add_targets.ensures.keeps c.in_ok-add_targets.ensures.merged

pub returns-clause-rising : goal.returns-clause-rising
returns-clause-rising t c = rising_on c.in-Some.ensures.least c.in_ok-add_target.ensures.added c.in_ok-add_targets.ensures.rising
