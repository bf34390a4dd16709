use Rattle.std.proofs.Common.{take, ◌*◌, ◌+◌}
use Rattle.sk_arr.proofs.Depths.{depth, depths}
use Rattle.sk_sym.specs.Outcome.{AllNameNone}
use Rattle.sk_sym.proofs.outcome.+names.Given as goal

-- each call goes one down, from a list to an element or from an array to its list
abbrev pub decreases-names_none : goal.decreases-names_none
decreases-names_none l = 2 * depth l.a.now

abbrev pub decreases-all_name_none : goal.decreases-all_name_none
decreases-all_name_none l = 2 * depths l.list.now + 1

-- those so far name none
abbrev pub invariant-all_name_none-loop-a : goal.invariant-all_name_none-loop-a
invariant-all_name_none-loop-a l = AllNameNone (take l.a-index l.list)
