use Rattle.std.proofs.Common.{◌+◌, ◌*◌, take}
use Rattle.sk_arr.specs.Shapes.{AllSlotsPass}
use Rattle.sk_arr.proofs.Depths.{depth, depths}
use Rattle.sk_sym_stores.specs.Kinds.{may_name_kind}
use Rattle.sk_sym_stores.proofs.kind.+kind.Given as goal

-- each call goes one down, from a list to an element or from an array to its list
abbrev pub decreases-names_kind : goal.decreases-names_kind
decreases-names_kind l = 2 * depth l.r.now

abbrev pub decreases-all_name_kind : goal.decreases-all_name_kind
decreases-all_name_kind l = 2 * depths l.list.now + 1

-- those so far name no other slots
abbrev pub invariant-all_name_kind-loop-r : goal.invariant-all_name_kind-loop-r
invariant-all_name_kind-loop-r l = AllSlotsPass (may_name_kind l.structs l.elem) (take l.r-index l.list)
