use Rattle.std.proofs.Common.{◌*◌, ◌+◌}
use Rattle.sk_arr.proofs.Depths.{depth, depths}
use Rattle.rows_sym.proofs.ending.+worth.Given as goal

-- each call goes one down, from a list to an element or from an array to its list
abbrev pub decreases-worth : goal.decreases-worth
decreases-worth l = 2 * depth l.shape.now

abbrev pub decreases-all_worth : goal.decreases-all_worth
decreases-all_worth l = 2 * depths l.shapes.now + 1
