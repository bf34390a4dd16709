use Rattle.std.proofs.Common.{◌+◌, ◌*◌}
use Rattle.sk_arr.proofs.index.+among.Given as goal

-- the halves are of fewer than the whole
abbrev pub decreases-among_halves : goal.decreases-among_halves
decreases-among_halves l = 2 * l.count

abbrev pub decreases-among : goal.decreases-among
decreases-among l = 2 * l.count + 1
