use Rattle.std.proofs.Common.{◌+◌, ◌*◌}
use Rattle.sk_sym_places.proofs.Places.{bits_in}
use Rattle.sk_sym_places.proofs.place.+put.Given as goal

-- each call goes one down
abbrev pub decreases-put : goal.decreases-put
decreases-put l = 2 * bits_in l.place.now

abbrev pub decreases-put_either : goal.decreases-put_either
decreases-put_either l = 2 * (bits_in l.first.now + bits_in l.second.now) + 1
