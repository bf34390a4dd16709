use Rattle.std.proofs.Common.{◌≡◌, ◌+◌, drop}
use Rattle.sk_all_listing.specs.Order.{place_of}
use Rattle.sk_all_listing.proofs.order.place_of.Given as goal

-- the values are before none up to here
abbrev pub invariant-loop-i : goal.invariant-loop-i
invariant-loop-i l = l.i + place_of l.values (drop l.i l.listed) ≡ place_of l.values l.listed
