use Rattle.std.proofs.Common.{◌≡◌, drop}
use Rattle.sk_all_listing.specs.Order.{is_before}
use Rattle.sk_all_listing.proofs.order.is_before.Given as goal

-- the values before this place are the same
abbrev pub invariant-loop-i : goal.invariant-loop-i
invariant-loop-i l = is_before (drop l.i l.values) (drop l.i l.others) ≡ is_before l.values l.others
