use Rattle.std.proofs.Common.{◌≡◌, drop, ◌+◌}
use Rattle.sk_holes_standing.specs.Standing.{exprs, fields}
use Rattle.sk_holes_standing.proofs.walker.Walker.+skip_expr.Given as goal

-- the sites passed so far, and those that are left
abbrev pub invariant-skip_exprs-loop-e : goal.invariant-skip_exprs-loop-e
invariant-skip_exprs-loop-e l = l.at + (exprs l.self (drop l.e-index l.es)).count ≡ l.fn.at + (exprs l.self l.es).count

abbrev pub invariant-skip_fields-loop-x : goal.invariant-skip_fields-loop-x
invariant-skip_fields-loop-x l = l.at + (fields l.self (drop l.x-index l.given)).count ≡ l.fn.at + (fields l.self l.given).count
