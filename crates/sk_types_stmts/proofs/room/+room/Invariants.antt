use Rattle.std.proofs.Common.{◌≡◌, drop}
use Rattle.std.specs.Prelude.{map, max}
use Rattle.sk_types_rules.specs.Types.{most_of, room}
use Rattle.sk_types_stmts.proofs.room.+room.Given as goal

-- the greatest number so far, and those to come
abbrev pub invariant-most-loop-stmt : goal.invariant-most-loop-stmt
invariant-most-loop-stmt l = most_of (map room l.stmts) l.before ≡ max l.greatest (most_of (map room (drop l.stmt-index l.stmts)) l.count)
