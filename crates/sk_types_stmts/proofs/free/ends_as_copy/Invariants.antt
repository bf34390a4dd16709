use Rattle.std.proofs.Common.{◌≡◌, drop}
use Rattle.sk_types_rules.specs.Types.{ends_as_copy}
use Rattle.sk_types_stmts.proofs.free.ends_as_copy.Given as goal

-- no place so far begins such an end
abbrev pub invariant-loop-i : goal.invariant-loop-i
invariant-loop-i l = ends_as_copy l.bytes ≡ ends_as_copy (drop l.i l.bytes)
