use Rattle.std.proofs.Common.{◌≡◌, drop}
use Rattle.std.specs.List.{list_all}
use Rattle.sk_types_rules.specs.Types.{is_digit}
use Rattle.sk_types_stmts.proofs.free.all_digits.Given as goal

-- the bytes to come decide
abbrev pub invariant-loop-byte : goal.invariant-loop-byte
invariant-loop-byte l = list_all is_digit l.bytes ≡ list_all is_digit (drop l.byte-index l.bytes)
