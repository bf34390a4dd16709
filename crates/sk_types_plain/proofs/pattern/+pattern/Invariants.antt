use Rattle.std.proofs.Common.{◌≡◌, drop, ◌++◌}
use Rattle.sk_types_plain.proofs.pattern.+pattern.Given as goal

-- the copies so far and what is not copied yet
abbrev pub invariant-copy_patterns-loop-pattern : goal.invariant-copy_patterns-loop-pattern
invariant-copy_patterns-loop-pattern l = l.copies ++ drop l.pattern-index l.patterns ≡ l.patterns
