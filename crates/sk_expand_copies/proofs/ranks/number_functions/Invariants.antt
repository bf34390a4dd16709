use Rattle.std.proofs.Common.{◌≡◌, drop, ◌++◌, ◌+◌}
use Rattle.sk_expand_copies.specs.Ranks.{ranks_from, count_true}
use Rattle.sk_expand_copies.proofs.ranks.number_functions.Given as goal

-- the numbers so far, and those that are left
abbrev pub invariant-loop-stand : goal.invariant-loop-stand
invariant-loop-stand l = record {
  table : l.table.items ++ ranks_from l.last (drop l.stand-index l.stands) ≡ ranks_from 0 l.stands;
  last : l.last + count_true (drop l.stand-index l.stands) ≡ count_true l.stands;
}
