use Rattle.std.proofs.Common.{◌≡◌, ◌++◌, map}
use Rattle.std.specs.List.{range_with_len}
use Rattle.sk_oblig_queries.specs.Queries.{leaf_of}
use Rattle.sk_oblig_queries.proofs.leaves.push_bits.Given as goal

abbrev pub invariant-loop-k : goal.invariant-loop-k
invariant-loop-k l = l.leaves ≡ l.initial.leaves ++ map (leaf_of l.query l.place) (range_with_len 0 l.k)
