use Rattle.std.proofs.Common.{◌≡◌, take}
use Rattle.sk_oblig_queries.specs.Numbers.{leaves_from}
use Rattle.sk_oblig_queries.specs.Queries.{leaf_of}
use Rattle.sk_oblig_queries.proofs.leaves.leaves_of_widths.Given as goal

abbrev pub invariant-loop-i : goal.invariant-loop-i
invariant-loop-i l = l.leaves ≡ leaves_from (leaf_of l.query) 0 (take l.i l.widths)
