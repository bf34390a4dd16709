use Rattle.std.proofs.Common.{◌≡◌, ◌++◌, drop}
use Rattle.sk_adt.specs.Branches.{variants_from}
use Rattle.sk_adt.proofs.branch.push_variants.Given as goal

abbrev pub invariant-loop-i : goal.invariant-loop-i
invariant-loop-i l = l.out.items ++ variants_from l.i (drop l.i l.variants) ≡ l.fn.out.items ++ variants_from 0 l.variants
