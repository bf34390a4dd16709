use Rattle.std.proofs.Common.{◌≡◌, ◌++◌, drop, map}
use Rattle.sk_adt.proofs.faults.push_variants.Given as goal

abbrev pub invariant-loop-variant : goal.invariant-loop-variant
invariant-loop-variant l = l.out ++ map (λ v. v.word) (drop l.variant-index l.variants) ≡ l.fn.out ++ map (λ v. v.word) l.variants
