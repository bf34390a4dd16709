use Rattle.std.proofs.Common.{◌≡◌, take, map}
use Rattle.sk_adt.specs.Words.{variant_of}
use Rattle.sk_adt.proofs.words.variants_of.Given as goal

abbrev pub invariant-loop-variant : goal.invariant-loop-variant
invariant-loop-variant l = l.out ≡ map variant_of (take l.variant-index l.variants)
