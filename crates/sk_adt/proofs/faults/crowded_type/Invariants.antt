use Rattle.std.proofs.Common.{◌≡◌, drop, map}
use Rattle.sk_adt.specs.Faults.{sooner, soonest, crowded_variant, crowded_type}
use Rattle.sk_adt.proofs.faults.crowded_type.Given as goal

abbrev pub invariant-loop-variant : goal.invariant-loop-variant
invariant-loop-variant l = sooner l.best (soonest (map crowded_variant (drop l.variant-index l.fn.ty.variants))) ≡ crowded_type l.fn.ty
