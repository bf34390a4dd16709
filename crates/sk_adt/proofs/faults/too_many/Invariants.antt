use Rattle.std.proofs.Common.{◌≡◌, drop, map}
use Rattle.sk_adt.specs.Faults.{sooner, soonest, crowded_type}
use Rattle.sk_adt.proofs.faults.too_many.Given as goal

abbrev pub invariant-loop-ty : goal.invariant-loop-ty
invariant-loop-ty l = sooner l.best (soonest (map crowded_type (drop l.ty-index l.types))) ≡ soonest (map crowded_type l.types)
