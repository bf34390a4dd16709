use Rattle.std.proofs.Common.{◌≡◌, drop, map}
use Rattle.sk_adt.specs.Faults.{sooner, soonest, fields_again}
use Rattle.sk_adt.proofs.faults.all_fields_again.Given as goal

abbrev pub invariant-loop-ty : goal.invariant-loop-ty
invariant-loop-ty l = sooner l.best (soonest (map fields_again (drop l.ty-index l.types))) ≡ soonest (map fields_again l.types)
