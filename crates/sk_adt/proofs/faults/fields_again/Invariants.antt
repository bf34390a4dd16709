use Rattle.std.proofs.Common.{◌≡◌, [], drop, map}
use Rattle.sk_adt.specs.Faults.{sooner, soonest, first_again, fields_again}
use Rattle.sk_adt.proofs.faults.fields_again.Given as goal

abbrev pub invariant-loop-variant : goal.invariant-loop-variant
invariant-loop-variant l = sooner l.best (soonest (map (λ v. first_again [] v.fields) (drop l.variant-index l.fn.ty.variants))) ≡ fields_again l.fn.ty
