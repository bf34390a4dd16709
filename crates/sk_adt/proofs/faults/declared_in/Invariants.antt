use Rattle.std.proofs.Common.{◌≡◌, ◌++◌, drop, map}
use Rattle.sk_adt.specs.Words.{each}
use Rattle.sk_adt.specs.Faults.{declared_of, declared_in}
use Rattle.sk_adt.proofs.faults.declared_in.Given as goal

abbrev pub invariant-loop-ty : goal.invariant-loop-ty
invariant-loop-ty l = l.out ++ each (map declared_of (drop l.ty-index l.types)) ≡ declared_in l.types
