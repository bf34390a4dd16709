use Rattle.std.proofs.Common.{◌≡◌, take, map}
use Rattle.sk_adt_tags.proofs.ground.names_of.Given as goal

abbrev pub invariant-loop-ty : goal.invariant-loop-ty
invariant-loop-ty l = l.out ≡ map (λ a. a.name) (take l.ty-index l.types)
