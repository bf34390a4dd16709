use Rattle.std.proofs.Common.{◌≡◌, take, map}
use Rattle.sk_adt.specs.Words.{algebraic_of}
use Rattle.sk_adt.proofs.words.algebraics.Given as goal

abbrev pub invariant-loop-ty : goal.invariant-loop-ty
invariant-loop-ty l = l.out ≡ map algebraic_of (take l.ty-index l.types)
