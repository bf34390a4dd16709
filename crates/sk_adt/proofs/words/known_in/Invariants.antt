use Rattle.std.proofs.Common.{◌≡◌, ◌++◌, drop, map}
use Rattle.sk_adt.specs.Words.{each, known_of, known_in}
use Rattle.sk_adt.proofs.words.known_in.Given as goal

abbrev pub invariant-loop-ty : goal.invariant-loop-ty
invariant-loop-ty l = l.out ++ each (map known_of (drop l.ty-index l.types)) ≡ known_in l.types
