use Rattle.std.proofs.Common.{◌≡◌, ◌++◌, drop}
use Rattle.sk_adt.specs.Words.{known_from}
use Rattle.sk_adt.proofs.words.push_known.Given as goal

abbrev pub invariant-loop-i : goal.invariant-loop-i
invariant-loop-i l = l.out ++ known_from l.i l.ty (drop l.i l.variants) ≡ l.fn.out ++ known_from 0 l.ty l.variants
