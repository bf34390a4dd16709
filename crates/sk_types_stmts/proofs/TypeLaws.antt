-- Lengths of types.
use Rattle.std.proofs.Common.{◌≡◌, ℕ, ◌<◌, List, [], ◌∷◌, length, Option, Some, None, refl, arith}
use Rattle.sk_prog.specs.declared.ty.Elem.{Elem}
use Rattle.sk_types_rules.specs.declared.scope.Variable.{Variable}
use Rattle.sk_types_rules.specs.Scope.{Context}
use Rattle.sk_types_rules.specs.Sorts.{with_lengths}

-- no type has more than two lengths
pub too_many : (context : Context) (scope : List Variable) (a : Elem) (ns : List (Option ℕ)) → 2 < length ns → with_lengths context scope a ns ≡ None
too_many context scope a [] h = absurd (omega (arith, h))
too_many context scope a (n ∷ []) h = absurd (omega (arith, h))
too_many context scope a (n ∷ m ∷ []) h = absurd (omega (arith, h))
too_many context scope a (None ∷ ns) h = refl
too_many context scope a (Some n ∷ None ∷ ns) h = refl
too_many context scope a (Some n ∷ Some m ∷ k ∷ ns) h = refl
