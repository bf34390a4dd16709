use Rattle.std.proofs.Common.{◌≡◌, drop}
use Rattle.sk_types_rules.specs.Types.{same_params}
use Rattle.sk_types.proofs.signature.same_params.Given as goal

-- the parameters to come decide
abbrev pub invariant-loop-i : goal.invariant-loop-i
invariant-loop-i l = same_params l.a l.b ≡ same_params (drop l.i l.a) (drop l.i l.b)
