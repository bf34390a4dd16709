use Rattle.std.proofs.Common.{◌≡◌, ◌≢◌, ◌++◌, [], All, map, drop}
use Rattle.sk_cert_inputs.specs.Inputs.{scalars}
use Rattle.sk_cert_inputs.proofs.listing.args_of.Given as goal

-- the arguments so far, each with scalars, and those to come
abbrev pub invariant-loop-value : goal.invariant-loop-value
invariant-loop-value l = record { are : map scalars l.values ≡ l.args ++ map scalars (drop l.value-index l.values); some : All (λ scalars. scalars ≢ []) l.args }
