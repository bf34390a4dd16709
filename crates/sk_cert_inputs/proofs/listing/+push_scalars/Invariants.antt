use Rattle.std.proofs.Common.{◌≡◌, ◌++◌, map, drop}
use Rattle.std.specs.List.{flat_map}
use Rattle.sk_cert_inputs.specs.Inputs.{scalars}
use Rattle.sk_cert_inputs.proofs.listing.+push_scalars.Given as goal

-- the scalars so far, and those of the values to come
abbrev pub invariant-push_all-loop-value : goal.invariant-push_all-loop-value
invariant-push_all-loop-value l = l.fn.list ++ flat_map (λ part. part) (map scalars l.values) ≡ l.list ++ flat_map (λ part. part) (map scalars (drop l.value-index l.values))
