use Rattle.std.proofs.Common.{◌≡◌, [], map, drop}
use Rattle.sk_cert_inputs.specs.Words.{all_new}
use Rattle.sk_cert_inputs.proofs.apart.all_new.Given as goal

-- whether all are new is whether those to come are, beside those that were seen
abbrev pub invariant-loop-input : goal.invariant-loop-input
invariant-loop-input l = all_new [] l.inputs ≡ all_new (map (λ key. key.items) l.seen.keys) (drop l.input-index l.inputs)
