use Rattle.std.proofs.Common.{◌≡◌, ◌++◌, drop}
use Rattle.std.specs.List.{flat_map}
use Rattle.sk_cert_inputs.specs.Words.{scalar_words}
use Rattle.sk_cert_inputs.proofs.apart.push_argument.Given as goal

-- the words so far, and those of the scalars to come
abbrev pub invariant-loop-scalar : goal.invariant-loop-scalar
invariant-loop-scalar l = l.fn.words.items ++ flat_map scalar_words l.scalars ≡ l.words.items ++ flat_map scalar_words (drop l.scalar-index l.scalars)
