use Rattle.std.proofs.Common.{◌≡◌, ◌++◌, drop}
use Rattle.std.specs.List.{flat_map}
use Rattle.sk_cert_inputs.specs.Words.{argument_words}
use Rattle.sk_cert_inputs.proofs.apart.push_arguments.Given as goal

-- the words so far, and those of the arguments to come
abbrev pub invariant-loop-arg : goal.invariant-loop-arg
invariant-loop-arg l = l.fn.words.items ++ flat_map argument_words l.args ≡ l.words.items ++ flat_map argument_words (drop l.arg-index l.args)
