use Rattle.std.proofs.Common.{◌≡◌, map, drop}
use Rattle.sk_opts.specs.SpeltValues.{spell_scalars}
use Rattle.sk_opts.proofs.Lists.{behind}
use Rattle.sk_exec_values.proofs.value.read_scalars.Given as goal

-- the values so far, and those that the words to come spell
abbrev pub invariant-loop-word : goal.invariant-loop-word
invariant-loop-word l =
    spell_scalars l.bounds l.e (map (λ word. word.now) l.words)
    ≡ behind l.values.items (spell_scalars l.bounds l.e (map (λ word. word.now) (drop l.word-index l.words)))
