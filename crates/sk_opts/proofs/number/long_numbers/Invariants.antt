use Rattle.std.proofs.Common.{◌≡◌, map, drop}
use Rattle.sk_opts.specs.GivenValues.{long_numbers}
use Rattle.sk_opts.proofs.Lists.{behind}
use Rattle.sk_opts.proofs.number.long_numbers.Given as goal

-- the numbers so far, and those that the words to come spell
abbrev pub invariant-loop-word : goal.invariant-loop-word
invariant-loop-word l = long_numbers (map (λ word. word.now) l.words) ≡ behind l.numbers (long_numbers (map (λ word. word.now) (drop l.word-index l.words)))
