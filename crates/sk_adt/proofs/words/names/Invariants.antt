use Rattle.std.proofs.Common.{◌≡◌, take, map}
use Rattle.sk_adt.proofs.words.names.Given as goal

abbrev pub invariant-loop-word : goal.invariant-loop-word
invariant-loop-word l = l.out ≡ map (λ w. w.name) (take l.word-index l.words)
