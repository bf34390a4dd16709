use Rattle.std.proofs.Common.{◌≡◌, ◌++◌, length, map}
use Rattle.sk_opts.proofs.words.names_of.Given as goal

abbrev pub invariant-loop-rest : goal.invariant-loop-rest
invariant-loop-rest l = map (λ w. w.now) l.words ≡ l.names ++ map (λ w. w.now) l.rest

abbrev pub decreases-loop-rest : goal.decreases-loop-rest
decreases-loop-rest l = length l.rest
