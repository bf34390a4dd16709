use Rattle.std.proofs.Common.{◌≡◌}
use Rattle.std.specs.Option.{option_map}
use Rattle.sk_cert.specs.Words.{all_of, literal_of, pieces}
use Rattle.sk_cert.proofs.Gathered.{gathered, left_of}
use Rattle.sk_cert.proofs.parse.literals_of.Given as goal

-- those so far, and those of the pieces to come
abbrev pub invariant-loop-rest : goal.invariant-loop-rest
invariant-loop-rest l = all_of (literal_of l.vars) (pieces 32 (option_map (λ x. x.now) l.left)) ≡ gathered l.lits (all_of (literal_of l.vars) (pieces 32 (option_map (λ x. x.now) l.rest)))

abbrev pub decreases-loop-rest : goal.decreases-loop-rest
decreases-loop-rest l = left_of (option_map (λ x. x.now) l.rest)
