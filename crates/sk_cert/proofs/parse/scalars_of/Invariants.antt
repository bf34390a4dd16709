use Rattle.std.proofs.Common.{◌≡◌}
use Rattle.std.specs.Option.{option_map}
use Rattle.sk_cert.specs.Words.{all_of, scalar_of, pieces}
use Rattle.sk_cert.proofs.Gathered.{gathered, left_of}
use Rattle.sk_cert.proofs.parse.scalars_of.Given as goal

-- those so far, and those of the pieces to come
abbrev pub invariant-loop-rest : goal.invariant-loop-rest
invariant-loop-rest l = all_of scalar_of (pieces 44 (option_map (λ x. x.now) l.left)) ≡ gathered l.scalars (all_of scalar_of (pieces 44 (option_map (λ x. x.now) l.rest)))

abbrev pub decreases-loop-rest : goal.decreases-loop-rest
decreases-loop-rest l = left_of (option_map (λ x. x.now) l.rest)
