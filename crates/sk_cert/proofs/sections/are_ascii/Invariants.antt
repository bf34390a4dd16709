use Rattle.std.proofs.Common.{◌≡◌, length, ltb}
use Rattle.std.specs.List.{list_all}
use Rattle.sk_cert.proofs.sections.are_ascii.Given as goal

abbrev pub invariant-loop-rest : goal.invariant-loop-rest
invariant-loop-rest l = list_all (λ b. ltb b 128) l.line ≡ list_all (λ b. ltb b 128) l.rest

abbrev pub decreases-loop-rest : goal.decreases-loop-rest
decreases-loop-rest l = length l.rest
