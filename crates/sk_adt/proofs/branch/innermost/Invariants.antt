use Rattle.std.proofs.Common.{◌≡◌, drop, None}
use Rattle.std.specs.Prelude.{option_map}
use Rattle.sk_adt.specs.Branches.{innermost}
use Rattle.sk_adt.proofs.branch.innermost.Given as goal

abbrev pub invariant-loop-case : goal.invariant-loop-case
invariant-loop-case l = innermost (option_map (λ v. v.now) l.found) (drop l.case-index l.inside) l.x ≡ innermost None l.inside l.x
