use Rattle.std.proofs.Common.{◌≡◌, ◌++◌, map, drop, codes}
use Rattle.std.specs.List.{flat_map}
use Rattle.sk_cert.specs.Certificates.{argument_text}
use Rattle.sk_cert.proofs.writer.push_arguments.Given as goal

abbrev pub invariant-loop-scalars : goal.invariant-loop-scalars
invariant-loop-scalars l =
    l.out.items ++ flat_map (λ w. codes " " ++ w) (map argument_text (drop l.scalars-index l.args))
    ≡ l.fn.out.items ++ flat_map (λ w. codes " " ++ w) (map argument_text l.args)
