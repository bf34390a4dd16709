use Rattle.std.proofs.Common.{◌≡◌, ◌++◌, map, drop, codes}
use Rattle.std.specs.List.{flat_map}
use Rattle.sk_cert.specs.Certificates.{variable_text}
use Rattle.sk_cert.proofs.writer.push_names.Given as goal

abbrev pub invariant-loop-name : goal.invariant-loop-name
invariant-loop-name l =
    l.out.items ++ flat_map (λ w. codes " " ++ w) (map variable_text (drop l.name-index l.names))
    ≡ l.fn.out.items ++ (codes "//@ names" ++ flat_map (λ w. codes " " ++ w) (map variable_text l.names))
