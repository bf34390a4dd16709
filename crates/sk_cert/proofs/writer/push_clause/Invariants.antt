use Rattle.std.proofs.Common.{◌≡◌, ◌++◌, map, drop, codes}
use Rattle.std.specs.List.{flat_map}
use Rattle.sk_cert.specs.Certificates.{literal_text}
use Rattle.sk_cert.proofs.writer.push_clause.Given as goal

abbrev pub invariant-loop-lit : goal.invariant-loop-lit
invariant-loop-lit l =
    l.out.items ++ flat_map (λ w. codes " " ++ w) (map literal_text (drop l.lit-index l.clause))
    ≡ l.fn.out.items ++ (codes "//@ " ++ l.kind ++ flat_map (λ w. codes " " ++ w) (map literal_text l.clause))
