use Rattle.std.proofs.Common.{◌≡◌, ◌++◌, drop}
use Rattle.std.specs.List.{flat_map}
use Rattle.sk_cert.specs.Certificates.{clause_line}
use Rattle.sk_cert.proofs.writer.push_clauses.Given as goal

abbrev pub invariant-loop-i : goal.invariant-loop-i
invariant-loop-i l =
    l.out.items ++ flat_map (clause_line l.kind) (drop l.i l.clauses)
    ≡ l.fn.out.items ++ flat_map (clause_line l.kind) l.clauses
