use Rattle.std.proofs.Common.{◌≡◌, ◌++◌, drop}
use Rattle.sk_cert.specs.Certificates.{upper_from}
use Rattle.sk_cert.proofs.writer.push_uppers.Given as goal

abbrev pub invariant-loop-i : goal.invariant-loop-i
invariant-loop-i l =
    l.out.items ++ upper_from l.version l.i (drop l.i l.parts)
    ≡ l.fn.out.items ++ upper_from l.version 0 l.parts
