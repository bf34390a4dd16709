use Rattle.std.proofs.Common.{◌≡◌, ◌++◌, drop, codes}
use Rattle.std.specs.List.{join_by}
use Rattle.std.specs.Fmt.{signed_decimal}
use Rattle.sk_cert.proofs.Joined.{joined}
use Rattle.sk_cert.proofs.writer.push_argument.Given as goal

abbrev pub invariant-loop-scalar : goal.invariant-loop-scalar
invariant-loop-scalar l =
    l.fn.out.items ++ join_by signed_decimal (codes ",") l.scalars
    ≡ l.out.items ++ joined l.between (drop l.scalar-index l.scalars)
