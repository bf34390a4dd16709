use Rattle.std.proofs.Common.{◌≡◌, sym, ap}
use Rattle.sk_clause.specs.Meaning.{lit_true}
use Rattle.sk_gates.specs.Bits.{bit_true}
use Rattle.sk_gates.proofs.ExtensionLaws.{Adds-none}
use Rattle.sk_gates.proofs.convert.literal.Goals as goal

pub returns-in-Literal-clause-gate : goal.returns-in-Literal-clause-gate
returns-in-Literal-clause-gate c = Adds-none _ (λ v. lit_true v c.in-Literal.lit ≡ bit_true v c.args.bit) (λ v. sym (ap (bit_true v) c.in-Literal.is))
