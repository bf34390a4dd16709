use Rattle.std.proofs.Common.{◌≡◌}
use Rattle.sk_clause.specs.Meaning.{lit_true}
use Rattle.sk_gates.specs.Bits.{bit_true, differ}
use Rattle.sk_gates.proofs.SharingLaws.{Builds-weaker, xor_of_signed}
use Rattle.sk_gates.proofs.shared.SharedGates.xor_vars.Goals as goal

pub returns-clause-gate : goal.returns-clause-gate
returns-clause-gate c =
    Builds-weaker _ (λ v. bit_true v c.flipped.result ≡ differ (lit_true v c.args.x) (lit_true v c.args.y)) c.in_ok-r.ensures.gate
    (λ v p.
    xor_of_signed (bit_true v c.flipped.result) c.differs.result (bit_true v c.in_ok-r.r) _ c.args.x.neg c.args.y.neg (v c.args.x.var) (v c.args.y.var) (c.flipped.ensures.value v) c.differs.ensures p
    (rw (c.positive.ensures, c.positive-2.ensures) at (c.ordered.ensures.xor v)))
