use Rattle.std.proofs.Common.{◌≡◌, rules, ap}
use Rattle.sk_clause.specs.Meaning.{lit_true}
use Rattle.sk_gates.specs.Bits.{choose}
use Rattle.sk_gates.proofs.BitLaws.{choose_same}
use Rattle.sk_gates.proofs.SharingLaws.{Builds-none}
use Rattle.sk_gates.proofs.shared.SharedGates.mux_vars.Goals as goal

pub returns-then-is-clause-gate : goal.returns-then-is-clause-gate
returns-then-is-clause-gate c =
    let e : c.args.a ≡ c.args.b = search rules in
    Builds-none _ (λ v. lit_true v c.args.a ≡ choose (lit_true v c.args.c) (lit_true v c.args.a) (lit_true v c.args.b))
    (λ v m. choose_same (lit_true v c.args.c) (lit_true v c.args.a) (lit_true v c.args.b) (ap (lit_true v) e))
