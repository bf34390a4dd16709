use Rattle.std.proofs.Common.{◌≡◌, ◌∙◌, arith, to_z, of_z, w64}
use Rattle.std.proofs.lemmas.Int.{ints}
use Rattle.sk_sym_literals.proofs.Values.{int_given}
use Rattle.sk_sym_literals.proofs.given.int.Goals as goal

pub returns-clause-given : goal.returns-clause-given
returns-clause-given c =
    let raw : to_z w64 (of_z w64 c.args.z) ≡ c.args.z = omega (arith, ints) in
    int_given c.args.z c.in_ok-id.ensures.there (λ h more e. c.in_ok-id.ensures.value h more e ∙ raw)
