use Rattle.std.proofs.Common.{◌≡◌, ap, ◌∙◌, arith, w64, to_z, of_z}
use Rattle.std.proofs.lemmas.Int.{ints}
use Rattle.sk_oblig_arguments.proofs.Shaping.{constant_int as is_constant_int}
use Rattle.sk_oblig_arguments.proofs.constant.constant_int.Goals as goal

pub returns-clause-constant : goal.returns-clause-constant
returns-clause-constant c =
    let same : to_z w64 (of_z w64 c.args.number) ≡ c.args.number = omega (arith, ints, c.ranges.number) in
    is_constant_int c.in_ok-id.id c.in_ok-id.ensures.there (λ g m e. c.in_ok-id.ensures.value g m e ∙ same)
