use Rattle.std.proofs.Common.{◌≤◌, Some, None, ap, arith}
use Rattle.std.specs.Option.{option_copied}
use Rattle.sk_min_certify.proofs.Below.{limit_free, limit_less}
use Rattle.sk_min_certify.proofs.lower.lower_proof.Goals as goal

pub none_within-requires-clause-none : goal.none_within-requires-clause-none
none_within-requires-clause-none g c = c.requires.none None (limit_free (option_copied c.args.choice) c.args.value (ap option_copied c.in-None.is))

pub none_within-requires-in-Some-checked_sub-clause-none : goal.none_within-requires-in-Some-checked_sub-clause-none
none_within-requires-in-Some-checked_sub-clause-none g c =
    let less = c.in-Some-checked_sub.ensures in
    let above : 1 ≤ c.args.value = less.0 in
    c.requires.none (Some c.in-Some-checked_sub.most)
    (limit_less (option_copied c.args.choice) c.in-Some.field-0.now c.args.value c.in-Some-checked_sub.most (ap option_copied c.in-Some.is) (omega (arith, above)) less.1)
