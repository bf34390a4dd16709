use Rattle.std.proofs.Common.{◌≡◌, ◌-◌, ◌*◌, ◌^◌, ◌%◌, arith, subst, sym}
use Rattle.sk_base.specs.Word.{wrapped, half, Differ}
use Rattle.sk_base.proofs.Words.{half_pos, half_le, wrap_low, wrap_high, Differ-wrapped}
use Rattle.sk_base.proofs.word.wrap.Goals as goal

pub returns-then-rest-half-clause-value : goal.returns-then-rest-half-clause-value
unfolding wrapped
returns-then-rest-half-clause-value c =
    let p = half_pos c.args.bits in
    let b = half_le c.args.bits c.requires.bits_high in
    let e : 1 * 2 ^ (c.args.bits - 1) % 18446744073709551616 ≡ half c.args.bits = omega arith in
    wrap_low (half c.args.bits) _ _ p b c.ranges.n (rw e at c.rem_euclid-rest.ensures.value) (rw e at c.if-rest-half.true)

pub returns-then-rest-half-clause-multiple : goal.returns-then-rest-half-clause-multiple
returns-then-rest-half-clause-multiple c =
    subst (Differ c.args.bits c.args.n) (sym (returns-then-rest-half-clause-value c)) (Differ-wrapped c.args.bits c.args.n)

pub returns-else-rest-half-clause-value : goal.returns-else-rest-half-clause-value
unfolding wrapped
returns-else-rest-half-clause-value c =
    let p = half_pos c.args.bits in
    let b = half_le c.args.bits c.requires.bits_high in
    let e : 1 * 2 ^ (c.args.bits - 1) % 18446744073709551616 ≡ half c.args.bits = omega arith in
    rw e (wrap_high (half c.args.bits) _ _ p b c.ranges.n (rw e at c.rem_euclid-rest.ensures.value) (rw e at c.if-rest-half.false))

pub returns-else-rest-half-clause-multiple : goal.returns-else-rest-half-clause-multiple
returns-else-rest-half-clause-multiple c =
    subst (Differ c.args.bits c.args.n) (sym (returns-else-rest-half-clause-value c)) (Differ-wrapped c.args.bits c.args.n)
