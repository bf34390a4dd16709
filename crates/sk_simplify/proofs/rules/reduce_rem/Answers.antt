use Rattle.std.proofs.Common.{◌≡◌, ◌≤◌, arith, to_z, of_z, w64}
use Rattle.std.proofs.lemmas.Int.{ints}
use Rattle.sk_simplify.proofs.RuleLemmas.{as_word64, fresh_remainder}
use Rattle.sk_simplify.proofs.rules.reduce_rem.Goals as goal

pub returns-in-Some : goal.returns-in-Some
returns-in-Some c =
    let raw : to_z w64 (of_z w64 c.remainder.result) ≡ c.remainder.result = omega (arith, ints) in
    let small : c.args.dag.now.bits ≤ 32 = omega (arith, c.requires.width, c.requires.bits_high) in
    let x = as_word64 c.args.dag.now.bits c.in-Some.x small c.in-Some.ensures.given.0 in
    let y = as_word64 c.args.dag.now.bits c.in-Some.y small c.in-Some.ensures.given.1 in
    rw raw
    (fresh_remainder c.args.bits c.args.a c.args.b c.in-Some.x c.in-Some.y _ c.requires.width c.in-Some.ensures.first c.in-Some.ensures.second (rw (x, y) at c.remainder.ensures))
