use Rattle.std.proofs.Common.{◌≡◌, ◌≤◌, arith, to_z, of_z, w64}
use Rattle.std.proofs.lemmas.Int.{ints}
use Rattle.sk_simplify.proofs.RuleLemmas.{as_word64, fresh_sum, known_add_zero}
use Rattle.sk_simplify.proofs.rules.reduce_add.Goals as goal

pub returns-in-Some : goal.returns-in-Some
returns-in-Some c =
    let raw : to_z w64 (of_z w64 c.sum.result) ≡ c.sum.result = omega (arith, ints) in
    let small : c.args.dag.now.bits ≤ 32 = omega (arith, c.requires.width, c.requires.bits_high) in
    let x = as_word64 c.args.dag.now.bits c.in-Some.x small c.in-Some.ensures.given.0 in
    let y = as_word64 c.args.dag.now.bits c.in-Some.y small c.in-Some.ensures.given.1 in
    rw raw
    (fresh_sum c.args.bits c.args.a c.args.b c.in-Some.x c.in-Some.y _ c.requires.width c.in-Some.ensures.first c.in-Some.ensures.second (rw (x, y) at c.sum.ensures))

pub returns-then-is_number : goal.returns-then-is_number
returns-then-is_number c = known_add_zero c.args.a c.args.b c.requires.b (c.is_number.ensures.value c.if-is_number.true) c.words_of.ensures.second_range
