use Rattle.std.proofs.Common.{◌∙◌, ◌+◌, ◌-◌, ◌*◌, sym, drop, get_or, arith}
use Rattle.std.proofs.lemmas.List.{at_drop_more, at_drop_all}
use Rattle.sk_cert.specs.Words.{number_from}
use Rattle.sk_cert.proofs.Digits.{number_grows, too_large, large_enough}
use Rattle.sk_cert.proofs.parse.number_from.Goals as goal

pub returns-in_default : goal.returns-in_default
returns-in_default c =
    let step = at_drop_more (number_from c.loop-b.number) c.args.digits.now c.loop-b.b-index 0 c.loop-b-test.true in
    let grows = number_grows (10 * c.loop-b.number + (get_or c.args.digits.now c.loop-b.b-index 0 - 48)) (drop (c.loop-b.b-index + 1) c.args.digits.now) in
    too_large (number_from 0 c.args.digits.now) (omega (arith, c.loop-b.invariant.rest, step, grows, c.in_default.ensures))

pub returns-in_default-checked_add : goal.returns-in_default-checked_add
returns-in_default-checked_add c =
    let step = at_drop_more (number_from c.loop-b.number) c.args.digits.now c.loop-b.b-index 0 c.loop-b-test.true in
    let grows = number_grows (10 * c.loop-b.number + (get_or c.args.digits.now c.loop-b.b-index 0 - 48)) (drop (c.loop-b.b-index + 1) c.args.digits.now) in
    too_large (number_from 0 c.args.digits.now) (omega (arith, c.loop-b.invariant.rest, step, grows, c.in-Some.ensures, c.saturating_sub.ensures, c.in_default-checked_add.ensures))

pub returns : goal.returns
returns c = large_enough c.loop-b.number (number_from 0 c.args.digits.now) c.loop-b.invariant.small (sym (at_drop_all (number_from c.loop-b.number) c.args.digits.now c.loop-b.b-index c.loop-b-test.false) ∙ c.loop-b.invariant.rest)
