use Rattle.std.proofs.Common.{arith, ◌∙◌, ◌+◌, ◌-◌, ◌*◌, sym, drop, get_or}
use Rattle.std.proofs.lemmas.List.{at_drop_more, at_drop_all}
use Rattle.sk_tree.specs.Tokens.{number_from, number_of}
use Rattle.sk_exec_values.proofs.Numbers.{number_grows, number_read, number_too_large}
use Rattle.sk_exec_values.proofs.number.number_below.Goals as goal

pub returns-then-number-limit-clause-value : goal.returns-then-number-limit-clause-value
unfolding number_of
returns-then-number-limit-clause-value c =
    let step = at_drop_more (number_from c.loop-b.number) c.args.digits.now c.loop-b.b-index 0 c.loop-b-test.true in
    number_too_large c.args.digits.now c.args.limit (omega (
      arith,
      c.loop-b.invariant.rest,
      step,
      c.saturating_sub.ensures,
      number_grows (10 * c.loop-b.number + (get_or c.args.digits.now c.loop-b.b-index 0 - 48)) (drop (c.loop-b.b-index + 1) c.args.digits.now),
    ))

pub returns-clause-value : goal.returns-clause-value
returns-clause-value c = number_read _ _ _ c.loop-b.invariant.within (sym (at_drop_all (number_from c.loop-b.number) c.args.digits.now c.loop-b.b-index c.loop-b-test.false) ∙ c.loop-b.invariant.rest)
