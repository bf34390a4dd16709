use Rattle.std.proofs.Common.{◌∙◌, sym}
use Rattle.sk_stack.specs.Limits.{digits_from}
use Rattle.sk_stack.proofs.Digits.{digit_too_many}
use Rattle.sk_stack.proofs.limit.number_of.Goals as goal

pub returns-in_default-one_more : goal.returns-in_default-one_more
returns-in_default-one_more c =
    digit_too_many c.loop-rest.number (digits_from 0 c.args.digits.now) c.loop-rest.rest.now c.in-len1-up.len_at_least (sym c.is_ascii_digit.ensures.value ∙ c.if-not-is_ascii_digit.false) (sym c.in_default-one_more.is ∙ c.one_more.ensures) c.loop-rest.invariant.rest
