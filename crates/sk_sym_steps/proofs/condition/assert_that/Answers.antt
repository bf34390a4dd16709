use Rattle.sk_arr.proofs.Standing.{bit_there}
use Rattle.sk_sym_state.proofs.Standing.{StateStands-keeps}
use Rattle.sk_sym_steps.proofs.Conditions.{asserts}
use Rattle.sk_sym_steps.proofs.Failing.{no_bit_asserts}
use Rattle.sk_sym_steps.proofs.condition.assert_that.Goals as goal

pub not-requires : goal.not-requires
not-requires c = bit_there c.requires.a c.in-Bit.is

pub fail_where-requires-clause-stands : goal.fail_where-requires-clause-stands
fail_where-requires-clause-stands c = StateStands-keeps c.in_ok-fails.ensures.keeps c.requires.stands

pub returns-clause-executes : goal.returns-clause-executes
returns-clause-executes c = asserts c.in-Bit.is c.requires.stands c.in_ok-fails.ensures.keeps c.in_ok-fails.ensures.value c.in_ok-fail_where.ensures.fails c.args.span

pub returns-in_default-clause-executes : goal.returns-in_default-clause-executes
returns-in_default-clause-executes c = no_bit_asserts c.args.span c.in_ok-fail_now.ensures.fails c.in_default.not-Bit
