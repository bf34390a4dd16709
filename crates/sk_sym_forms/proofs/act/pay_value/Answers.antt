use Rattle.sk_arr.proofs.Standing.{int_there}
use Rattle.sk_sym_forms.proofs.Acts.{word_executes, no_word_pays}
use Rattle.sk_sym_forms.proofs.act.pay_value.Goals as goal

pub pay-requires-clause-amount : goal.pay-requires-clause-amount
pay-requires-clause-amount c = int_there c.requires.a c.in-Int.is

pub returns-clause-executes : goal.returns-clause-executes
returns-clause-executes c = word_executes c.in-Int.is c.in_ok-pay.ensures.pays

pub returns-in_default-clause-executes : goal.returns-in_default-clause-executes
returns-in_default-clause-executes c = no_word_pays c.args.span c.in_ok-fail_now.ensures.fails c.in_default.not-Int
