use Rattle.std.proofs.Common.{◌∙◌}
use Rattle.sk_arr.proofs.Choices.{choice_first, choice_second}
use Rattle.sk_arr.proofs.choice.choose.Goals as goal

pub returns-in_ok-r-in-Some-true-clause-choice : goal.returns-in_ok-r-in-Some-true-clause-choice
returns-in_ok-r-in-Some-true-clause-choice c = choice_first (λ h more e. c.in-Some-true.ensures.value h more e ∙ c.in-Some-true.field-0-test) (c.in_ok-r-in-Some-true.ensures c.args.dag.now c.requires.a)

pub returns-in_ok-r-in-Some-false-clause-choice : goal.returns-in_ok-r-in-Some-false-clause-choice
returns-in_ok-r-in-Some-false-clause-choice c = choice_second (λ h more e. c.in-Some-false.ensures.value h more e ∙ c.in-Some-false.field-0-test) c.requires.alike (c.in_ok-r-in-Some-false.ensures c.args.dag.now c.requires.b)
