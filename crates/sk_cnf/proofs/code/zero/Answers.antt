use Rattle.sk_cnf.proofs.StepLaws.{zeros_word, zeros_over}
use Rattle.sk_cnf.proofs.code.zero.Goals as goal

pub returns-clause-within : goal.returns-clause-within
returns-clause-within c = λ vars. zeros_over vars c.args.len 64

pub returns-clause-value : goal.returns-clause-value
returns-clause-value c = λ v. zeros_word v c.args.len 64
