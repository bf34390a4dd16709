use Rattle.sk_check.specs.Verdicts.{AskAbove}
use Rattle.sk_check.proofs.formulas.test_upper_formulas.Given as goal

-- the formula of each so far asks for its query
abbrev pub invariant-loop-place : goal.invariant-loop-place
invariant-loop-place l = AskAbove l.expanded l.bounds l.certificate l.choice l.place
