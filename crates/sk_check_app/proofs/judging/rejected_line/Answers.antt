use Rattle.sk_check_app.proofs.WordLaws.{values_line, inputs_line, upper_line, lower_line, text_line, formula_line}
use Rattle.sk_check_app.proofs.judging.rejected_line.Goals as goal

pub returns-in-Values : goal.returns-in-Values
returns-in-Values c = rw c.in-Values.is values_line

pub returns-in-Inputs : goal.returns-in-Inputs
returns-in-Inputs c = rw c.in-Inputs.is inputs_line

pub returns-in-Upper : goal.returns-in-Upper
returns-in-Upper c = rw c.in-Upper.is upper_line

pub returns-in-Lower : goal.returns-in-Lower
returns-in-Lower c = rw c.in-Lower.is lower_line

pub returns-in-Text : goal.returns-in-Text
returns-in-Text c = rw c.in-Text.is text_line

pub returns-in-Formula : goal.returns-in-Formula
returns-in-Formula c = rw c.in-Formula.is formula_line
