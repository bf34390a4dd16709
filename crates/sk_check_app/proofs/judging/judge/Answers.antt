use Rattle.sk_check_app.proofs.JudgeLaws as laws
use Rattle.sk_check_app.proofs.judging.judge.Goals as goal

pub returns-clause-not_a_line : goal.returns-clause-not_a_line
returns-clause-not_a_line g c = laws.not_a_line c.answer-ending.ensures

pub returns-clause-ends_no_line : goal.returns-clause-ends_no_line
returns-clause-ends_no_line g c = laws.ends_no_line c.answer-ending.ensures

pub returns-clause-accepted : goal.returns-clause-accepted
returns-clause-accepted g c = laws.accepted c.answer-ending.ensures

pub returns-clause-ends_checked : goal.returns-clause-ends_checked
returns-clause-ends_checked g c = laws.ends_checked c.answer-ending.ensures

pub returns-clause-ends_accepted : goal.returns-clause-ends_accepted
returns-clause-ends_accepted g c = laws.ends_accepted c.answer-ending.ensures

pub returns-clause-rejected : goal.returns-clause-rejected
returns-clause-rejected g c = laws.rejected c.answer-ending.ensures

pub returns-clause-ends_rejected : goal.returns-clause-ends_rejected
returns-clause-ends_rejected g c = laws.ends_rejected c.answer-ending.ensures

pub returns-clause-not_certificate : goal.returns-clause-not_certificate
returns-clause-not_certificate g c = laws.not_certificate c.answer-ending.ensures

pub returns-clause-ends_not_certificate : goal.returns-clause-ends_not_certificate
returns-clause-ends_not_certificate g c = laws.ends_not_certificate c.answer-ending.ensures

pub returns-clause-not_text : goal.returns-clause-not_text
returns-clause-not_text g c = laws.not_text c.answer-ending.ensures

pub returns-clause-text_place : goal.returns-clause-text_place
returns-clause-text_place g c = laws.text_place c.answer-ending.ensures

pub returns-clause-not_typed : goal.returns-clause-not_typed
returns-clause-not_typed g c = laws.not_typed c.answer-ending.ensures

pub returns-clause-type_place : goal.returns-clause-type_place
returns-clause-type_place g c = laws.type_place c.answer-ending.ensures

pub returns-clause-too_large : goal.returns-clause-too_large
returns-clause-too_large g c = laws.too_large c.answer-ending.ensures

pub returns-clause-long_input : goal.returns-clause-long_input
returns-clause-long_input g c = laws.too_long c.answer-ending.ensures

pub returns-clause-ends_long_input : goal.returns-clause-ends_long_input
returns-clause-ends_long_input g c = laws.ends_long c.answer-ending.ensures

pub returns-clause-ends_refused_input : goal.returns-clause-ends_refused_input
returns-clause-ends_refused_input g c = laws.ends_refused c.answer-ending.ensures

pub returns-clause-read_fault : goal.returns-clause-read_fault
returns-clause-read_fault g c = laws.read_fault c.answer-ending.ensures

pub returns-clause-write_fault : goal.returns-clause-write_fault
returns-clause-write_fault g c = laws.write_fault c.answer-ending.ensures

pub returns-clause-prefix : goal.returns-clause-prefix
returns-clause-prefix g c = laws.prefix c.answer-ending.ensures

pub returns-clause-kept : goal.returns-clause-kept
returns-clause-kept g c = laws.kept c.answer-ending.ensures

pub returns-clause-few : goal.returns-clause-few
returns-clause-few g c = laws.few c.answer-ending.ensures

pub returns-clause-unread : goal.returns-clause-unread
returns-clause-unread g c = laws.unread c.answer-ending.ensures
