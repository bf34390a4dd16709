use Rattle.sk_app.proofs.EffectLaws as laws
use Rattle.sk_app.proofs.HeadlineLaws.{headline}
use Rattle.sk_app.proofs.ListingsLaws.{listings}
use Rattle.sk_app.proofs.KeptLaws.{kept_types, kept_functions}
use Rattle.sk_app.proofs.command.run.Goals as goal

pub returns-clause-headline : goal.returns-clause-headline
returns-clause-headline g c = headline c.answer-ending.ensures

pub returns-clause-not_a_line : goal.returns-clause-not_a_line
returns-clause-not_a_line g c = laws.not_a_line c.answer-ending.ensures

pub returns-clause-completed : goal.returns-clause-completed
returns-clause-completed g c = laws.completed c.answer-ending.ensures

pub returns-clause-none : goal.returns-clause-none
returns-clause-none g c = laws.none c.answer-ending.ensures

pub returns-clause-spent_rounds : goal.returns-clause-spent_rounds
returns-clause-spent_rounds g c = laws.spent_rounds c.answer-ending.ensures

pub returns-clause-spent_conflicts : goal.returns-clause-spent_conflicts
returns-clause-spent_conflicts g c = laws.spent_conflicts c.answer-ending.ensures

pub returns-clause-help : goal.returns-clause-help
returns-clause-help g c = laws.help c.answer-ending.ensures

pub returns-clause-version : goal.returns-clause-version
returns-clause-version g c = laws.version c.answer-ending.ensures

pub returns-clause-not_text : goal.returns-clause-not_text
returns-clause-not_text g c = laws.not_text c.answer-ending.ensures

pub returns-clause-not_typed : goal.returns-clause-not_typed
returns-clause-not_typed g c = laws.not_typed c.answer-ending.ensures

pub returns-clause-text_place : goal.returns-clause-text_place
returns-clause-text_place g c = laws.text_place c.answer-ending.ensures

pub returns-clause-type_place : goal.returns-clause-type_place
returns-clause-type_place g c = laws.type_place c.answer-ending.ensures

pub returns-clause-too_large : goal.returns-clause-too_large
returns-clause-too_large g c = laws.too_large c.answer-ending.ensures

pub returns-clause-too_long : goal.returns-clause-too_long
returns-clause-too_long g c = laws.too_long c.answer-ending.ensures

pub returns-clause-read_fault : goal.returns-clause-read_fault
returns-clause-read_fault g c = laws.read_fault c.answer-ending.ensures

pub returns-clause-write_fault : goal.returns-clause-write_fault
returns-clause-write_fault g c = laws.write_fault c.answer-ending.ensures

pub returns-clause-prefix : goal.returns-clause-prefix
returns-clause-prefix g c = laws.prefix c.answer-ending.ensures

pub returns-clause-prefix_help : goal.returns-clause-prefix_help
returns-clause-prefix_help g c = laws.prefix_help c.answer-ending.ensures

pub returns-clause-prefix_version : goal.returns-clause-prefix_version
returns-clause-prefix_version g c = laws.prefix_version c.answer-ending.ensures

pub returns-clause-kept : goal.returns-clause-kept
returns-clause-kept g c = laws.kept c.answer-ending.ensures

pub returns-clause-few : goal.returns-clause-few
returns-clause-few g c = laws.few c.answer-ending.ensures

pub returns-clause-unread : goal.returns-clause-unread
returns-clause-unread g c = laws.unread c.answer-ending.ensures

pub returns-clause-ends_no_line : goal.returns-clause-ends_no_line
returns-clause-ends_no_line g c = laws.ends_no_line c.answer-ending.ensures

pub returns-clause-ends_help : goal.returns-clause-ends_help
returns-clause-ends_help g c = laws.ends_help c.answer-ending.ensures

pub returns-clause-ends_version : goal.returns-clause-ends_version
returns-clause-ends_version g c = laws.ends_version c.answer-ending.ensures

pub returns-clause-ends_built : goal.returns-clause-ends_built
returns-clause-ends_built g c = laws.ends_built c.answer-ending.ensures

pub returns-clause-ends_faulty : goal.returns-clause-ends_faulty
returns-clause-ends_faulty g c = laws.ends_faulty c.answer-ending.ensures

pub returns-clause-ends_untyped : goal.returns-clause-ends_untyped
returns-clause-ends_untyped g c = laws.ends_untyped c.answer-ending.ensures

pub returns-clause-ends_large : goal.returns-clause-ends_large
returns-clause-ends_large g c = laws.ends_large c.answer-ending.ensures

pub returns-clause-ends_long : goal.returns-clause-ends_long
returns-clause-ends_long g c = laws.ends_long c.answer-ending.ensures

pub returns-clause-exec_done : goal.returns-clause-exec_done
returns-clause-exec_done g c = laws.exec_done c.answer-ending.ensures

pub returns-clause-exec_failed : goal.returns-clause-exec_failed
returns-clause-exec_failed g c = laws.exec_failed c.answer-ending.ensures

pub returns-clause-exec_skipped : goal.returns-clause-exec_skipped
returns-clause-exec_skipped g c = laws.exec_skipped c.answer-ending.ensures

pub returns-clause-not_run : goal.returns-clause-not_run
returns-clause-not_run g c = laws.not_run c.answer-ending.ensures

pub returns-clause-not_filled : goal.returns-clause-not_filled
returns-clause-not_filled g c = laws.not_filled c.answer-ending.ensures

pub returns-clause-ends_copies : goal.returns-clause-ends_copies
returns-clause-ends_copies g c = laws.ends_copies c.answer-ending.ensures

pub returns-clause-ends_run : goal.returns-clause-ends_run
returns-clause-ends_run g c = laws.ends_run c.answer-ending.ensures

pub returns-clause-ends_not_run : goal.returns-clause-ends_not_run
returns-clause-ends_not_run g c = laws.ends_not_run c.answer-ending.ensures

pub returns-clause-pruned : goal.returns-clause-pruned
returns-clause-pruned g c = laws.pruned c.answer-ending.ensures

pub returns-clause-kept_functions : goal.returns-clause-kept_functions
returns-clause-kept_functions g c = kept_functions c.answer-ending.ensures

pub returns-clause-ends_pruned : goal.returns-clause-ends_pruned
returns-clause-ends_pruned g c = laws.ends_pruned c.answer-ending.ensures

pub returns-clause-ends_open : goal.returns-clause-ends_open
returns-clause-ends_open g c = laws.ends_open c.answer-ending.ensures

pub returns-clause-lowered : goal.returns-clause-lowered
returns-clause-lowered g c = laws.lowered c.answer-ending.ensures

pub returns-clause-kept_types : goal.returns-clause-kept_types
returns-clause-kept_types g c = kept_types c.answer-ending.ensures

pub returns-clause-not_lowered : goal.returns-clause-not_lowered
returns-clause-not_lowered g c = laws.not_lowered c.answer-ending.ensures

pub returns-clause-not_tagged : goal.returns-clause-not_tagged
returns-clause-not_tagged g c = laws.not_tagged c.answer-ending.ensures

pub returns-clause-ends_lowered : goal.returns-clause-ends_lowered
returns-clause-ends_lowered g c = laws.ends_lowered c.answer-ending.ensures

pub returns-clause-ends_not_lowered : goal.returns-clause-ends_not_lowered
returns-clause-ends_not_lowered g c = laws.ends_not_lowered c.answer-ending.ensures

pub returns-clause-ends_not_tagged : goal.returns-clause-ends_not_tagged
returns-clause-ends_not_tagged g c = laws.ends_not_tagged c.answer-ending.ensures

pub returns-clause-ends_refused : goal.returns-clause-ends_refused
returns-clause-ends_refused g c = laws.ends_refused c.answer-ending.ensures

pub returns-clause-listings : goal.returns-clause-listings
returns-clause-listings g c = listings c.answer-ending.ensures

pub returns-clause-listed : goal.returns-clause-listed
returns-clause-listed g c = laws.listed c.answer-ending.ensures

pub returns-clause-explained : goal.returns-clause-explained
returns-clause-explained g c = laws.explained c.answer-ending.ensures

pub returns-clause-met : goal.returns-clause-met
returns-clause-met g c = laws.met c.answer-ending.ensures

pub returns-clause-ends_listed : goal.returns-clause-ends_listed
returns-clause-ends_listed g c = laws.ends_listed c.answer-ending.ensures

pub returns-clause-ends_explained : goal.returns-clause-ends_explained
returns-clause-ends_explained g c = laws.ends_explained c.answer-ending.ensures

pub returns-clause-ends_met : goal.returns-clause-ends_met
returns-clause-ends_met g c = laws.ends_met c.answer-ending.ensures

pub returns-clause-accepted : goal.returns-clause-accepted
returns-clause-accepted g c = laws.accepted c.answer-ending.ensures

pub returns-clause-ends_checked : goal.returns-clause-ends_checked
returns-clause-ends_checked g c = laws.ends_checked c.answer-ending.ensures

pub returns-clause-ends_accepted : goal.returns-clause-ends_accepted
returns-clause-ends_accepted g c = laws.ends_accepted c.answer-ending.ensures

pub returns-clause-rejected : goal.returns-clause-rejected
returns-clause-rejected g c = laws.rejected c.answer-ending.ensures

pub returns-clause-ends_rejected : goal.returns-clause-ends_rejected
returns-clause-ends_rejected g c = laws.ends_rejected c.answer-ending.ensures

pub returns-clause-not_certificate : goal.returns-clause-not_certificate
returns-clause-not_certificate g c = laws.not_certificate c.answer-ending.ensures

pub returns-clause-ends_not_certificate : goal.returns-clause-ends_not_certificate
returns-clause-ends_not_certificate g c = laws.ends_not_certificate c.answer-ending.ensures

pub returns-clause-long_input : goal.returns-clause-long_input
returns-clause-long_input g c = laws.long_input c.answer-ending.ensures

pub returns-clause-ends_long_input : goal.returns-clause-ends_long_input
returns-clause-ends_long_input g c = laws.ends_long_input c.answer-ending.ensures

pub returns-clause-ends_refused_input : goal.returns-clause-ends_refused_input
returns-clause-ends_refused_input g c = laws.ends_refused_input c.answer-ending.ensures

pub returns-clause-ends_self : goal.returns-clause-ends_self
returns-clause-ends_self g c = laws.ends_self c.answer-ending.ensures

pub returns-clause-prefix_self : goal.returns-clause-prefix_self
returns-clause-prefix_self g c = laws.prefix_self c.answer-ending.ensures
