use Rattle.sk_adt_text.proofs.PlainLaws.{only_lowering, reason_taken, span_taken, text_taken}
use Rattle.sk_adt_text.proofs.Keeping.{all_kept}
use Rattle.sk_adt_text.proofs.lowering.lowered_text.Goals as goal

pub returns-clause-kept : goal.returns-clause-kept
returns-clause-kept c = all_kept c.args.set.now c.args.text.now c.lowered.result c.requires.set c.lowered.ensures.found

pub returns-clause-only : goal.returns-clause-only
returns-clause-only c = only_lowering c.args.set.now c.args.text.now c.lowered.result c.lowered.ensures.found c.lowered.ensures.fault

pub returns-clause-not_lowered : goal.returns-clause-not_lowered
returns-clause-not_lowered c = reason_taken c.args.set.now c.args.text.now c.lowered.result c.lowered.ensures.found c.lowered.ensures.fault

pub returns-clause-not_tagged : goal.returns-clause-not_tagged
returns-clause-not_tagged c = span_taken c.args.set.now c.args.text.now c.lowered.result c.lowered.ensures.found c.lowered.ensures.fault

pub returns-clause-plain : goal.returns-clause-plain
returns-clause-plain c = text_taken c.args.set.now c.args.text.now c.lowered.result c.lowered.ensures.found c.lowered.ensures.fault
