use Rattle.sk_exec.proofs.TextLaws.{one_fault_of_text, no_fault_of_text_run, one_text_run, no_cause_of_run, no_cause_of_fault}
use Rattle.sk_exec.proofs.laws.one_end_of_text.Goals as goal

pub returns : goal.returns
returns c = record { fault = one_fault_of_text; apart = no_fault_of_text_run; run = one_text_run; no_run = no_cause_of_run; no_fault = no_cause_of_fault }
