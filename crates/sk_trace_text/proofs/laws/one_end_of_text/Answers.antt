use Rattle.sk_trace_text.proofs.TextLaws.{one_fault_of_text, no_fault_of_text_trace, one_text_trace, no_cause_of_trace, no_cause_of_fault}
use Rattle.sk_trace_text.proofs.laws.one_end_of_text.Goals as goal

pub returns : goal.returns
returns c = record { fault = one_fault_of_text; apart = no_fault_of_text_trace; trace = one_text_trace; no_trace = no_cause_of_trace; no_fault = no_cause_of_fault }
