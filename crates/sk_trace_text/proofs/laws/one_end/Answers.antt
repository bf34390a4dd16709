use Rattle.sk_trace_text.proofs.Ends.{one_fault, no_fault_of_trace, one_trace, an_end}
use Rattle.sk_trace_text.proofs.laws.one_end.Goals as goal

pub returns : goal.returns
returns c = record { fault = one_fault; apart = no_fault_of_trace; trace = one_trace; some = an_end }
