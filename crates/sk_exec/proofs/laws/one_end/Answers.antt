use Rattle.sk_exec.proofs.Ends.{one_fault, no_fault_of_run, one_run, an_end}
use Rattle.sk_exec.proofs.laws.one_end.Goals as goal

pub returns : goal.returns
returns c = record { fault = one_fault; apart = no_fault_of_run; run = one_run; some = an_end }
