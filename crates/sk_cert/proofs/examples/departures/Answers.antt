use Rattle.sk_cert.proofs.Computed.{two_lines_begin, departs_by_zero, departs_behind_last, fault_of_zero, fault_of_version}
use Rattle.sk_cert.proofs.examples.departures.Goals as goal

pub returns : goal.returns
returns c = record { begins = two_lines_begin; zero = departs_by_zero; behind = departs_behind_last; fault_of_zero = fault_of_zero; fault_of_version = fault_of_version }
