use Rattle.sk_cert.proofs.Departure.{unique, departs_once, read_or_departs}
use Rattle.sk_cert.proofs.law.certificates_are_unique.Goals as goal

pub returns : goal.returns
returns c = record { certificates = unique; departures = departs_once; whole = read_or_departs }
