use Rattle.sk_parser_laws.proofs.ReadLaws.{told}
use Rattle.sk_parser_laws.proofs.laws.faults_are_told.Goals as goal

pub returns : goal.returns
returns c = record { told = told }
