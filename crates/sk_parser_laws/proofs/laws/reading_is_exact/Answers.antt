use Rattle.sk_parser_laws.proofs.ReadLaws.{exact}
use Rattle.sk_parser_laws.proofs.laws.reading_is_exact.Goals as goal

pub returns : goal.returns
returns c = record { exact = exact }
