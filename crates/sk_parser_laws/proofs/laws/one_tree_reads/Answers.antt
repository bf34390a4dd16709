use Rattle.sk_parser_laws.proofs.ReadLaws.{one}
use Rattle.sk_parser_laws.proofs.laws.one_tree_reads.Goals as goal

pub returns : goal.returns
returns c = record { one = one }
