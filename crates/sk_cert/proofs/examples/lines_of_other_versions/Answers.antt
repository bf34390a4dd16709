use Rattle.sk_cert.proofs.Computed.{line_of_version_three, end_of_version_seven}
use Rattle.sk_cert.proofs.examples.lines_of_other_versions.Goals as goal

pub returns : goal.returns
returns c = record { three = line_of_version_three; seven = end_of_version_seven }
