use Rattle.sk_cert_layouts.proofs.Lines.{same_lines}
use Rattle.sk_cert_layouts.proofs.same_lines.Goals as goal

pub returns : goal.returns
returns c = same_lines
