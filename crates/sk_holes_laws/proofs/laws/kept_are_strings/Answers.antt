use Rattle.sk_holes_laws.proofs.Strings.{kept_are_strings}
use Rattle.sk_holes_laws.proofs.laws.kept_are_strings.Goals as goal

pub returns : goal.returns
returns c = kept_are_strings
