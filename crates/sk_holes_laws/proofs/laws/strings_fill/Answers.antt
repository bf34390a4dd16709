use Rattle.sk_holes_laws.proofs.Strings.{strings_fill}
use Rattle.sk_holes_laws.proofs.laws.strings_fill.Goals as goal

pub returns : goal.returns
returns c = strings_fill
