use Rattle.sk_expand_laws.proofs.Fillings.{fillings_keep}
use Rattle.sk_expand_laws.proofs.laws.fillings_keep_rules.Goals as goal

pub returns : goal.returns
returns c = fillings_keep
