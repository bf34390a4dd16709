use Rattle.sk_front_laws.proofs.Whole.{texts_keep}
use Rattle.sk_front_laws.proofs.laws.texts_keep_rules.Goals as goal

pub returns : goal.returns
returns c = texts_keep
