use Rattle.sk_model.proofs.Complete.{filling_is_filled}
use Rattle.sk_model.proofs.running_laws.fillings_are_filled.Goals as goal

pub returns : goal.returns
returns c = filling_is_filled
