use Rattle.sk_adt_tag_laws.proofs.Filled.{filled_stay_tagged}
use Rattle.sk_adt_tag_laws.proofs.laws.filled_stay_tagged.Goals as goal

pub returns : goal.returns
returns c = filled_stay_tagged
