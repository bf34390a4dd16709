-- Each filling of a tagged program is tagged.
use Rattle.sk_model.specs.Expand.{expand}
use Rattle.sk_adt_tag_laws.specs.Fillings.{FillingsStayTagged}
use Rattle.sk_adt_tag_laws.proofs.Ahead.{calls_are_ahead}
use Rattle.sk_adt_tag_laws.proofs.Expanded.{expansions_stay_tagged}
use Rattle.sk_adt_tag_laws.proofs.Filled.{filled_stay_tagged}

pub fillings_stay_tagged : FillingsStayTagged
fillings_stay_tagged bounds types prog choice typed fits tagged =
    filled_stay_tagged types (expand prog bounds) choice (calls_are_ahead bounds prog typed fits) (expansions_stay_tagged bounds types prog typed fits tagged)
