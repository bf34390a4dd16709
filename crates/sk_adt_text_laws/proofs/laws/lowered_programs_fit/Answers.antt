use Rattle.sk_adt_text_laws.proofs.Shown.{fits}
use Rattle.sk_adt_text_laws.proofs.laws.lowered_programs_fit.Goals as goal

pub returns : goal.returns
returns c = fits
