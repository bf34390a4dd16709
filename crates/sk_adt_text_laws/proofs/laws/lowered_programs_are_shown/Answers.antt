use Rattle.sk_adt_text_laws.proofs.Shown.{shown}
use Rattle.sk_adt_text_laws.proofs.laws.lowered_programs_are_shown.Goals as goal

pub returns : goal.returns
returns c = shown
