use Rattle.sk_adt_text_laws.proofs.Rules.{rules}
use Rattle.sk_adt_text_laws.proofs.laws.lowered_programs_keep_rules.Goals as goal

pub returns : goal.returns
returns c = rules
