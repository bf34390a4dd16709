use Rattle.sk_prune_laws.proofs.Typed.{pruned_keep_rules}
use Rattle.sk_prune_laws.proofs.pruned_programs_keep_rules.Goals as goal

pub returns : goal.returns
returns c = pruned_keep_rules
