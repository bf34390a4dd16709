use Rattle.sk_prune_text.proofs.TextLaws.{one_text, open_or_pruned, no_cause_of_open, no_cause_of_pruned}
use Rattle.sk_prune_text.proofs.laws.one_end.Goals as goal

pub returns : goal.returns
returns c = record { text = one_text; apart = open_or_pruned; no_cause_of_open = no_cause_of_open; no_cause_of_pruned = no_cause_of_pruned }
