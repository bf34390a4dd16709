use Rattle.sk_print.proofs.SameLayout.{spans_unseen}
use Rattle.sk_print.proofs.laws.spans_are_unseen.Goals as goal

pub returns : goal.returns
returns c = spans_unseen
