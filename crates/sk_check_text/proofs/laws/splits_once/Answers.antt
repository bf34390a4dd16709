use Rattle.sk_check_text.proofs.FirstMark.{splits_once, each_splits}
use Rattle.sk_check_text.proofs.laws.splits_once.Goals as goal

pub returns : goal.returns
returns c = record { once = splits_once; each = each_splits }
