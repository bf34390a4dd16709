use Rattle.sk_cert.proofs.Written.{three_more}
use Rattle.sk_cert.proofs.writer.push_choice.Goals as goal

pub returns : goal.returns
returns c = three_more _ _ _ _ _ _ _ c.in_ok-push_number_line.ensures c.in_ok-push_number_line-2.ensures c.in_ok-push_holes.ensures
