use Rattle.std.proofs.Common.{append_assoc}
use Rattle.sk_print.proofs.item.push_implements.Goals as goal

pub returns-in_ok-push_fun_name-in-Some : goal.returns-in_ok-push_fun_name-in-Some
returns-in_ok-push_fun_name-in-Some c = simp (c.in_ok-push_fun_name-in-Some.ensures, c.in_ok-extend_from_slice-in-Some.ensures.items, c.in-Some.is, append_assoc)
