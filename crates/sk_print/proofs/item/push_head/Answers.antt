use Rattle.std.proofs.Common.{append_assoc}
use Rattle.sk_print.proofs.item.push_head.Goals as goal

pub returns : goal.returns
returns c = simp (c.in_ok-extend_from_slice-2.ensures.items, c.in_ok-push_implements.ensures, c.in_ok-extend_from_slice.ensures.items, c.in_ok-push_params.ensures, c.in_ok-push_front.ensures, c.as_slice.ensures, append_assoc)
