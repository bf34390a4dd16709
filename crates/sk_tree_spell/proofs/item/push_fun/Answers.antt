use Rattle.std.proofs.Common.{append_assoc}
use Rattle.sk_tree_spell.proofs.item.push_fun.Goals as goal

pub returns : goal.returns
returns c = simp (c.in_ok-push_body.ensures, c.in_ok-push_implements.ensures, c.in_ok-push_signature.ensures, c.in_ok-push_front.ensures, c.as_slice.ensures, append_assoc)
