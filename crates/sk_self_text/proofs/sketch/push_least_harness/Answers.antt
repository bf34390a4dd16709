use Rattle.sk_self_text.proofs.Joining.{least_joins}
use Rattle.sk_self_text.proofs.sketch.push_least_harness.Goals as goal

pub returns : goal.returns
returns c = rw (c.in_ok-extend_from_slice-2.ensures.items, c.in_ok-push_count.ensures, c.in_ok-extend_from_slice.ensures.items)
    (least_joins c.args.out.now.items c.args.n)
