use Rattle.sk_self_text.proofs.Joining.{sum_joins}
use Rattle.sk_self_text.proofs.sketch.push_sum_harness.Goals as goal

pub returns : goal.returns
returns c = rw (c.in_ok-extend_from_slice-4.ensures.items, c.in_ok-push_offset.ensures, c.in_ok-extend_from_slice-3.ensures.items, c.in_ok-push_factor.ensures, c.in_ok-extend_from_slice-2.ensures.items, c.in_ok-push_count.ensures, c.in_ok-extend_from_slice.ensures.items)
    (sum_joins c.args.out.now.items c.args.i)
