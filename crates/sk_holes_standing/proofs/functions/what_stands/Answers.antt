-- one more function
use Rattle.std.proofs.Common.{◌≡◌, length, arith}
use Rattle.sk_holes_standing.proofs.StandLaws.{turned}
use Rattle.sk_holes_standing.proofs.functions.what_stands.Goals as goal

pub loop-n-preserved : goal.loop-n-preserved
loop-n-preserved c =
    let l = c.loop-n in
    let s = c.in_ok-stand.ensures in
    let whole : l.table.len ≡ length l.table.items = omega (arith, l.table.ok.0) in
    turned c.args.walker.now.values.now c.args.ordinary c.args.funs.now l.table.items l.all.items l.counts.items l.met.called l.met.payments l.n l.at c.index-funs-n.result c.as_mut_slice-marks.result.now c.step.new.table c.push.new.self.items c.push-in-loop-n.new.self.items c.in_ok-stand.stand c.step.new.met.called c.step.new.met.payments c.step.new.at l.table.len c.loop-n-test.true c.index-funs-n.is l.invariant c.as_mut_slice-marks.ensures.value whole s.stands s.called s.payments s.table s.at c.in_ok-push.ensures.items c.in_ok-push-2.ensures.items
