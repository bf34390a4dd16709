use Rattle.std.proofs.Common.{◌<◌, length, arith}
use Rattle.sk_cnf.specs.declared.leaf.Leaf.TheVariants.{Hole}
use Rattle.sk_cnf.proofs.DistinctLaws.{distinct_more, not_false}
use Rattle.sk_cnf.proofs.leaves.are_distinct.Goals as goal

pub loop-i-preserved : goal.loop-i-preserved
loop-i-preserved c =
    let e = c.in_ok-is_new.ensures in
    let within : c.loop-i.i < length c.args.leaves.now = omega arith in
    let m = distinct_more c.args.leaves.now c.loop-i.seen.keys c.insert_full.new.self.keys c.loop-i.i (Hole 0 0) within c.loop-i.invariant.keys c.loop-i.invariant.apart (not_false _ _ e.added c.if-not-is_new.false) e.keys in
    record { keys = m.0; apart = m.1 }
