use Rattle.std.proofs.Common.{refl}
use Rattle.sk_sums.proofs.SumLemmas.{SumsTo-single}
use Rattle.sk_sums.proofs.spread.spread.Goals as goal

pub loop-init : goal.loop-init
loop-init c = SumsTo-single c.args.dag.now _ c.args.top.index c.requires refl c.in_ok-vec.ensures.items
