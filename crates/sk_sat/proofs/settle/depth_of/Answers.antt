use Rattle.sk_sat.proofs.SettleLemmas.{conflict_depth}
use Rattle.sk_sat.proofs.settle.depth_of.Goals as goal

pub returns : goal.returns
returns c =
    let most = rw (c.get.ensures, c.deref.ensures.value) at c.deepest_packed.ensures.most in
    let some = rw (c.get.ensures, c.deref.ensures.value) at c.deepest_packed.ensures.some in
    conflict_depth _ _ _ _ c.requires.trail c.requires.conflict most some
