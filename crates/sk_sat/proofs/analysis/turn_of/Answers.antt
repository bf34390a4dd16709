use Rattle.sk_sat.proofs.ResolveLemmas.{pending_begins}
use Rattle.sk_sat.proofs.analysis.turn_of.Goals as goal

pub resolve-requires-clause-pending : goal.resolve-requires-clause-pending
resolve-requires-clause-pending c =
    let absorbs = rw (c.clear.ensures.items, c.get-clause.ensures) at c.in_ok-count.ensures.absorbs in
    pending_begins _ _ _ _ _ _ c.requires.trail c.args.conflict c.args.marks.now _ _ c.requires.conflict c.requires.marks.none absorbs
