use Rattle.std.proofs.Common.{length, take, refl}
use Rattle.std.proofs.lemmas.List.{take_at}
use Rattle.sk_sat.proofs.store.append.Goals as goal

pub returns-in_err-new-clause-front : goal.returns-in_err-new-clause-front
returns-in_err-new-clause-front c =
    rw c.loop-l.invariant (take_at c.args.flat.now.items (take c.loop-l.l-index c.args.clause.now) (length c.args.flat.now.items) refl)
