use Rattle.std.proofs.Common.{◌≡◌, ◌++◌, take}
use Rattle.sk_sat.proofs.store.append.Given as goal

abbrev pub invariant-loop-l : goal.invariant-loop-l
invariant-loop-l l = l.flat.items ≡ l.fn.flat.items ++ take l.l-index l.clause
