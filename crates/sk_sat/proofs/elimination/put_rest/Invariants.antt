use Rattle.std.proofs.Common.{take}
use Rattle.sk_sat.specs.Elimination.{IsRest, PutsOut}
use Rattle.sk_sat.proofs.elimination.put_rest.Given as goal

abbrev pub invariant-loop-packed : goal.invariant-loop-packed
invariant-loop-packed l = record {
  put : PutsOut l.clause l.fn.out.items l.out.items;
  rest : IsRest (take l.packed-index l.clause) l.p l.out.items;
}
