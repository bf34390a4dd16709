use Rattle.std.proofs.Common.{◌≡◌, drop, ◌++◌}
use Rattle.sk_prune.specs.Words.{exprs_called, fields_called}
use Rattle.sk_prune.proofs.called.+expr.Given as goal

-- what is found from here, after what is found so far, is all that is found
abbrev pub invariant-exprs_called-loop-e : goal.invariant-exprs_called-loop-e
invariant-exprs_called-loop-e l = l.found.items ++ exprs_called (drop l.e-index l.es) ≡ l.fn.found.items ++ exprs_called l.es

abbrev pub invariant-fields_called-loop-x : goal.invariant-fields_called-loop-x
invariant-fields_called-loop-x l = l.found.items ++ fields_called (drop l.x-index l.given) ≡ l.fn.found.items ++ fields_called l.given
