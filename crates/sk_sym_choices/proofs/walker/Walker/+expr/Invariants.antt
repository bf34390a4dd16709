use Rattle.std.proofs.Common.{◌≡◌, drop, ◌+◌, ◌++◌}
use Rattle.sk_sym_choices.specs.Walk.{exprs, fields, strings}
use Rattle.sk_sym_choices.proofs.walker.Walker.+expr.Given as goal

-- what is met from here, after what is met so far, is all that is met
abbrev pub invariant-exprs-loop-e : goal.invariant-exprs-loop-e
invariant-exprs-loop-e l = record {
  called : l.met.called ++ ((exprs (drop l.e-index l.es)).at l.at l.path).called ≡ l.fn.met.called ++ ((exprs l.es).at l.fn.at l.path).called;
  owed : l.met.owed ++ ((exprs (drop l.e-index l.es)).at l.at l.path).owed ≡ l.fn.met.owed ++ ((exprs l.es).at l.fn.at l.path).owed;
  at : l.at + (exprs (drop l.e-index l.es)).count ≡ l.fn.at + (exprs l.es).count;
}

abbrev pub invariant-fields-loop-x : goal.invariant-fields-loop-x
invariant-fields-loop-x l = record {
  called : l.met.called ++ ((fields (drop l.x-index l.given)).at l.at l.path).called ≡ l.fn.met.called ++ ((fields l.given).at l.fn.at l.path).called;
  owed : l.met.owed ++ ((fields (drop l.x-index l.given)).at l.at l.path).owed ≡ l.fn.met.owed ++ ((fields l.given).at l.fn.at l.path).owed;
  at : l.at + (fields (drop l.x-index l.given)).count ≡ l.fn.at + (fields l.given).count;
}

abbrev pub invariant-strings-loop-number : goal.invariant-strings-loop-number
invariant-strings-loop-number l = record {
  called : l.met.called ++ ((strings l.site l.number (drop l.number l.es)).at l.at l.path).called ≡ l.fn.met.called ++ ((strings l.site 0 l.es).at l.fn.at l.path).called;
  owed : l.met.owed ++ ((strings l.site l.number (drop l.number l.es)).at l.at l.path).owed ≡ l.fn.met.owed ++ ((strings l.site 0 l.es).at l.fn.at l.path).owed;
  at : l.at + (strings l.site l.number (drop l.number l.es)).count ≡ l.fn.at + (strings l.site 0 l.es).count;
}
