use Rattle.std.proofs.Common.{◌≡◌, ◌++◌, take}
use Rattle.sk_all_exclusions.specs.Exclusions.{HasNames, exclusions}
use Rattle.sk_all_exclusions.proofs.excluding.exclude.Given as goal

-- the clauses of those listed so far stand behind the old ones
abbrev pub invariant-loop-i : goal.invariant-loop-i
invariant-loop-i l = record {
  clauses : l.encoded.clauses.clauses ≡ l.fn.encoded.clauses.clauses ++ exclusions l.expanded l.fn.encoded.names (take l.i l.listed);
  vars : l.encoded.clauses.vars ≡ l.fn.encoded.clauses.vars;
  names : l.encoded.names ≡ l.fn.encoded.names;
  has : HasNames l.encoded l.expanded;
}
