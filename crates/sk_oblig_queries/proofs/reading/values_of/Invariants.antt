use Rattle.std.proofs.Common.{◌≡◌, map, take}
use Rattle.sk_clause.specs.Meaning.{valuation}
use Rattle.sk_oblig_queries.proofs.reading.values_of.Given as goal

abbrev pub invariant-loop-name : goal.invariant-loop-name
invariant-loop-name l = l.bits ≡ map (valuation l.found) (take l.name-index l.names)
