use Rattle.std.proofs.Common.{◌≡◌, take}
use Rattle.sk_model.specs.Obligations.{obligations_from}
use Rattle.sk_oblig_queries.proofs.listing.obligations.Given as goal

abbrev pub invariant-loop-n : goal.invariant-loop-n
invariant-loop-n l = l.list ≡ obligations_from 0 (take l.n l.fun-items)
