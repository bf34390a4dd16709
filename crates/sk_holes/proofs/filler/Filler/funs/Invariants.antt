use Rattle.std.proofs.Common.{◌≡◌, drop, ◌++◌, ◌+◌, length}
use Rattle.std.specs.Prelude.{map}
use Rattle.sk_model.specs.Parts.{total}
use Rattle.sk_model.specs.Fill.{fill_funs}
use Rattle.sk_holes.specs.Filling.{number}
use Rattle.sk_holes_standing.specs.Functions.{minimize_paid, sites_in}
use Rattle.sk_holes.proofs.filler.Filler.funs.Given as goal

-- what is filled so far, and the functions that are left
abbrev pub invariant-loop-n : goal.invariant-loop-n
invariant-loop-n l = record {
  filled : l.filled.items ++ fill_funs l.self.values.now (number l.self) (map minimize_paid l.paid) (drop l.n l.stood.stands.items) (drop l.n l.funs) l.at ≡ fill_funs l.self.values.now (number l.self) (map minimize_paid l.paid) l.stood.stands.items l.funs 0;
  stands : length (drop l.n l.stood.stands.items) ≡ length (drop l.n l.funs);
  counts : drop l.n l.stood.counts.items ≡ map (sites_in l.self.values.now) (drop l.n l.funs);
  at : l.at + total (map (sites_in l.self.values.now) (drop l.n l.funs)) ≡ total l.stood.counts.items;
}
