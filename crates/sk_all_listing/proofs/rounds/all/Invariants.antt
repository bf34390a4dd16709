use Rattle.std.proofs.Common.{◌≤◌, length}
use Rattle.std.specs.Prelude.{All}
use Rattle.sk_model.specs.Inputs.{IsInput}
use Rattle.sk_all_listing.specs.Rounds.{AreListed}
use Rattle.sk_all_listing.proofs.rounds.all.Given as goal

-- what is kept so far
abbrev pub invariant-loop-round : goal.invariant-loop-round
invariant-loop-round g l = record {
  are_inputs : All (IsInput l.expanded.prog l.bounds) l.inputs;
  listed : AreListed l.expanded l.bounds l.listed.items;
  few : length l.listed.items ≤ l.most;
}
