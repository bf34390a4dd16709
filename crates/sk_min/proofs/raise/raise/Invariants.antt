use Rattle.std.proofs.Common.{◌≡◌}
use Rattle.sk_loop_laws.specs.Honest.{Honest, inputs_of}
use Rattle.sk_min_laws.specs.Best.{greatest_on}
use Rattle.sk_loop_laws.specs.Shown.{HasRoom}
use Rattle.sk_min.specs.Search.{IsBehind, IsCheapest}
use Rattle.sk_min.proofs.raise.raise.Given as goal

abbrev pub invariant-loop-turn : goal.invariant-loop-turn
invariant-loop-turn g l = record {
  honest : Honest l.expanded l.bounds l.pairs;
  is : l.value ≡ greatest_on l.expanded l.bounds l.best (inputs_of l.pairs);
  behind : IsBehind l.initial.pairs l.pairs;
  cheapest : IsCheapest l.expanded l.bounds l.pairs l.best;
  room : HasRoom l.budget l.pairs;
}
