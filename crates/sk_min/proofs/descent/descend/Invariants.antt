use Rattle.sk_loop_laws.specs.Shown.{HasRoom}
use Rattle.sk_min.specs.Search.{IsBehind, IsState}
use Rattle.sk_min.proofs.descent.descend.Given as goal

abbrev pub invariant-loop-turn : goal.invariant-loop-turn
invariant-loop-turn g l = IsState l.expanded l.bounds l.state × HasRoom l.budget l.state.pairs × IsBehind l.fn.first.pairs l.state.pairs
