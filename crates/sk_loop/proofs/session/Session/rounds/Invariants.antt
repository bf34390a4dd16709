use Rattle.sk_loop_laws.specs.Honest.{Honest}
use Rattle.sk_loop_laws.specs.Shown.{HasRoom}
use Rattle.sk_loop.specs.Rounds.{Keeps, Steps}
use Rattle.sk_loop.specs.Session.{KeepsClauses}
use Rattle.sk_loop.proofs.session.Session.rounds.Given as goal

-- what the rounds so far left, with room for a further one
abbrev pub invariant-loop-turn : goal.invariant-loop-turn
invariant-loop-turn g l =
    Steps l.expanded l.bounds l.limit l.initial.pairs l.pairs l.self
    × Honest l.expanded l.bounds l.pairs
    × HasRoom l.budget l.pairs
    × Keeps l.initial.pairs l.pairs
    × KeepsClauses l.initial.self.asking.growing.encoded l.self.asking.growing.encoded
