use Rattle.sk_loop_laws.specs.Honest.{inputs_of}
use Rattle.sk_loop.specs.Session.{Asks, KeepsClauses}
use Rattle.sk_loop.proofs.asks.ask_from.Given as goal

-- the inputs so far are asked for, and the formula only grew
abbrev pub invariant-loop-i : goal.invariant-loop-i
invariant-loop-i l = Asks l.asking l.expanded l.bounds (inputs_of l.pairs) l.limit l.i × KeepsClauses l.initial.asking.growing.encoded l.asking.growing.encoded
