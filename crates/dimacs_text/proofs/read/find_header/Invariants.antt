use Rattle.std.proofs.Common.{◌≡◌, [], take, map}
use Rattle.std.specs.Prelude.{All}
use Rattle.dimacs_text.specs.Formula.{said}
use Rattle.dimacs_text.proofs.read.find_header.Given as goal

abbrev pub invariant-loop-i : goal.invariant-loop-i
invariant-loop-i l = All (λ line. said line ≡ []) (take l.i (map (λ x. x.now) l.lines))
