use Rattle.std.proofs.Common.{length}
use Rattle.sk_lexer.proofs.Pieces.{Reached}
use Rattle.sk_lexer.proofs.lexer.divide.Given as goal

abbrev pub invariant-loop-rest : goal.invariant-loop-rest
invariant-loop-rest l = Reached l.text l.rest l.out l.at

abbrev pub decreases-loop-rest : goal.decreases-loop-rest
decreases-loop-rest l = length l.rest
