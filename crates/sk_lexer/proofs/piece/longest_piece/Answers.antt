use Rattle.sk_lexer.proofs.Fronts.{no_piece_in_nothing}
use Rattle.sk_lexer.proofs.piece.longest_piece.Goals as goal

pub returns-in-None-clause-none : goal.returns-in-None-clause-none
returns-in-None-clause-none c = no_piece_in_nothing _ c.in-None.ensures.cases
