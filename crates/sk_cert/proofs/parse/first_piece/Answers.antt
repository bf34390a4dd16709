use Rattle.std.proofs.Common.{sym}
use Rattle.sk_cert.proofs.Gathered.{piece_first, piece_last}
use Rattle.sk_cert.proofs.parse.first_piece.Goals as goal

pub returns-in-Some-clause-pieces : goal.returns-in-Some-clause-pieces
returns-in-Some-clause-pieces c = piece_first c.args.mark c.in-Some.at c.before-in-Some.result.now c.after.result.now c.args.text.now c.before-in-Some.ensures c.after.ensures c.in-Some.ensures.place

pub returns-in-None-clause-pieces : goal.returns-in-None-clause-pieces
returns-in-None-clause-pieces c = piece_last c.args.mark c.args.text.now (sym c.in-None.ensures.place)
