use Rattle.std.proofs.Common.{◌∙◌, sym}
use Rattle.std.specs.Option.{option_map}
use Rattle.sk_cert.specs.Words.{pieces}
use Rattle.sk_cert.proofs.Gathered.{behind_yes, behind_no}
use Rattle.sk_cert.proofs.parse.behind_first.Goals as goal

pub returns-then-are_mark : goal.returns-then-are_mark
returns-then-are_mark c = behind_yes c.args.kind.now c.args.first.now c.first_piece.result.0.now c.args.rest.now (pieces 32 (option_map (λ x. x.now) c.first_piece.result.1)) c.first_piece.ensures.pieces (sym c.are_mark.ensures ∙ c.if-are_mark.true)

pub returns-else-are_mark : goal.returns-else-are_mark
returns-else-are_mark c = behind_no c.args.kind.now c.args.first.now c.first_piece.result.0.now c.args.rest.now (pieces 32 (option_map (λ x. x.now) c.first_piece.result.1)) c.first_piece.ensures.pieces (sym c.are_mark.ensures ∙ c.if-are_mark.false)
