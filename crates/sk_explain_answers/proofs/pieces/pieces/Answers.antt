use Rattle.std.proofs.Common.{ap, sym, ◌∙◌, ◌++◌, option_map}
use Rattle.sk_explain_answers.specs.Pieces.{pieces}
use Rattle.sk_explain_answers.proofs.PieceLemmas.{piece_pushed, pieces_behind}
use Rattle.sk_explain_answers.proofs.pieces.pieces.Goals as goal

pub loop-left-preserved : goal.loop-left-preserved
loop-left-preserved c =
    let so = ap (λ left. c.loop-left.list ++ pieces_behind c.args.sign (option_map (λ rest. rest.now) left)) (sym c.in-Some.is) ∙ c.loop-left.invariant in
    piece_pushed c.args.sign c.loop-left.list c.push_piece.new.list (pieces c.args.sign c.args.bytes.now) c.in-Some.rest.now c.parts_at.result.0.now (option_map (λ back. back.now) c.parts_at.result.1) c.parts_at.ensures.front c.parts_at.ensures.back c.in_ok-push_piece.ensures so
