use Rattle.std.proofs.Common.{refl}
use Rattle.std.specs.List.{list_all}
use Rattle.sk_tree.specs.Shapes.{is_line_byte, slash_of}
use Rattle.sk_lexer.proofs.Fronts.{reaches_run, longest_by_test, second_slash}
use Rattle.sk_lexer.proofs.piece.slash_before.Goals as goal

pub returns-then-second-eq47-clause-found : goal.returns-then-second-eq47-clause-found
returns-then-second-eq47-clause-found c =
    longest_by_test slash_of (list_all is_line_byte) _ _ _ _ _ refl (second_slash _ c.if-second-eq47.true)
    (reaches_run _ _ _ c.line_len-len.ensures.within c.line_len-len.ensures.run)
