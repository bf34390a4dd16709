use Rattle.std.proofs.Common.{ap, ◌∙◌, ◌++◌, [], ◌∷◌}
use Rattle.sk_gates.specs.Words.{bits_word}
use Rattle.sk_gates.proofs.DivisionLaws.{word_cons}
use Rattle.sk_gates.proofs.quotient.with_lowest.Goals as goal

pub returns-clause-value : goal.returns-clause-value
returns-clause-value c = λ v.
    ap (bits_word v) (c.in_ok-append.ensures ∙ ap (λ z. z ++ c.in_ok-more.more) (c.in_ok-push.ensures.ok ∙ ap (λ z. z ++ c.args.lowest ∷ []) c.new-r.ensures) ∙ ap (λ z. c.args.lowest ∷ z) c.in_ok-more.ensures)
    ∙ word_cons v c.args.lowest c.args.others.now
