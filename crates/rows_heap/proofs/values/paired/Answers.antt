use Rattle.std.proofs.Common.{[], ◌∷◌, ◌++◌, ap, ◌∙◌}
use Rattle.rows_heap.proofs.ValueLaws.{pair_copied}
use Rattle.rows_heap.proofs.values.paired.Goals as goal

pub returns : goal.returns
returns c = λ g heap t pair is p q.
    let one = c.in_ok-push.ensures.ok ∙ ap (λ l. l ++ c.in_ok-first.first ∷ []) c.new-parts.ensures in
    let two = c.in_ok-push-2.ensures.ok ∙ ap (λ l. l ++ c.in_ok-second.second ∷ []) one in
    pair_copied _ two c.in_ok-first.ensures c.in_ok-second.ensures is p q
