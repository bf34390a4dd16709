use Rattle.sk_sym_literals.proofs.Holes.{chosen_word}
use Rattle.sk_sym_literals.proofs.hole.hole_word.Goals as goal

pub returns-clause-chosen : goal.returns-clause-chosen
returns-clause-chosen c = chosen_word _ _ c.in_ok-id.ensures.there c.in_ok-id.ensures.value
