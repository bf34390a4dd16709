use Rattle.sk_sym_literals.proofs.Holes.{made_chosen}
use Rattle.sk_sym_literals.proofs.hole.hole_grid.Goals as goal

pub returns-clause-chosen : goal.returns-clause-chosen
returns-clause-chosen c = made_chosen c.in_ok-row.ensures.chosen c.in_ok-r.ensures.keeps c.in_ok-r.ensures.made
