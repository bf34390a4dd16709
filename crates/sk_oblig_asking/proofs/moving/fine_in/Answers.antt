use Rattle.std.proofs.Common.{sym, ◌∙◌}
use Rattle.sk_oblig.proofs.Speaking.{keeps_width}
use Rattle.sk_oblig_asking.proofs.Moved.{fine_moved}
use Rattle.sk_oblig_asking.proofs.moving.fine_in.Goals as goal

pub moved-requires-clause-width : goal.moved-requires-clause-width
moved-requires-clause-width c = keeps_width c.in_ok-fine.ensures.keeps c.new-dag.ensures.bits ∙ sym c.requires.width

pub returns-clause-fine : goal.returns-clause-fine
returns-clause-fine c = fine_moved c.in_ok-fine.fine c.in_ok-r.r c.in_ok-fine.ensures.fine c.in_ok-r.ensures.there c.in_ok-r.ensures.value
