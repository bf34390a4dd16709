use Rattle.std.proofs.Common.{sym, subst}
use Rattle.sk_arr.specs.Shapes.{AllStand}
use Rattle.sk_arr.proofs.Values.{stand_none}
use Rattle.sk_sym_literals.proofs.Values.{zeros_given}
use Rattle.sk_sym_literals.proofs.padding.zero_row.Goals as goal

pub lengthened-requires-clause-list : goal.lengthened-requires-clause-list
lengthened-requires-clause-list c = subst (AllStand _) (sym c.new-none.ensures) (stand_none _)

pub returns-clause-given : goal.returns-clause-given
returns-clause-given c = zeros_given c.in_ok-zero.ensures.given c.in_ok-r.ensures.keeps c.new-none.ensures c.in_ok-r.ensures.made
