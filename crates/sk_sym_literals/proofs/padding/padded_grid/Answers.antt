use Rattle.std.proofs.Common.{sym, subst}
use Rattle.sk_arr.proofs.Standing.{Stands-keeps}
use Rattle.sk_sym_literals.proofs.Rows.{IsRowOf, rows_law, rows_stand, made_longer}
use Rattle.sk_sym_literals.proofs.padding.padded_grid.Goals as goal

pub lengthened-requires-clause-zero : goal.lengthened-requires-clause-zero
lengthened-requires-clause-zero c = c.in_ok-zero.ensures.given.stands

pub lengthened-requires-clause-list : goal.lengthened-requires-clause-list
lengthened-requires-clause-list c = rows_stand (Stands-keeps c.in_ok-zero.ensures.keeps c.requires.a) c.in_ok-list.ensures

pub returns-clause-made : goal.returns-clause-made
returns-clause-made c = made_longer (subst (IsRowOf _ c.args.a) (sym c.in_ok-list.ensures) (rows_law c.args.a)) c.in_ok-zero.ensures.given c.in_ok-r.ensures.keeps c.in_ok-r.ensures.made
