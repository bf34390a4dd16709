use Rattle.std.proofs.Common.{refl}
use Rattle.std.specs.Option.{option_copied}
use Rattle.sk_sym_choices.proofs.Going.{enough, paid_by_all}
use Rattle.sk_sym_choices.proofs.program.payments.Goals as goal

pub all-requires-clause-sites : goal.all-requires-clause-sites
all-requires-clause-sites c = rw (c.as_slice.ensures, c.as_slice-2.ensures) (enough c.args.expanded.now c.requires)

pub returns-clause-pays : goal.returns-clause-pays
returns-clause-pays c = paid_by_all c.args.expanded.now (option_copied c.args.chosen) c.in_ok-made.ensures.pays c.as_slice-2.ensures c.as_slice.ensures refl refl
