use Rattle.sk_sym_literals.proofs.Values.{made_given}
use Rattle.sk_sym_literals.proofs.written.literal_row.Goals as goal

pub returns-clause-given : goal.returns-clause-given
returns-clause-given c = made_given c.in_ok-one.ensures.given c.in_ok-r.ensures.keeps c.in_ok-r.ensures.made
