use Rattle.sk_print_laws.proofs.StmtsReadable.{programs_are_readable}
use Rattle.sk_print_laws.proofs.laws.programs_are_readable.Goals as goal

pub returns : goal.returns
returns c = programs_are_readable
