use Rattle.sk_print_laws.proofs.ProgramShown.{programs_shown}
use Rattle.sk_print_laws.proofs.laws.programs_are_shown.Goals as goal

pub returns : goal.returns
returns c = programs_shown
