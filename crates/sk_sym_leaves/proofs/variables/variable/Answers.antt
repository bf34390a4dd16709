use Rattle.sk_sym_state.proofs.Scopes.{reads}
use Rattle.sk_sym_leaves.proofs.variables.variable.Goals as goal

pub returns : goal.returns
returns c = record { evaluates = reads c.requires.stands c.in_ok-r.ensures }
