use Rattle.sk_sym_stores.proofs.Variables.{on_onward}
use Rattle.sk_sym_places.proofs.place.assign.Goals as goal

pub returns-clause-executes : goal.returns-clause-executes
returns-clause-executes c = on_onward c.in_ok-put.ensures.puts.does
