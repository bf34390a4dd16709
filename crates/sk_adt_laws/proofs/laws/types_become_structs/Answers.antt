use Rattle.sk_adt_laws.proofs.Structs.{structs}
use Rattle.sk_adt_laws.proofs.laws.types_become_structs.Goals as goal

pub returns : goal.returns
returns c = structs
