use Rattle.sk_arr.proofs.Makers.{Keeps-refl}
use Rattle.sk_sym_forms.proofs.Values.{given_evaluates}
use Rattle.sk_sym_forms.proofs.leaf.nothing.Goals as goal

pub returns : goal.returns
returns c = record { evaluates = given_evaluates c.requires.stands (Keeps-refl c.args.dag.now) (c.null.ensures c.args.dag.now) }
