use Rattle.sk_model.specs.Eval.{padded_at}
use Rattle.sk_sym_forms.proofs.Values.{made_evaluates}
use Rattle.sk_sym_forms.proofs.single.pad.Goals as goal

pub returns-clause-evaluates : goal.returns-clause-evaluates
returns-clause-evaluates c = made_evaluates c.requires.stands c.in_ok-r.ensures.keeps (padded_at c.args.ty) c.in_ok-r.ensures.made
