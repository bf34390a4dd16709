use Rattle.std.proofs.Common.{subst, sym}
use Rattle.sk_sym_state.specs.Seen.{IsWorth}
use Rattle.sk_sym_state.specs.Meaning.{ExecutesOn}
use Rattle.sk_sym_forms.specs.Forms.{act_does}
use Rattle.sk_sym_forms.proofs.Acts.{drops}
use Rattle.sk_sym_forms.proofs.act.perform.Goals as goal

pub returns-in-Drop-clause-executes : goal.returns-in-Drop-clause-executes
returns-in-Drop-clause-executes c = subst (λ what. ExecutesOn c.args.setting.now c.args.dag.now c.args.dag.now c.args.state.now c.args.state.now (λ g e. IsWorth g e c.args.state.now.heap c.args.a) (λ e. act_does c.args.span what)) (sym c.in-Drop.is) (drops c.requires.stands)
