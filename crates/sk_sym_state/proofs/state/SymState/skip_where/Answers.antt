use Rattle.sk_sym_state.proofs.Ends.{skips_is}
use Rattle.sk_sym_state.proofs.state.SymState.skip_where.Goals as goal

pub returns-clause-skips : goal.returns-clause-skips
returns-clause-skips c = skips_is c.args.setting.now c.args.cond c.requires.stands c.in_ok-end.ensures.keeps c.in_ok-end.ensures.path_there c.in_ok-end.ensures.ended_there c.in_ok-end.ensures.path c.in_ok-end.ensures.ended
