use Rattle.sk_sym_state.proofs.Ends.{fails_is}
use Rattle.sk_sym_state.proofs.state.SymState.fail_where.Goals as goal

pub returns-clause-fails : goal.returns-clause-fails
returns-clause-fails c = fails_is c.args.setting.now c.args.cond c.requires.stands c.in_ok-end.ensures.keeps c.in_ok-end.ensures.path_there c.in_ok-end.ensures.ended_there c.in_ok-end.ensures.path c.in_ok-end.ensures.ended
