use Rattle.std.proofs.Common.{◌∙◌}
use Rattle.sk_dag.proofs.EvalLemmas.{Keeps-trans}
use Rattle.sk_arr.proofs.Standing.{AllStand-keeps}
use Rattle.sk_sym.proofs.Paid.{as_wide}
use Rattle.sk_sym.proofs.Whole.{says_run}
use Rattle.sk_sym.proofs.entry.run.Goals as goal

pub call-requires-clause-stands : goal.call-requires-clause-stands
call-requires-clause-stands c = (c.in_ok-state.ensures.begins c.args.first.now.setting.expanded.now.prog).stands

pub call-requires-clause-width : goal.call-requires-clause-width
call-requires-clause-width c = as_wide c.in_ok-state.ensures.keeps ∙ c.requires.width

pub call-requires-clause-args : goal.call-requires-clause-args
call-requires-clause-args c = (c.in_ok-args.ensures c.begin.new.dag (AllStand-keeps c.in_ok-state.ensures.keeps c.requires.args)).stands

pub returns-clause-outcome : goal.returns-clause-outcome
returns-clause-outcome c = says_run c.args.first.now c.args.f c.requires.first c.in_ok-state.ensures.keeps (c.in_ok-state.ensures.begins c.args.first.now.setting.expanded.now.prog) (c.in_ok-args.ensures c.args.dag.now c.requires.args) c.in_ok-ended.ensures.ends c.in_ok-made.ensures

pub returns-in_err-ended-clause-keeps : goal.returns-in_err-ended-clause-keeps
returns-in_err-ended-clause-keeps c = Keeps-trans c.in_ok-state.ensures.keeps c.call.ensures.keeps

pub returns-in_err-made-clause-keeps : goal.returns-in_err-made-clause-keeps
returns-in_err-made-clause-keeps c = Keeps-trans c.in_ok-state.ensures.keeps c.in_ok-ended.ensures.keeps

pub returns-clause-keeps : goal.returns-clause-keeps
returns-clause-keeps c = Keeps-trans c.in_ok-state.ensures.keeps c.in_ok-ended.ensures.keeps
