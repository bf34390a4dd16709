use Rattle.std.proofs.Common.{◌≡◌, sym, ◌∙◌}
use Rattle.sk_arr.proofs.Standing.{AllStand-keeps}
use Rattle.sk_dag.proofs.EvalLemmas.{Grows-refl}
use Rattle.sk_oblig_checks.proofs.Checks.{outcome_there, there_later}
use Rattle.sk_oblig_checks.proofs.checking.check_implementation.Goals as goal

pub execute-requires-2-clause-width : goal.execute-requires-2-clause-width
execute-requires-2-clause-width c = (c.in_ok-reference.ensures.keeps.later c.execute.new.dag (Grows-refl c.execute.new.dag)).bits ∙ c.requires.width

pub execute-requires-2-clause-args : goal.execute-requires-2-clause-args
execute-requires-2-clause-args c = AllStand-keeps c.in_ok-reference.ensures.keeps c.requires.args

pub speaks_against-requires-clause-reference : goal.speaks_against-requires-clause-reference
speaks_against-requires-clause-reference c = there_later c.in_ok-own.ensures.keeps (outcome_there c.in_ok-reference.ensures.outcome)
