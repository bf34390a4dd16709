use Rattle.sk_arr.proofs.Standing.{AllStand-keeps}
use Rattle.sk_dag.proofs.EvalLemmas.{Keeps-trans}
use Rattle.sk_oblig_checks.proofs.Endings.{speaks}
use Rattle.sk_oblig_checks.proofs.ending.speaks_against.Goals as goal

pub agree_on_all-requires-clause-a : goal.agree_on_all-requires-clause-a
agree_on_all-requires-clause-a c = AllStand-keeps c.in_ok-same_result.ensures.keeps c.requires.reference.refs

pub agree_on_all-requires-clause-b : goal.agree_on_all-requires-clause-b
agree_on_all-requires-clause-b c = AllStand-keeps c.in_ok-same_result.ensures.keeps c.requires.own.refs

pub returns-clause-speaks : goal.returns-clause-speaks
returns-clause-speaks c =
    speaks c.agree_on_results.new.dag c.agree_on_all.new.dag c.is_other.new.dag c.is_against.new.dag c.args.reference c.args.own c.in_ok-r.r c.in_ok-other.other c.in_ok-same_result.same_result c.in_ok-same_refs.same_refs
    c.in_ok-same_refs.ensures.keeps c.in_ok-other.ensures.keeps c.in_ok-r.ensures.keeps
    c.in_ok-same_result.ensures.agrees c.in_ok-same_refs.ensures.agrees c.in_ok-r.ensures.there c.in_ok-other.ensures.value c.in_ok-r.ensures.value
