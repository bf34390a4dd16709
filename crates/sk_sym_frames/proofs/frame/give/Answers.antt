use Rattle.std.proofs.Common.{subst}
use Rattle.sk_dag.proofs.EvalLemmas.{Keeps-trans, Keeps_four}
use Rattle.sk_sym_state.proofs.Standing.{AnyEnded-keeps}
use Rattle.sk_sym_frames.specs.Ended.{IsEnd, IsLatest}
use Rattle.sk_sym_frames.proofs.Frames.{gives_is}
use Rattle.sk_sym_frames.proofs.frame.give.Goals as goal

pub latest-requires-clause-before : goal.latest-requires-clause-before
latest-requires-clause-before c = rw c.replace-before.ensures.value (AnyEnded-keeps c.in_ok-now.ensures.keeps c.args.state.now.frame.ended c.requires.stands.frame.ended)

pub returns-clause-gives : goal.returns-clause-gives
returns-clause-gives c =
    let end = subst (λ l. IsEnd c.end_of.new.dag c.args.setting.now.fun.now l c.args.value c.in_ok-now.now) c.as_slice.ensures c.in_ok-now.ensures.end in
    let late = subst (λ o. IsLatest c.latest.new.dag c.args.state.now.path c.in_ok-now.now o c.in_ok-ended.ended) c.replace-before.ensures.value c.in_ok-ended.ensures.latest in
    gives_is c.larger-state.ensures.first c.larger-state.ensures.second c.requires.stands c.in_ok-now.ensures.keeps end c.in_ok-ended.ensures.keeps late c.in_ok-returned.ensures.keeps c.in_ok-returned.ensures.there c.in_ok-returned.ensures.value c.in_ok-path.ensures.keeps c.in_ok-path.ensures.there c.in_ok-path.ensures.value

pub returns-in_err-returned-clause-keeps : goal.returns-in_err-returned-clause-keeps
returns-in_err-returned-clause-keeps c = Keeps-trans c.in_ok-now.ensures.keeps (Keeps-trans c.in_ok-ended.ensures.keeps c.or.ensures.keeps)

pub returns-in_err-path-clause-keeps : goal.returns-in_err-path-clause-keeps
returns-in_err-path-clause-keeps c = Keeps_four c.in_ok-now.ensures.keeps c.in_ok-ended.ensures.keeps c.in_ok-returned.ensures.keeps c.flag.ensures.keeps

pub returns-clause-keeps : goal.returns-clause-keeps
returns-clause-keeps c = Keeps_four c.in_ok-now.ensures.keeps c.in_ok-ended.ensures.keeps c.in_ok-returned.ensures.keeps c.in_ok-path.ensures.keeps
