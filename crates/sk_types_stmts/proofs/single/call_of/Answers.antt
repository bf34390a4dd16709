use Rattle.std.proofs.Common.{◌∙◌}
use Rattle.std.proofs.lemmas.Result.{err_from_is_err_and}
use Rattle.sk_types_names.specs.Envs.{context_of}
use Rattle.sk_types_stmts.proofs.CallLaws.{call_made, call_fails, no_call}
use Rattle.sk_types_stmts.proofs.single.call_of.Goals as goal

pub returns-in_err-result-in-Call : goal.returns-in_err-result-in-Call
returns-in_err-result-in-Call c =
    let p = err_from_is_err_and c.from_residual.result c.from_residual.ensures.1 in
    let called = rw c.as_slice.ensures at c.in_err-result-in-Call.ensures in
    rw (p.1, p.2) (call_fails (context_of c.args.env.now) c.args.scope.now c.args.e.now _ _ _ c.in-Call.is called)

pub returns-in_ok-result-in-Call : goal.returns-in_ok-result-in-Call
returns-in_ok-result-in-Call c =
    let called = rw c.as_slice.ensures at c.in_ok-result-in-Call.ensures in
    call_made (context_of c.args.env.now) c.args.scope.now c.args.e.now _ _ c.in_ok-result-in-Call.field-0 c.in-Call.is called ∙ cc

pub returns-in_default : goal.returns-in_default
returns-in_default c = no_call (context_of c.args.env.now) c.args.scope.now c.args.e.now _ _ c.in_default.not-Call c.fault.ensures
