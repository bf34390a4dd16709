use Rattle.std.proofs.lemmas.Result.{err_from_is_err_and}
use Rattle.sk_expand.proofs.Calls.{stub_stops}
use Rattle.sk_expand.proofs.walker.Walker.stubbed.Goals as goal

pub returns-in_err-take : goal.returns-in_err-take
returns-in_err-take c =
    let p = err_from_is_err_and c.from_residual.result c.from_residual.ensures.1 in
    rw (p.1, p.2) (stub_stops c.args.fun.now c.args.before c.args.span c.args.made.now c.take.new.self c.in_err-take.field-0.0 c.in_err-take.ensures)
