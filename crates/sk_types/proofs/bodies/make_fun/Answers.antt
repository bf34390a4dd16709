use Rattle.std.specs.Prelude.{map}
use Rattle.std.proofs.lemmas.Result.{err_from_is_err_and}
use Rattle.sk_types_laws.specs.Envs.{known, signature}
use Rattle.sk_types_names.specs.Envs.{top_seen}
use Rattle.sk_types.specs.Tops.{bodies_seen, bodies_after}
use Rattle.sk_types.proofs.ItemLaws.{body_fun_step, heading_fails, body_fails}
use Rattle.sk_types.proofs.bodies.make_fun.Goals as goal

pub returns-in_err-heading : goal.returns-in_err-heading
returns-in_err-heading c =
    let p = err_from_is_err_and c.from_residual.result c.from_residual.ensures.1 in
    let w = c.args.whole.now in
    rw (p.1, p.2) (heading_fails c.args.bounds.now (top_seen c.args.top.now) (map known w.known) (bodies_seen w) (bodies_after c.args.bounds.now (top_seen c.args.top.now) w) c.args.function.now _ c.in_err-heading.ensures)

pub returns-in_err-fun : goal.returns-in_err-fun
returns-in_err-fun c =
    let p = err_from_is_err_and c.from_residual-in_err-fun.result c.from_residual-in_err-fun.ensures.1 in
    let w = c.args.whole.now in
    rw (p.1, p.2) (body_fails c.args.bounds.now (top_seen c.args.top.now) (map known w.known) (bodies_seen w) (bodies_after c.args.bounds.now (top_seen c.args.top.now) w) c.args.function.now (signature c.in_ok-heading.heading) _ c.in_ok-heading.ensures c.in_err-fun.ensures)

pub returns : goal.returns
returns c =
    let w = c.args.whole.now in
    body_fun_step c.args.bounds.now (top_seen c.args.top.now) (map known w.known) w.consts w.funs _ c.args.function.now (signature c.in_ok-heading.heading) c.in_ok-fun.fun c.in_ok-heading.ensures c.in_ok-fun.ensures c.in_ok-push.ensures.ok
