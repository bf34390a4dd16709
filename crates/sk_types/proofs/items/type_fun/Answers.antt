use Rattle.std.specs.Prelude.{map}
use Rattle.std.proofs.lemmas.Result.{err_from_is_err_and}
use Rattle.sk_types_laws.specs.Envs.{known}
use Rattle.sk_types_names.specs.Envs.{top_seen}
use Rattle.sk_types.specs.Tops.{typed_after}
use Rattle.sk_types.proofs.ItemLaws.{fun_step, fun_fails}
use Rattle.sk_types.proofs.items.type_fun.Goals as goal

pub returns-in_err-heading : goal.returns-in_err-heading
returns-in_err-heading c =
    let p = err_from_is_err_and c.from_residual.result c.from_residual.ensures.1 in
    let t = c.args.typed.now in
    rw (p.1, p.2) (fun_fails c.args.bounds.now (top_seen c.args.top.now) (map known t.known) (top_seen t.names) (typed_after c.args.bounds.now (top_seen c.args.top.now) t) c.args.function.now _ c.in_err-heading.ensures)

pub returns : goal.returns
returns c =
    let t = c.args.typed.now in
    fun_step c.args.bounds.now (top_seen c.args.top.now) (map known t.known) t.names.structs t.names.consts t.names.funs _ c.args.function.now c.in_ok-heading.heading c.in_ok-heading.ensures c.in_ok-push.ensures.ok
