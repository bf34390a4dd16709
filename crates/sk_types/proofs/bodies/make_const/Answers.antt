use Rattle.std.specs.Prelude.{map}
use Rattle.std.proofs.lemmas.Result.{err_from_is_err_and}
use Rattle.sk_tree.specs.declared.item.Item.TheVariants as item
use Rattle.sk_types_laws.specs.Envs.{known}
use Rattle.sk_types_names.specs.Envs.{top_seen}
use Rattle.sk_types.specs.Tops.{bodies_seen, bodies_after}
use Rattle.sk_types.proofs.ItemLaws.{body_const_step, number_fails, value_fails, knowing_stops}
use Rattle.sk_types.proofs.bodies.make_const.Goals as goal

pub returns-in_err-number : goal.returns-in_err-number
returns-in_err-number c =
    let p = err_from_is_err_and c.from_residual.result c.from_residual.ensures.1 in
    let w = c.args.whole.now in
    rw (p.1, p.2) (number_fails c.args.bounds.now (top_seen c.args.top.now) (map known w.known) (bodies_seen w) (bodies_after c.args.bounds.now (top_seen c.args.top.now) w) c.args.name.now c.args.value.now _ c.in_err-number.ensures)

pub returns-in_err-def : goal.returns-in_err-def
returns-in_err-def c =
    let p = err_from_is_err_and c.from_residual-in_err-def.result c.from_residual-in_err-def.ensures.1 in
    let w = c.args.whole.now in
    rw (p.1, p.2) (value_fails c.args.bounds.now (top_seen c.args.top.now) (map known w.known) (bodies_seen w) (bodies_after c.args.bounds.now (top_seen c.args.top.now) w) c.args.name.now c.args.value.now c.in_ok-number.number _ c.in_ok-number.ensures c.in_err-def.ensures)

pub returns-in_err-know : goal.returns-in_err-know
returns-in_err-know c =
    let p = err_from_is_err_and c.from_residual-in_err-know.result c.from_residual-in_err-know.ensures.1 in
    let w = c.args.whole.now in
    let old = bodies_after c.args.bounds.now (top_seen c.args.top.now) w in
    let new = bodies_after c.args.bounds.now (top_seen c.args.top.now) (record { consts = w.consts; funs = w.funs; known = c.know.new.earlier }) in
    rw (p.1, p.2) (knowing_stops _ (map known w.known) (map known c.know.new.earlier) c.args.name.now c.in_ok-number.number old new (item.Const c.args.name.now c.args.value.now) c.in_err-know.ensures)

pub returns : goal.returns
returns c =
    let w = c.args.whole.now in
    body_const_step c.args.bounds.now (top_seen c.args.top.now) (map known w.known) _ w.consts _ w.funs c.args.name.now c.args.value.now c.in_ok-number.number c.in_ok-def.def c.in_ok-number.ensures c.in_ok-def.ensures c.in_ok-know.ensures c.in_ok-push.ensures.ok
