use Rattle.std.specs.Prelude.{map}
use Rattle.std.proofs.lemmas.Result.{err_from_is_err_and}
use Rattle.sk_tree.specs.declared.item.Item.TheVariants as item
use Rattle.sk_types_laws.specs.Envs.{known}
use Rattle.sk_types_names.specs.Envs.{top_seen}
use Rattle.sk_types.specs.Tops.{typed_after}
use Rattle.sk_types.proofs.ItemLaws.{const_step, const_fails, memory_stops, knowing_stops, pushed}
use Rattle.sk_types.proofs.items.type_const.Goals as goal

pub returns-in_err-number : goal.returns-in_err-number
returns-in_err-number c =
    let p = err_from_is_err_and c.from_residual.result c.from_residual.ensures.1 in
    let t = c.args.typed.now in
    rw (p.1, p.2) (const_fails c.args.bounds.now (top_seen c.args.top.now) (map known t.known) (top_seen t.names) (typed_after c.args.bounds.now (top_seen c.args.top.now) t) c.args.name.now c.args.value.now _ c.in_err-number.ensures)

pub returns-in_err-copy : goal.returns-in_err-copy
returns-in_err-copy c =
    let p = err_from_is_err_and c.from_residual-in_err-copy.result c.from_residual-in_err-copy.ensures.1 in
    let t = c.args.typed.now in
    let after = typed_after c.args.bounds.now (top_seen c.args.top.now) t in
    rw (p.1, p.2) (memory_stops _ c.args.name.now after after (item.Const c.args.name.now c.args.value.now) c.in_err-copy.ensures)

pub returns-in_err-know : goal.returns-in_err-know
returns-in_err-know c =
    let p = err_from_is_err_and c.from_residual-in_err-know.result c.from_residual-in_err-know.ensures.1 in
    let t = c.args.typed.now in
    let old = typed_after c.args.bounds.now (top_seen c.args.top.now) t in
    let new = typed_after c.args.bounds.now (top_seen c.args.top.now) (record { names = t.names; known = c.know.new.earlier }) in
    rw (p.1, p.2) (knowing_stops _ (map known t.known) (map known c.know.new.earlier) c.args.name.now c.in_ok-number.number old new (item.Const c.args.name.now c.args.value.now) c.in_err-know.ensures)

pub returns : goal.returns
returns c =
    let t = c.args.typed.now in
    const_step c.args.bounds.now (top_seen c.args.top.now) (map known t.known) _ t.names.structs t.names.consts t.names.funs _ c.args.name.now c.args.value.now c.in_ok-number.number c.in_ok-number.ensures c.in_ok-know.ensures (pushed t.names.consts _ c.args.name.now c.in_ok-copy.copy c.in_ok-push.ensures.ok c.in_ok-copy.ensures)
