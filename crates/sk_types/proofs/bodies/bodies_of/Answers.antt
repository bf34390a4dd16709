use Rattle.std.specs.Prelude.{[]}
use Rattle.std.proofs.lemmas.Result.{err_from_is_err_and}
use Rattle.sk_types_laws.specs.Whole.{bodies_of}
use Rattle.sk_types_names.specs.Envs.{top_seen}
use Rattle.sk_types.specs.Tops.{bodies_after}
use Rattle.sk_types.proofs.ItemLaws.{turn, turn_fails}
use Rattle.sk_types.proofs.bodies.bodies_of.Goals as goal

pub loop-item-preserved : goal.loop-item-preserved
loop-item-preserved c =
    turn (bodies_of c.args.bounds.now (top_seen c.args.top.now) [] c.args.items.now) (bodies_after c.args.bounds.now (top_seen c.args.top.now) c.loop-item.whole) _ c.args.items.now c.loop-item.item-index c.item-item.result c.loop-item.invariant c.loop-item-test.true c.item-item.is c.in_ok-make_item.ensures

pub returns-in_err-make_item : goal.returns-in_err-make_item
returns-in_err-make_item c =
    let p = err_from_is_err_and c.from_residual.result c.from_residual.ensures.1 in
    rw (p.1, p.2) (turn_fails _ (bodies_of c.args.bounds.now (top_seen c.args.top.now) [] c.args.items.now) (bodies_after c.args.bounds.now (top_seen c.args.top.now) c.loop-item.whole) _ c.args.items.now c.loop-item.item-index c.item-item.result c.loop-item.invariant c.loop-item-test.true c.item-item.is c.in_err-make_item.ensures)
