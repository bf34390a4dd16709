use Rattle.std.proofs.Common.{refl, sym, ◌∙◌}
use Rattle.sk_model.specs.Expand.{are_ordinary}
use Rattle.sk_exec.proofs.Ranks.{rank_zero, rank_at, named_at, callee_at, none_named}
use Rattle.sk_exec.proofs.names.callee_of.Goals as goal

pub loop-place-init : goal.loop-place-init
loop-place-init c = record {
  none = refl;
  ranked = rank_zero (are_ordinary c.args.prog.now.funs);
}

pub loop-place-preserved : goal.loop-place-preserved
loop-place-preserved c =
    let funs = c.args.prog.now.funs in
    let slice = c.as_slice-fun-items.result.now in
    let f = c.fun-item.result in
    record {
      none = named_at c.args.name.now funs slice c.loop-place.place f c.as_slice-fun-items.ensures c.loop-place-test.true c.fun-item.is (sym c.is_named.ensures ∙ c.if-is_named.false) c.loop-place.invariant.none;
      ranked = rank_at funs slice c.loop-place.place f c.loop-place.index c.in_ok-index.index c.as_slice-fun-items.ensures c.loop-place-test.true c.fun-item.is c.loop-place.invariant.ranked c.in_ok-index.ensures;
    }

pub returns-then-is_named : goal.returns-then-is_named
returns-then-is_named c =
    callee_at c.args.prog.now c.args.name.now c.as_slice-fun-items.result.now c.loop-place.place c.fun-item.result c.loop-place.index c.as_slice-fun-items.ensures c.loop-place-test.true c.fun-item.is (sym c.is_named.ensures ∙ c.if-is_named.true) c.loop-place.invariant.none c.loop-place.invariant.ranked

pub returns : goal.returns
returns c = none_named c.args.prog.now c.args.name.now c.as_slice-fun-items.result.now c.loop-place.place c.as_slice-fun-items.ensures c.loop-place-test.false c.loop-place.invariant.none
