use Rattle.std.proofs.Common.{◌≡◌, ◌<◌, ◌-◌, suc, length, arith, subst, false}
use Rattle.std.proofs.lemmas.Option.{slice_get-get_or}
use Rattle.sk_dag.specs.declared.node.Node.TheVariants.{Flag}
use Rattle.sk_dag.proofs.ReachLemmas.{MarksFrom, MarksFrom-start, MarksFrom-marked, MarksFrom-unmarked, MarksReached-done, marked_here, each_map}
use Rattle.sk_dag.proofs.reach.mark_reached.Goals as goal

pub loop-i-init : goal.loop-i-init
loop-i-init c =
    record { bound = omega arith; from = rw (c.mark_roots.ensures, c.requires.fresh) (MarksFrom-start _ _ c.requires.roots) }

pub bounds-marks-i : goal.bounds-marks-i
bounds-marks-i c = omega (arith, c.loop-i.invariant.from.long, c.loop-i.invariant.bound)

pub mark_children-requires : goal.mark_children-requires
mark_children-requires c =
    let i = c.loop-i.i - 1 in
    let long = c.loop-i.invariant.from.long in
    let below : i < length c.args.nodes.now = omega (arith, c.loop-i.invariant.bound) in
    each_map _ _ _ (λ k (l : k < i). omega (arith, l)) (c.requires.ordered i _ (slice_get-get_or c.args.nodes.now i _ below))

pub loop-i-preserved-then-marks-i : goal.loop-i-preserved-then-marks-i
loop-i-preserved-then-marks-i c =
    let i = c.loop-i.i - 1 in
    let long = c.loop-i.invariant.from.long in
    let below : i < length c.args.nodes.now = omega (arith, c.loop-i.invariant.bound) in
    let e : c.loop-i.i ≡ suc i = omega arith in
    let at = slice_get-get_or c.args.nodes.now i (Flag false) below in
    record {
      bound = omega arith;
      from =
          rw c.mark_children.ensures
          (MarksFrom-marked _ _ _ i _ (subst (MarksFrom _ _ _) e c.loop-i.invariant.from) at (c.requires.ordered i _ at) (marked_here _ i (omega arith) c.if-marks-i.true));
    }

pub loop-i-preserved : goal.loop-i-preserved
loop-i-preserved c =
    let i = c.loop-i.i - 1 in
    let e : c.loop-i.i ≡ suc i = omega arith in
    record {
      bound = omega (arith, c.loop-i.invariant.bound);
      from = MarksFrom-unmarked _ _ _ i (subst (MarksFrom _ _ _) e c.loop-i.invariant.from) c.if-marks-i.false;
    }

pub returns : goal.returns
returns c =
    let z : c.loop-i.i ≡ 0 = omega arith in
    MarksReached-done _ _ _ (subst (MarksFrom _ _ _) z c.loop-i.invariant.from)
