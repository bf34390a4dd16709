use Rattle.std.proofs.Common.{sym, subst, arith}
use Rattle.sk_dag.specs.Graph.{BoolSort, WordSort}
use Rattle.sk_dag.proofs.EvalLemmas.{Keeps-trans}
use Rattle.sk_arr.specs.Shapes.{Alike}
use Rattle.sk_arr.proofs.Makers.{Keeps-refl}
use Rattle.sk_arr.proofs.Standing.{Stands-keeps}
use Rattle.sk_arr.proofs.Choices.{stand_at}
use Rattle.sk_arr.proofs.WriteLaws.{written_none, written_more, written_whole}
use Rattle.sk_arr.proofs.index.written.Goals as goal

pub loop-old-init : goal.loop-old-init
loop-old-init c = record {
  keeps = Keeps-refl _;
  place = omega arith;
  written = rw c.new-made.ensures (written_none _ _ _ _);
}

pub write_at-requires-clause-guard : goal.write_at-requires-clause-guard
write_at-requires-clause-guard c = c.loop-old.invariant.keeps.sorts _ BoolSort c.requires.guard

pub write_at-requires-clause-index : goal.write_at-requires-clause-index
write_at-requires-clause-index c = c.loop-old.invariant.keeps.sorts _ WordSort c.requires.index

pub write_at-requires-clause-value : goal.write_at-requires-clause-value
write_at-requires-clause-value c = Stands-keeps c.loop-old.invariant.keeps c.requires.value

pub write_at-requires-clause-old : goal.write_at-requires-clause-old
write_at-requires-clause-old c = Stands-keeps c.loop-old.invariant.keeps (stand_at c.args.list.now c.loop-old.old-index c.old-item.result c.loop-old-test.true c.old-item.is c.requires.list)

pub write_at-requires-clause-alike : goal.write_at-requires-clause-alike
write_at-requires-clause-alike c = subst (Alike c.args.value.now) (sym c.old-item.is) (c.requires.alike.each c.loop-old.old-index c.old-item.result c.loop-old-test.true)

pub loop-old-preserved : goal.loop-old-preserved
loop-old-preserved c =
    let inv = c.loop-old.invariant in
    record {
      keeps = Keeps-trans inv.keeps c.in_ok-one.ensures.keeps;
      place = omega (arith, inv.place);
      written = rw c.in_ok-push.ensures.ok (written_more c.args.list.now c.loop-old.made c.loop-old.old-index c.loop-old.place c.old-item.result c.in_ok-one.one c.loop-old-test.true c.old-item.is inv.place inv.written c.in_ok-one.ensures.keeps c.in_ok-one.ensures.written);
    }

pub returns-clause-written : goal.returns-clause-written
returns-clause-written c = written_whole c.args.list.now c.loop-old.made c.loop-old.old-index (omega arith) c.loop-old.invariant.written
