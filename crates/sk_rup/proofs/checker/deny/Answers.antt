use Rattle.std.proofs.Common.{◌∙◌, sym}
use Rattle.sk_rup.proofs.CheckerLemmas.{denying_already, denying_now, denying_clash}
use Rattle.sk_rup.proofs.checker.deny.Goals as goal
use Rattle.sk_rup.proofs.checker.deny.Goals.{in-Some-false, in-None+in_ok-force-in-None}

pub returns-in-Some-true-clause-clash : goal.returns-in-Some-true-clause-clash
returns-in-Some-true-clause-clash c = λ _ known roots.
    (let at = sym c.value.ensures ∙ c.in-Some-true.is in
    let holds = rw (c.deref.ensures.value, c.in-Some-true.field-0-test) at at in
    denying_clash c.args.clause.now c.loop-l.l-index _ c.loop-l-test.true c.args.trail.now c.loop-l.trail c.loop-l.invariant holds known roots)

pub loop-l-preserved : goal.loop-l-preserved
loop-l-preserved c = elim c.match-value.branch [
  | in-Some-false w ↦
      let at = sym c.value.ensures ∙ w.in-Some-false.is in
      let fails = rw (c.deref.ensures.value, w.in-Some-false.field-0-test) at at in
      rw w.trail-is (denying_already c.args.clause.now c.loop-l.l-index _ c.loop-l-test.true c.args.trail.now c.loop-l.trail c.loop-l.invariant fails)
  | in-None+in_ok-force-in-None w ↦
      let at = sym c.value.ensures ∙ w.in-None.is in
      let vacant = rw c.deref.ensures.value at at in
      let values = rw w.negate.ensures at w.in_ok-force-in-None.ensures.values in
      let lits = rw w.negate.ensures at w.in_ok-force-in-None.ensures.lits in
      rw w.trail-is (denying_now c.args.clause.now c.loop-l.l-index _ c.loop-l-test.true c.args.trail.now c.loop-l.trail c.loop-l.invariant w.force.new.self vacant (rw c.loop-l.invariant.grows.long (c.requires.within c.loop-l.l-index _ c.loop-l-test.true)) w.in_ok-force-in-None.ensures.covers values lits)
]
