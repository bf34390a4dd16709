use Rattle.std.proofs.Common.{◌≤◌, ◌∙◌, sym, arith, take, length, subst, get_or}
use Rattle.std.proofs.lemmas.List.{take_all}
use Rattle.sk_clause.specs.Values.{IsOpen}
use Rattle.sk_clause.proofs.ScanLemmas.{settled_two, SoFar}
use Rattle.sk_sat.proofs.values.scan_of.Goals as goal

pub returns-then-not-is : goal.returns-then-not-is
returns-then-not-is c =
    let inv : SoFar c.args.values.now (take c.loop-packed.packed-index c.args.clause.now) c.loop-packed.open = c.loop-packed.invariant in
    let here = sym c.value.ensures ∙ c.in-None.is in
    let there : IsOpen c.args.values.now c.packed-item.result = rw c.lit-l.ensures at here in
    let vacant : IsOpen c.args.values.now (get_or c.args.clause.now c.loop-packed.packed-index c.packed-item.result) = subst (IsOpen c.args.values.now) c.packed-item.is there in
    settled_two c.args.values.now c.args.clause.now c.loop-packed.packed-index c.packed-item.result c.loop-packed-test.true c.in-Some.first
    (rw c.in-Some.is at inv)
    (λ same. (let k = c.is.ensures.1 (same ∙ sym c.packed-item.is ∙ sym c.lit-l.ensures) in let f = c.if-not-is.true in cc))
    vacant

pub returns-in-None-open-2 : goal.returns-in-None-open-2
returns-in-None-open-2 c =
    let inv : SoFar c.args.values.now (take c.loop-packed.packed-index c.args.clause.now) c.loop-packed.open = c.loop-packed.invariant in
    let all = rw c.in-None-open-2.is at inv in
    let done : length c.args.clause.now ≤ c.loop-packed.packed-index = omega arith in
    rw take_all at all
