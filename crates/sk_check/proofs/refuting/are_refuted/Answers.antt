use Rattle.std.proofs.Common.{All, sym, subst}
use Rattle.std.proofs.lemmas.List.{take_all}
use Rattle.std.proofs.lemmas.List.Elements.{All-more}
use Rattle.sk_check_laws.specs.Parts.{Refuting}
use Rattle.sk_check.proofs.Alike.{is_so, not_so}
use Rattle.sk_check.proofs.refuting.are_refuted.Goals as goal

pub returns-then-not-refuted : goal.returns-then-not-refuted
returns-then-not-refuted c =
    not_so (λ all. (
    let here : Refuting c.proof-item.result = subst Refuting (sym c.proof-item.is) (all c.loop-proof.proof-index c.proof-item.result c.loop-proof-test.true) in
    let t = c.in_ok-refuted.ensures.1 here in
    let f = c.if-not-refuted.true in
    cc))

pub loop-proof-preserved : goal.loop-proof-preserved
loop-proof-preserved c =
    let here : Refuting c.proof-item.result = c.in_ok-refuted.ensures.0 c.if-not-refuted.false in
    All-more Refuting c.args.proofs.now c.loop-proof.proof-index c.proof-item.result c.loop-proof-test.true c.loop-proof.invariant (subst Refuting c.proof-item.is here)

pub returns : goal.returns
returns c = is_so (subst (All Refuting) (take_all c.loop-proof.proof-index c.args.proofs.now c.loop-proof-test.false) c.loop-proof.invariant)
