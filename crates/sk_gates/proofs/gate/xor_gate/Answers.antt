use Rattle.sk_gates.proofs.ExtensionLaws.{on_err}
use Rattle.sk_gates.proofs.GateLaws.{Defining-start, Defining-more, xor_made, xor_refused}
use Rattle.sk_gates.proofs.gate.xor_gate.Goals as goal

pub returns-clause-gate : goal.returns-clause-gate
returns-clause-gate c =
    let d0 = Defining-start c.in_ok-r.ensures.ok in
    let d1 = Defining-more _ _ d0 c.in_ok-push.ensures.ok in
    let d2 = Defining-more _ _ d1 c.in_ok-push-2.ensures.ok in
    let d3 = Defining-more _ _ d2 c.in_ok-push-3.ensures.ok in
    let d4 = Defining-more _ _ d3 c.in_ok-push-4.ensures.ok in
    xor_made _ _ _ _ _ _ _ _ c.in_ok-r.ensures.made c.negate-not_r.ensures c.negate-not_a.ensures c.negate-not_b.ensures c.requires.a c.requires.b d4

pub returns-in_err-push-clause-err : goal.returns-in_err-push-clause-err
returns-in_err-push-clause-err c =
    let d0 = Defining-start c.in_ok-r.ensures.ok in
    on_err _ (xor_refused 0 c.in_ok-r.r _ c.args.a _ c.args.b _ c.in_ok-r.ensures.made c.negate-not_r.ensures c.negate-not_a.ensures c.negate-not_b.ensures c.requires.a c.requires.b c.in_err-push.ensures.err d0)

pub returns-in_err-push-2-clause-err : goal.returns-in_err-push-2-clause-err
returns-in_err-push-2-clause-err c =
    let d0 = Defining-start c.in_ok-r.ensures.ok in
    let d1 = Defining-more _ _ d0 c.in_ok-push.ensures.ok in
    on_err _ (xor_refused 1 c.in_ok-r.r _ c.args.a _ c.args.b _ c.in_ok-r.ensures.made c.negate-not_r.ensures c.negate-not_a.ensures c.negate-not_b.ensures c.requires.a c.requires.b c.in_err-push-2.ensures.err d1)

pub returns-in_err-push-3-clause-err : goal.returns-in_err-push-3-clause-err
returns-in_err-push-3-clause-err c =
    let d0 = Defining-start c.in_ok-r.ensures.ok in
    let d1 = Defining-more _ _ d0 c.in_ok-push.ensures.ok in
    let d2 = Defining-more _ _ d1 c.in_ok-push-2.ensures.ok in
    on_err _ (xor_refused 2 c.in_ok-r.r _ c.args.a _ c.args.b _ c.in_ok-r.ensures.made c.negate-not_r.ensures c.negate-not_a.ensures c.negate-not_b.ensures c.requires.a c.requires.b c.in_err-push-3.ensures.err d2)

pub returns-in_err-push-4-clause-err : goal.returns-in_err-push-4-clause-err
returns-in_err-push-4-clause-err c =
    let d0 = Defining-start c.in_ok-r.ensures.ok in
    let d1 = Defining-more _ _ d0 c.in_ok-push.ensures.ok in
    let d2 = Defining-more _ _ d1 c.in_ok-push-2.ensures.ok in
    let d3 = Defining-more _ _ d2 c.in_ok-push-3.ensures.ok in
    on_err _ (xor_refused 3 c.in_ok-r.r _ c.args.a _ c.args.b _ c.in_ok-r.ensures.made c.negate-not_r.ensures c.negate-not_a.ensures c.negate-not_b.ensures c.requires.a c.requires.b c.in_err-push-4.ensures.err d3)
