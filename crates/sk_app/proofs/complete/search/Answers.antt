use Rattle.std.proofs.Common.{◌≡◌, sym, subst}
use Rattle.sk_min_certificate.specs.Least.{IsAnswer}
use Rattle.sk_app.specs.ResultText.{IsCompletion, IsNone}
use Rattle.sk_app.specs.SpentText.{spent_result, OfRounds}
use Rattle.sk_app.proofs.CompleteLaws.{best_found, none_found, rounds_found, by_search, conflicts_found}
use Rattle.sk_app.proofs.complete.search.Goals as goal

pub returns-in_ok-out-in-Best-clause-found : goal.returns-in_ok-out-in-Best-clause-found
returns-in_ok-out-in-Best-clause-found g c set text ready =
    let answer = subst (IsAnswer c.args.expanded.now c.args.bounds.now c.args.budget.now) c.in-Best.is c.in_ok-choice.ensures.answer in
    let out = c.in_ok-out-in-Best.out.items in
    subst (λ cert. IsCompletion set c.args.budget.now cert text out) (sym c.if-cert.false)
    (best_found set text c.args.bounds.now c.args.expanded.now ready c.args.budget.now c.in-Best.pairs c.in-Best.choice c.in-Best.value out answer.0 answer.4 answer.2 answer.1 c.in_ok-out-in-Best.ensures)

pub returns-in_ok-out-in-Nothing-clause-found : goal.returns-in_ok-out-in-Nothing-clause-found
returns-in_ok-out-in-Nothing-clause-found g c set text ready =
    let answer = subst (IsAnswer c.args.expanded.now c.args.bounds.now c.args.budget.now) c.in-Nothing.is c.in_ok-choice.ensures.answer in
    let out = c.in_ok-out-in-Nothing.out.items in
    subst (λ cert. IsNone set c.args.budget.now cert text c.in-Nothing.pairs out) (sym c.if-cert-2.false)
    (none_found set text c.args.bounds.now c.args.expanded.now ready c.args.budget.now c.in-Nothing.pairs out answer.0 answer.2 answer.1 c.in_ok-out-in-Nothing.ensures.items)

pub returns-in_ok-out-in-Rounds-clause-found : goal.returns-in_ok-out-in-Rounds-clause-found
returns-in_ok-out-in-Rounds-clause-found g c set text ready =
    let answer = subst (IsAnswer c.args.expanded.now c.args.bounds.now c.args.budget.now) c.in-Rounds.is c.in_ok-choice.ensures.answer in
    let out = c.in_ok-out-in-Rounds.out.items in
    let is = subst (λ pairs. out ≡ spent_result c.args.expanded.now c.in-Rounds.best (OfRounds c.args.budget.now.rounds pairs)) c.as_slice.ensures c.in_ok-out-in-Rounds.ensures in
    rounds_found set text c.args.bounds.now c.args.expanded.now ready c.args.budget.now c.in-Rounds.pairs c.in-Rounds.best out answer.0 answer.1 answer.2 is

pub returns-in_ok-out-in-Conflicts-clause-found : goal.returns-in_ok-out-in-Conflicts-clause-found
returns-in_ok-out-in-Conflicts-clause-found g c set text ready =
    let m = c.in-Conflicts in
    let answer = subst (IsAnswer c.args.expanded.now c.args.bounds.now c.args.budget.now) m.is c.in_ok-choice.ensures.answer in
    conflicts_found set text c.args.bounds.now c.args.expanded.now ready c.args.cert c.args.budget.now m.pairs m.query m.formula m.log m.best c.in_ok-out-in-Conflicts.out.items answer.0 answer.4 answer.1 (by_search set text c.args.bounds.now c.args.expanded.now ready c.args.cert m.query m.best answer.2 answer.3) c.in_ok-out-in-Conflicts.ensures
