use Rattle.std.proofs.Common.{◌≡◌, List, [], None, refl, subst}
use Rattle.sk_model.specs.declared.expanded.Pair.{Pair}
use Rattle.sk_loop.specs.declared.found.Found.{Found}
use Rattle.sk_loop.specs.Found.{IsFound}
use Rattle.sk_loop_laws.specs.Honest.{Grown, inputs_of}
use Rattle.sk_min.proofs.Bests.{none_of}
use Rattle.sk_min.proofs.Cheapest.{cheapest_first}
use Rattle.sk_min.proofs.Lowers.{all_break}
use Rattle.sk_min.proofs.descent.least.Goals as goal

pub returns-in-Nothing : goal.returns-in-Nothing
returns-in-Nothing g c =
    let found = subst (λ (x : Found). IsFound c.args.expanded.now c.args.bounds.now None c.args.budget.now c.synthesise.new.pairs x) c.in-Nothing.is c.in_ok-choice.ensures.found in
    record { answer = (c.in_ok-choice.ensures.honest, none_of c.args.expanded.now c.args.bounds.now (inputs_of c.synthesise.new.pairs) found.0, found.1) }

pub returns-in-Rounds : goal.returns-in-Rounds
returns-in-Rounds g c =
    let found = subst (λ (x : Found). IsFound c.args.expanded.now c.args.bounds.now None c.args.budget.now c.synthesise.new.pairs x) c.in-Rounds.is c.in_ok-choice.ensures.found in
    let empty : c.new-pairs.result ≡ [] = cc (c.new-pairs.ensures) in
    let grown = subst (λ (ps : List Pair). Grown c.args.expanded.now c.args.bounds.now None ps c.synthesise.new.pairs) empty c.in_ok-choice.ensures.grown in
    record { answer = (c.in_ok-choice.ensures.honest, found, all_break c.args.expanded.now c.args.bounds.now c.synthesise.new.pairs grown) }

pub returns-in-Conflicts : goal.returns-in-Conflicts
returns-in-Conflicts g c =
    let found = subst (λ (x : Found). IsFound c.args.expanded.now c.args.bounds.now None c.args.budget.now c.synthesise.new.pairs x) c.in-Conflicts.is c.in_ok-choice.ensures.found in
    record { answer = (found.0, found.1, λ _. refl, found.2, found.3) }

pub from_first-requires-clause-cheapest : goal.from_first-requires-clause-cheapest
from_first-requires-clause-cheapest g c =
    let empty : c.new-pairs.result ≡ [] = cc (c.new-pairs.ensures) in
    let grown = subst (λ (ps : List Pair). Grown c.args.expanded.now c.args.bounds.now None ps c.synthesise.new.pairs) empty c.in_ok-choice.ensures.grown in
    cheapest_first c.args.expanded.now c.args.bounds.now c.synthesise.new.pairs c.in-Choice.choice c.requires.askable grown
