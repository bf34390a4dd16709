-- what a round comes to
use Rattle.std.proofs.Common.{arith}
use Rattle.sk_all_listing.proofs.Lists.{turn_ended, turn_full, input_kept}
use Rattle.sk_all_listing.proofs.rounds.take_turn.Goals as goal

pub returns-in_default-clause-turn : goal.returns-in_default-clause-turn
returns-in_default-clause-turn g c =
    turn_ended c.args.expanded.now c.args.bounds.now c.args.inputs.now c.as_slice.result.now c.args.listed.now.items c.as_slice-2.result.now c.in_ok-choice.field-0
    c.requires.askable c.requires.are_inputs c.as_slice.ensures c.as_slice-2.ensures.value c.in_default.is c.in_ok-choice.ensures

pub returns-in-Input-clause-are_inputs : goal.returns-in-Input-clause-are_inputs
returns-in-Input-clause-are_inputs g c =
    input_kept c.args.expanded.now c.args.bounds.now c.in-Some.choice c.args.inputs.now c.push.new.self c.in_ok-input.field-0 c.in-Input.input
    c.requires.are_inputs c.in-Input.is c.in_ok-input.ensures c.in_ok-push-in-Input.ensures.ok

pub returns-then-len-most-clause-turn : goal.returns-then-len-most-clause-turn
returns-then-len-most-clause-turn g c =
    turn_full c.args.expanded.now c.args.bounds.now c.as_slice.result.now c.args.listed.now.items c.as_slice-2.result.now c.in_ok-choice.field-0 c.in-Some.choice c.in_ok-input.field-0 c.args.most
    c.as_slice-2.ensures.value c.in-Some.is c.in_ok-choice.ensures c.in-None.is c.in_ok-input.ensures c.requires.few (omega arith)

pub returns-in-None-clause-few : goal.returns-in-None-clause-few
returns-in-None-clause-few g c = omega (arith, c.in_ok-list-in-None.ensures.longer)
