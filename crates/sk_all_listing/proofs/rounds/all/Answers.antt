-- what the rounds end with
use Rattle.sk_all_listing.proofs.Lists.{answered_all, answered_more}
use Rattle.sk_all_listing.proofs.rounds.all.Goals as goal

pub returns-in-Ended : goal.returns-in-Ended
returns-in-Ended g c =
    answered_all c.args.expanded.now c.args.bounds.now c.args.most c.take_turn.new.listed.items c.as_slice.result.now c.in_ok-take_turn.field-0 c.in_ok-choices-in-Ended.choices
    c.in-Ended.is c.in_ok-take_turn.ensures.turn c.as_slice.ensures.value c.in_ok-choices-in-Ended.ensures c.in_ok-take_turn.ensures.listed c.in_ok-take_turn.ensures.few

pub returns-in-Full : goal.returns-in-Full
returns-in-Full g c =
    answered_more c.args.expanded.now c.args.bounds.now c.args.most c.take_turn.new.listed.items c.as_slice-in-Full.result.now c.in_ok-take_turn.field-0 c.in_ok-choices-in-Full.choices
    c.in-Full.is c.in_ok-take_turn.ensures.turn c.as_slice-in-Full.ensures.value c.in_ok-choices-in-Full.ensures c.in_ok-take_turn.ensures.listed
