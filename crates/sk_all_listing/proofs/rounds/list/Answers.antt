-- the choice is put among those listed
use Rattle.sk_all_listing.proofs.Lists.{listed_more, one_longer}
use Rattle.sk_all_listing.proofs.rounds.list.Goals as goal

pub returns-clause-listed : goal.returns-clause-listed
returns-clause-listed c =
    listed_more c.args.expanded.now c.args.bounds.now c.args.listed.now.items c.insert.new.listed.items (record { choice = c.in_ok-choice.choice; marks = c.in_ok-marks.marks }) c.args.choice.now
    c.requires.listed c.requires.meeting c.requires.other
    c.in_ok-choice.ensures.range c.in_ok-marks.ensures c.in_ok-choice.ensures.canonical c.in_ok-choice.ensures.marks c.in_ok-choice.ensures.agrees c.in_ok-choice.ensures.filling c.in_ok-insert.ensures

pub returns-clause-longer : goal.returns-clause-longer
returns-clause-longer c = one_longer (record { choice = c.in_ok-choice.choice; marks = c.in_ok-marks.marks }) c.args.listed.now.items c.insert.new.listed.items c.in_ok-insert.ensures
