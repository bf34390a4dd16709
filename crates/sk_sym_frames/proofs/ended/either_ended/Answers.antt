use Rattle.sk_arr.proofs.Standing.{AllStand-keeps}
use Rattle.sk_sym_frames.proofs.Results.{either_ended}
use Rattle.sk_sym_frames.proofs.ended.either_ended.Goals as goal

pub either_list-requires-clause-a : goal.either_list-requires-clause-a
either_list-requires-clause-a c = AllStand-keeps c.in_ok-result.ensures.keeps c.requires.a.refs

pub either_list-requires-clause-b : goal.either_list-requires-clause-b
either_list-requires-clause-b c = AllStand-keeps c.in_ok-result.ensures.keeps c.requires.b.refs

pub returns-clause-either : goal.returns-clause-either
returns-clause-either c = either_ended c.in_ok-refs.refs c.in_ok-refs.ensures.keeps c.in_ok-result.ensures.either c.in_ok-refs.ensures.either
