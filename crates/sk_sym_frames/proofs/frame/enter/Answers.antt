use Rattle.sk_sym_frames.proofs.Frames.{entered_is}
use Rattle.sk_sym_frames.proofs.frame.enter.Goals as goal

pub returns-clause-entered : goal.returns-clause-entered
returns-clause-entered c = rw (c.replace-frame.ensures.value, c.replace-frame.ensures.after) (entered_is c.requires.stands c.requires.args c.in_ok-returned.ensures.keeps c.in_ok-returned.ensures.there c.in_ok-returned.ensures.value)
