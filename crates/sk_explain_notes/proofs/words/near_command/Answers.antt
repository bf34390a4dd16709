use Rattle.sk_explain_notes.proofs.words.near_command.Goals as goal

pub returns : goal.returns
returns c = c.in_ok-near.ensures
