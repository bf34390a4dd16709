use Rattle.sk_opts.proofs.LineLaws.{lines_are_one}
use Rattle.sk_opts.proofs.laws.words_spell_one_line.Goals as goal

pub returns : goal.returns
returns c = lines_are_one
