use Rattle.sk_opts.proofs.PragmaWords.{word_number}
use Rattle.sk_opts.proofs.pragmas.read_word.Goals as goal

pub returns-in-Some-value_in-clause-value : goal.returns-in-Some-value_in-clause-value
returns-in-Some-value_in-clause-value c =
    word_number c.args.read.set c.set_by.result c.args.word.now c.args.read.before c.in-Some.setting _ c.in-Some.is c.in-Some-value_in.ensures.value c.set_by.ensures.value
