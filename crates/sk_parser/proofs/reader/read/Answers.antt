use Rattle.sk_parser.proofs.Verdicts.{answers_of}
use Rattle.sk_parser.proofs.reader.read.Goals as goal

pub returns-in-Ok-clause-answers : goal.returns-in-Ok-clause-answers
returns-in-Ok-clause-answers c = answers_of c.args.tokens.now c.in-Ok.tree c.checked.result c.in-Ok.ensures c.checked.ensures.checks
