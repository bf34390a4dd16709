use Rattle.sk_parser.proofs.ParseLaws.{found, only, no_reading, too_many, bad}
use Rattle.sk_parser.proofs.reader.parse.Goals as goal

pub returns-clause-found : goal.returns-clause-found
returns-clause-found c = found c.args.tokens.now c.read.result c.read.ensures.answers

pub returns-clause-only : goal.returns-clause-only
returns-clause-only c = only c.args.tokens.now c.read.result c.read.ensures.answers

pub returns-clause-no_reading : goal.returns-clause-no_reading
returns-clause-no_reading c = no_reading c.args.tokens.now c.read.result c.read.ensures.answers

pub returns-clause-too_many : goal.returns-clause-too_many
returns-clause-too_many c = too_many c.args.tokens.now c.read.result c.read.ensures.answers

pub returns-clause-bad : goal.returns-clause-bad
returns-clause-bad c = bad c.args.tokens.now c.read.result c.read.ensures.answers
