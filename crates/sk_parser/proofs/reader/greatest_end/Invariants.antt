use Rattle.std.proofs.Common.{◌≡◌, max, drop}
use Rattle.sk_parser.specs.Parses.{greatest_end}
use Rattle.sk_parser.proofs.reader.greatest_end.Given as goal

abbrev pub invariant-loop-token : goal.invariant-loop-token
invariant-loop-token l = max l.greatest (greatest_end (drop l.token-index l.tokens)) ≡ greatest_end l.tokens
