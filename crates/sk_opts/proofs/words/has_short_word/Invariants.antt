use Rattle.std.proofs.Common.{◌≡◌, length, map}
use Rattle.std.specs.String.{string_bytes}
use Rattle.sk_opts.specs.Matching.{has_short_word}
use Rattle.sk_opts.proofs.words.has_short_word.Given as goal

abbrev pub invariant-loop-rest : goal.invariant-loop-rest
invariant-loop-rest l = has_short_word (map string_bytes l.words) ≡ has_short_word (map string_bytes l.rest)

abbrev pub decreases-loop-rest : goal.decreases-loop-rest
decreases-loop-rest l = length l.rest
