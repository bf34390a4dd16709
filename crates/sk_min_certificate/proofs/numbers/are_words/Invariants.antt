use Rattle.std.proofs.Common.{All, take}
use Rattle.sk_base.specs.Word.{IsWord}
use Rattle.sk_min_certificate.proofs.numbers.are_words.Given as goal

-- those so far
abbrev pub invariant-loop-number : goal.invariant-loop-number
invariant-loop-number l = All (IsWord 64) (take l.number-index l.numbers)
