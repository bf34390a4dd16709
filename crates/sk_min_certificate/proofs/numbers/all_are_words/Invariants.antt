use Rattle.std.proofs.Common.{All, take}
use Rattle.sk_base.specs.Word.{IsWord}
use Rattle.sk_min_certificate.proofs.numbers.all_are_words.Given as goal

-- those so far
abbrev pub invariant-loop-numbers : goal.invariant-loop-numbers
invariant-loop-numbers l = All (All (IsWord 64)) (take l.numbers-index l.args)
