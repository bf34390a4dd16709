use Rattle.std.proofs.Common.{◌≡◌, ◌++◌, length, map}
use Rattle.sk_app_texts.specs.ValueTexts.{value_text}
use Rattle.sk_explain_answers.proofs.pairs.words_of.Given as goal

abbrev pub invariant-loop-rest : goal.invariant-loop-rest
invariant-loop-rest l = l.words ++ map value_text l.rest ≡ map value_text l.values

abbrev pub decreases-loop-rest : goal.decreases-loop-rest
decreases-loop-rest l = length l.rest
