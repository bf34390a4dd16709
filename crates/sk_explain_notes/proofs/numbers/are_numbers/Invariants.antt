use Rattle.std.proofs.Common.{◌≡◌, ℕ, suc, List, length, Option, Some, None, option_map}
use Rattle.sk_explain_notes.specs.Numbers.{are_numbers}
use Rattle.sk_explain_notes.proofs.NumberLemmas.{are_behind}
use Rattle.sk_explain_notes.proofs.numbers.are_numbers.Given as goal

abbrev size : Option (List ℕ) → ℕ
size None = 0
size (Some rest) = suc (length rest)

abbrev pub invariant-loop-left : goal.invariant-loop-left
invariant-loop-left l = are_numbers l.word ≡ are_behind (option_map (λ rest. rest.now) l.left)

abbrev pub decreases-loop-left : goal.decreases-loop-left
decreases-loop-left l = size (option_map (λ rest. rest.now) l.left)
