use Rattle.std.proofs.Common.{◌≡◌, ◌++◌, ℕ, suc, List, length, Option, Some, None, option_map}
use Rattle.sk_explain_answers.specs.Pieces.{pieces}
use Rattle.sk_explain_answers.proofs.PieceLemmas.{pieces_behind}
use Rattle.sk_explain_answers.proofs.pieces.pieces.Given as goal

abbrev size : Option (List ℕ) → ℕ
size None = 0
size (Some rest) = suc (length rest)

-- the pieces so far, and those of what is left
abbrev pub invariant-loop-left : goal.invariant-loop-left
invariant-loop-left l = l.list ++ pieces_behind l.sign (option_map (λ rest. rest.now) l.left) ≡ pieces l.sign l.bytes

abbrev pub decreases-loop-left : goal.decreases-loop-left
decreases-loop-left l = size (option_map (λ rest. rest.now) l.left)
