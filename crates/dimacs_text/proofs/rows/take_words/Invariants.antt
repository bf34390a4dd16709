use Rattle.std.proofs.Common.{◌≡◌, ◌++◌, ℕ, List, take, map}
use Rattle.dimacs_text.specs.Reading.{IsRead}
use Rattle.dimacs_text.proofs.rows.take_words.Given as goal

abbrev pub invariant-loop-word : goal.invariant-loop-word
invariant-loop-word l = (ws : List (List ℕ)) → IsRead l.limit ws l.fn.rows.clauses l.fn.rows.begun.items
    → IsRead l.limit (ws ++ take l.word-index (map (λ x. x.now) l.words)) l.rows.clauses l.rows.begun.items
