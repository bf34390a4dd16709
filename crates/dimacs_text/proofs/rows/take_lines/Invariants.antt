use Rattle.std.proofs.Common.{◌≡◌, ◌++◌, ℕ, List, take, map}
use Rattle.std.specs.List.{flat_map}
use Rattle.dimacs_text.specs.Formula.{said}
use Rattle.dimacs_text.specs.Reading.{IsRead}
use Rattle.dimacs_text.proofs.rows.take_lines.Given as goal

abbrev pub invariant-loop-i : goal.invariant-loop-i
invariant-loop-i l = (ws : List (List ℕ)) → IsRead l.limit ws l.fn.rows.clauses l.fn.rows.begun.items
    → IsRead l.limit (ws ++ flat_map said (take l.i (map (λ x. x.now) l.lines))) l.rows.clauses l.rows.begun.items
