use Rattle.std.proofs.Common.{drop, ◌+◌, ◌-◌, ◌*◌, length}
use Rattle.sk_model.specs.Nodes.{stmts_nodes}
use Rattle.sk_model.specs.Expand.{times}
use Rattle.sk_expand.specs.Made.{After}
use Rattle.sk_expand.specs.Nodes.{exprs_nodes, fields_nodes}
use Rattle.sk_expand.specs.Walking.{exprs_in, fields_in, stmts_in}
use Rattle.sk_expand.proofs.walker.Walker.+walk.Given as goal

abbrev pub decreases-expr : goal.decreases-expr
decreases-expr l = 6 * l.levels

abbrev pub decreases-stmt : goal.decreases-stmt
decreases-stmt l = 6 * l.levels

abbrev pub decreases-boxed : goal.decreases-boxed
decreases-boxed l = 6 * l.levels + 1

abbrev pub decreases-exprs : goal.decreases-exprs
decreases-exprs l = 6 * l.levels + 1

abbrev pub decreases-fields : goal.decreases-fields
decreases-fields l = 6 * l.levels + 1

abbrev pub decreases-value : goal.decreases-value
decreases-value l = 6 * l.levels + 1

abbrev pub decreases-boxed_stmt : goal.decreases-boxed_stmt
decreases-boxed_stmt l = 6 * l.levels + 1

abbrev pub decreases-stmts : goal.decreases-stmts
decreases-stmts l = 6 * l.levels + 1

abbrev pub decreases-part : goal.decreases-part
decreases-part l = 6 * l.levels + 2

abbrev pub decreases-parts : goal.decreases-parts
decreases-parts l = 6 * l.levels + 2

abbrev pub decreases-new_record : goal.decreases-new_record
decreases-new_record l = 6 * l.levels + 2

abbrev pub decreases-index : goal.decreases-index
decreases-index l = 6 * l.levels + 2

abbrev pub decreases-slice : goal.decreases-slice
decreases-slice l = 6 * l.levels + 2

abbrev pub decreases-binary : goal.decreases-binary
decreases-binary l = 6 * l.levels + 2

abbrev pub decreases-choice : goal.decreases-choice
decreases-choice l = 6 * l.levels + 2

abbrev pub decreases-otherwise : goal.decreases-otherwise
decreases-otherwise l = 6 * l.levels + 2

abbrev pub decreases-times : goal.decreases-times
decreases-times l = 6 * l.levels + 2

abbrev pub decreases-copied : goal.decreases-copied
decreases-copied l = 6 * l.levels + 2

abbrev pub decreases-declared : goal.decreases-declared
decreases-declared l = 6 * l.levels + 2

abbrev pub decreases-assigned : goal.decreases-assigned
decreases-assigned l = 6 * l.levels + 1

abbrev pub decreases-call : goal.decreases-call
decreases-call l = 6 * l.levels + 3

abbrev pub decreases-branches : goal.decreases-branches
decreases-branches l = 6 * l.levels + 3

abbrev pub decreases-looped : goal.decreases-looped
decreases-looped l = 6 * l.levels + 2

abbrev pub decreases-repeated : goal.decreases-repeated
decreases-repeated l = 6 * l.levels + 3

abbrev pub decreases-minrepeated : goal.decreases-minrepeated
decreases-minrepeated l = 6 * l.levels + 3

abbrev pub decreases-call_form : goal.decreases-call_form
decreases-call_form l = 6 * l.levels + 4

abbrev pub decreases-eform : goal.decreases-eform
decreases-eform l = 6 * l.levels + 5

abbrev pub decreases-form : goal.decreases-form
decreases-form l = 6 * l.levels + 5

-- what is made so far, and what becomes of the rest, is all that is made
abbrev pub invariant-exprs-loop-e : goal.invariant-exprs-loop-e
invariant-exprs-loop-e l =
    After exprs_nodes l.all.items l.fn.made l.made (exprs_in l.self l.es (length l.fn.made.copies)) (exprs_in l.self (drop l.e-index l.es) (length l.made.copies))

abbrev pub invariant-fields-loop-x : goal.invariant-fields-loop-x
invariant-fields-loop-x l =
    After fields_nodes l.all.items l.fn.made l.made (fields_in l.self l.given (length l.fn.made.copies)) (fields_in l.self (drop l.x-index l.given) (length l.made.copies))

abbrev pub invariant-stmts-loop-s : goal.invariant-stmts-loop-s
invariant-stmts-loop-s l =
    After stmts_nodes l.all.items l.fn.made l.made (stmts_in l.self l.ss (length l.fn.made.copies)) (stmts_in l.self (drop l.s-index l.ss) (length l.made.copies))

abbrev pub invariant-times-loop-turn : goal.invariant-times-loop-turn
invariant-times-loop-turn l =
    After stmts_nodes l.all.items l.fn.made l.made (times l.count (stmts_in l.self l.ss) (length l.fn.made.copies)) (times (l.count - l._turn) (stmts_in l.self l.ss) (length l.made.copies))
