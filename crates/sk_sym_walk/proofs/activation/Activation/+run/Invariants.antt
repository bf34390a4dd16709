use Rattle.std.proofs.Common.{◌≡◌, ◌+◌, ◌*◌, ◌≤◌, take, length}
use Rattle.sk_sym_state.specs.Meaning.{Executes}
use Rattle.sk_sym_walk.specs.Walk.{exec_all_at, all_part, IsBehind}
use Rattle.sk_sym_walk.specs.Parts.{list_part, AreEvaluated}
use Rattle.sk_sym_walk.specs.Copies.{copies_at}
use Rattle.sk_sym_walk.specs.Orders.{turns_at, turn_at}
use Rattle.sk_sym_walk.specs.Targets.{fields_part, AreSetTo}
use Rattle.sk_sym_walk.proofs.activation.Activation.+run.Given as goal

abbrev pub decreases-exec : goal.decreases-exec
decreases-exec l = 8 * l.room

abbrev pub decreases-exec_all : goal.decreases-exec_all
decreases-exec_all l = 8 * l.room + 1

abbrev pub decreases-other : goal.decreases-other
decreases-other l = 8 * l.room + 1

abbrev pub decreases-block : goal.decreases-block
decreases-block l = 8 * l.room + 2

abbrev pub decreases-both_ways : goal.decreases-both_ways
decreases-both_ways l = 8 * l.room + 2

abbrev pub decreases-ways : goal.decreases-ways
decreases-ways l = 8 * l.room + 3

abbrev pub decreases-branches : goal.decreases-branches
decreases-branches l = 8 * l.room + 4

abbrev pub decreases-turn : goal.decreases-turn
decreases-turn l = 8 * l.room

abbrev pub decreases-may_turn : goal.decreases-may_turn
decreases-may_turn l = 8 * l.room + 1

abbrev pub decreases-decided : goal.decreases-decided
decreases-decided l = 8 * l.room + 2

abbrev pub decreases-turns : goal.decreases-turns
decreases-turns l = 8 * l.room + 3

abbrev pub decreases-copy : goal.decreases-copy
decreases-copy l = 8 * l.room + 4

abbrev pub decreases-some_copies : goal.decreases-some_copies
decreases-some_copies l = 8 * l.room + 5

abbrev pub decreases-copies : goal.decreases-copies
decreases-copies l = 8 * l.room + 6

abbrev pub decreases-repeat : goal.decreases-repeat
decreases-repeat l = 8 * l.room + 7

abbrev pub decreases-one_turn : goal.decreases-one_turn
decreases-one_turn l = 8 * l.room + 4

abbrev pub decreases-all_turns : goal.decreases-all_turns
decreases-all_turns l = 8 * l.room + 5

abbrev pub decreases-ordered : goal.decreases-ordered
decreases-ordered l = 8 * l.room + 6

abbrev pub decreases-reorder : goal.decreases-reorder
decreases-reorder l = 8 * l.room + 7

-- the statements so far are done
abbrev pub invariant-exec_all-loop-stmt : goal.invariant-exec_all-loop-stmt
invariant-exec_all-loop-stmt l = record {
  executes : Executes l.self.setting l.fn.dag l.dag l.fn.state l.state (exec_all_at l.self l.fn.at (take l.stmt-index l.stmts));
  place : IsBehind (all_part l.self (take l.stmt-index l.stmts)) l.fn.at l.at;
}

abbrev pub decreases-eval : goal.decreases-eval
decreases-eval l = 8 * l.room

abbrev pub decreases-test : goal.decreases-test
decreases-test l = 8 * l.room + 1

abbrev pub decreases-single : goal.decreases-single
decreases-single l = 8 * l.room + 1

abbrev pub decreases-double : goal.decreases-double
decreases-double l = 8 * l.room + 1

abbrev pub decreases-guarded : goal.decreases-guarded
decreases-guarded l = 8 * l.room + 1

abbrev pub decreases-both : goal.decreases-both
decreases-both l = 8 * l.room + 1

abbrev pub decreases-also : goal.decreases-also
decreases-also l = 8 * l.room + 2

abbrev pub decreases-otherwise : goal.decreases-otherwise
decreases-otherwise l = 8 * l.room + 2

abbrev pub decreases-pick : goal.decreases-pick
decreases-pick l = 8 * l.room + 2

abbrev pub decreases-binary : goal.decreases-binary
decreases-binary l = 8 * l.room + 3

abbrev pub decreases-cond : goal.decreases-cond
decreases-cond l = 8 * l.room + 3

abbrev pub decreases-all : goal.decreases-all
decreases-all l = 8 * l.room + 1

abbrev pub decreases-braces : goal.decreases-braces
decreases-braces l = 8 * l.room + 2

-- the expressions so far are evaluated
abbrev pub invariant-all-loop-part : goal.invariant-all-loop-part
invariant-all-loop-part l = AreEvaluated l.self l.fn.dag l.dag l.fn.state l.state l.fn.at l.at (list_part l.self l.span (take l.part-index l.parts)) l.made

abbrev pub decreases-act : goal.decreases-act
decreases-act l = 8 * l.room + 1

abbrev pub decreases-within : goal.decreases-within
decreases-within l = 8 * l.room + 2

abbrev pub decreases-call_of : goal.decreases-call_of
decreases-call_of l = 8 * l.room + 1

abbrev pub decreases-call_with : goal.decreases-call_with
decreases-call_with l = 8 * l.room + 2

abbrev pub decreases-call : goal.decreases-call
decreases-call l = 8 * l.room + 3

-- the copies so far are done
abbrev pub invariant-some_copies-loop-stmt : goal.invariant-some_copies-loop-stmt
invariant-some_copies-loop-stmt l = record {
  executes : Executes l.self.setting l.fn.dag l.dag l.fn.state l.state (copies_at l.self l.site l.fn.at (take l.stmt-index l.copies));
  place : IsBehind (all_part l.self (take l.stmt-index l.copies)) l.fn.at l.at;
  count : l.k ≡ l.stmt-index;
}

-- the turns so far are done
abbrev pub invariant-all_turns-loop-n : goal.invariant-all_turns-loop-n
invariant-all_turns-loop-n l = record {
  executes : Executes l.self.setting l.fn.dag l.dag l.fn.state l.state (turns_at l.self l.first l.n l.stmts l.start);
  within : l.n ≤ length l.stmts;
}

-- of the statements so far the one is done whose turn it is
abbrev pub invariant-one_turn-loop-stmt : goal.invariant-one_turn-loop-stmt
invariant-one_turn-loop-stmt l = record {
  executes : Executes l.self.setting l.fn.dag l.dag l.fn.state l.state (turn_at l.self l.first (length l.stmts) l.n (take l.stmt-index l.stmts) l.fn.at);
  place : IsBehind (all_part l.self (take l.stmt-index l.stmts)) l.fn.at l.at;
  count : l.k ≡ l.stmt-index;
}

abbrev pub decreases-target : goal.decreases-target
decreases-target l = 8 * l.room

abbrev pub decreases-field_target : goal.decreases-field_target
decreases-field_target l = 8 * l.room + 1

abbrev pub decreases-index_target : goal.decreases-index_target
decreases-index_target l = 8 * l.room + 1

abbrev pub decreases-assign : goal.decreases-assign
decreases-assign l = 8 * l.room + 4

abbrev pub decreases-fields : goal.decreases-fields
decreases-fields l = 8 * l.room + 1

abbrev pub decreases-new_record : goal.decreases-new_record
decreases-new_record l = 8 * l.room + 2

-- the fields so far are set
abbrev pub invariant-fields-loop-x : goal.invariant-fields-loop-x
invariant-fields-loop-x l = AreSetTo l.self l.fn.dag l.dag l.fn.state l.state l.fn.at l.at (fields_part l.self l.span (take l.x-index l.given)) l.made

abbrev pub decreases-strings : goal.decreases-strings
decreases-strings l = 8 * l.room

abbrev pub decreases-both_strings : goal.decreases-both_strings
decreases-both_strings l = 8 * l.room + 1

abbrev pub decreases-string : goal.decreases-string
decreases-string l = 8 * l.room + 2

abbrev pub decreases-pattern : goal.decreases-pattern
decreases-pattern l = 8 * l.room + 1

abbrev pub decreases-end_call : goal.decreases-end_call
decreases-end_call l = 8 * l.room + 1

abbrev pub decreases-copy_back : goal.decreases-copy_back
decreases-copy_back l = 8 * l.room

abbrev pub decreases-copy_arg : goal.decreases-copy_arg
decreases-copy_arg l = 8 * l.room + 2

abbrev pub decreases-copy_one : goal.decreases-copy_one
decreases-copy_one l = 8 * l.room + 1

abbrev pub decreases-place : goal.decreases-place
decreases-place l = 8 * l.room + 2

abbrev pub decreases-target_place : goal.decreases-target_place
decreases-target_place l = 8 * l.room + 1

abbrev pub decreases-pattern_place : goal.decreases-pattern_place
decreases-pattern_place l = 8 * l.room + 1

abbrev pub decreases-places : goal.decreases-places
decreases-places l = 8 * l.room

abbrev pub decreases-string_place : goal.decreases-string_place
decreases-string_place l = 8 * l.room + 4

abbrev pub decreases-both_places : goal.decreases-both_places
decreases-both_places l = 8 * l.room + 3
