use Rattle.std.proofs.Common.{◌≡◌, ◌+◌, ◌*◌, ◌-◌, ◌++◌, drop, map}
use Rattle.sk_interp_laws.specs.Recording.{and_then, Goes}
use Rattle.sk_interp_laws.specs.Eval.{in_order, fields_in_order, copy_back, ref_args}
use Rattle.sk_interp_laws.specs.Exec.{turns}
use Rattle.sk_interp_laws.specs.Kept.{kept}
use Rattle.sk_interp.specs.Calling.{does_in, each_in, field_in, exec_in, exec_all_in}
use Rattle.sk_interp.proofs.activation.Activation.+run.Given as goal

abbrev pub decreases-eval : goal.decreases-eval
decreases-eval l = 5 * l.room

abbrev pub decreases-target : goal.decreases-target
decreases-target l = 5 * l.room

abbrev pub decreases-exec : goal.decreases-exec
decreases-exec l = 5 * l.room

abbrev pub decreases-binary : goal.decreases-binary
decreases-binary l = 5 * l.room + 1

abbrev pub decreases-eval_all : goal.decreases-eval_all
decreases-eval_all l = 5 * l.room + 1

abbrev pub decreases-eval_fields : goal.decreases-eval_fields
decreases-eval_fields l = 5 * l.room + 1

abbrev pub decreases-copy_back : goal.decreases-copy_back
decreases-copy_back l = 5 * l.room + 1

abbrev pub decreases-turns : goal.decreases-turns
decreases-turns l = 5 * l.room + 2

abbrev pub decreases-exec_all : goal.decreases-exec_all
decreases-exec_all l = 5 * l.room + 1

abbrev pub decreases-call : goal.decreases-call
decreases-call l = 5 * l.room + 2

abbrev pub decreases-call_value : goal.decreases-call_value
decreases-call_value l = 5 * l.room + 4

abbrev pub decreases-call_with : goal.decreases-call_with
decreases-call_with l = 5 * l.room + 3

abbrev pub decreases-new_record : goal.decreases-new_record
decreases-new_record l = 5 * l.room + 3

abbrev pub decreases-braces : goal.decreases-braces
decreases-braces l = 5 * l.room + 3

abbrev pub decreases-member : goal.decreases-member
decreases-member l = 5 * l.room + 1

abbrev pub decreases-load : goal.decreases-load
decreases-load l = 5 * l.room + 1

abbrev pub decreases-index : goal.decreases-index
decreases-index l = 5 * l.room + 1

abbrev pub decreases-slice : goal.decreases-slice
decreases-slice l = 5 * l.room + 1

abbrev pub decreases-unary : goal.decreases-unary
decreases-unary l = 5 * l.room + 1

abbrev pub decreases-cond : goal.decreases-cond
decreases-cond l = 5 * l.room + 1

abbrev pub decreases-number_of : goal.decreases-number_of
decreases-number_of l = 5 * l.room + 1

abbrev pub decreases-pad : goal.decreases-pad
decreases-pad l = 5 * l.room + 1

abbrev pub decreases-holds : goal.decreases-holds
decreases-holds l = 5 * l.room + 1

abbrev pub decreases-set : goal.decreases-set
decreases-set l = 5 * l.room + 1

abbrev pub decreases-assign : goal.decreases-assign
decreases-assign l = 5 * l.room + 1

abbrev pub decreases-drop_value : goal.decreases-drop_value
decreases-drop_value l = 5 * l.room + 1

abbrev pub decreases-branch : goal.decreases-branch
decreases-branch l = 5 * l.room + 2

abbrev pub decreases-branches : goal.decreases-branches
decreases-branches l = 5 * l.room + 2

abbrev pub decreases-give : goal.decreases-give
decreases-give l = 5 * l.room + 1

abbrev pub decreases-assert : goal.decreases-assert
decreases-assert l = 5 * l.room + 2

abbrev pub decreases-assume : goal.decreases-assume
decreases-assume l = 5 * l.room + 2

abbrev pub decreases-minimize : goal.decreases-minimize
decreases-minimize l = 5 * l.room + 1

-- the values so far and those to come are all values
abbrev pub invariant-eval_all-loop-e : goal.invariant-eval_all-loop-e
invariant-eval_all-loop-e l =
    in_order l.span (each_in l.self l.es) l.fn.machine ≡ and_then (in_order l.span (each_in l.self (drop l.e-index l.es)) l.machine) (λ rest s. Goes (l.values ++ rest) s)

abbrev pub invariant-eval_fields-loop-f : goal.invariant-eval_fields-loop-f
invariant-eval_fields-loop-f l =
    fields_in_order l.span (map (field_in l.self) l.fields) l.fn.machine ≡ and_then (fields_in_order l.span (map (field_in l.self) (drop l.f-index l.fields)) l.machine) (λ rest s. Goes (l.set.items ++ rest) s)

-- what is left to do from here is what there was to do from the start
abbrev pub invariant-copy_back-loop-a : goal.invariant-copy_back-loop-a
invariant-copy_back-loop-a l =
    copy_back l.span (ref_args l.fn.params (each_in l.self l.args)) l.fn.refs l.fn.machine ≡ copy_back l.span (ref_args l.params (each_in l.self (drop l.a-index l.args))) l.refs l.machine

abbrev pub invariant-exec_all-loop-stmt : goal.invariant-exec_all-loop-stmt
invariant-exec_all-loop-stmt l =
    exec_all_in l.self l.stmts l.fn.machine ≡ exec_all_in l.self (drop l.stmt-index l.stmts) l.machine

abbrev pub invariant-turns-loop-turn : goal.invariant-turns-loop-turn
invariant-turns-loop-turn l =
    turns kept l.self.depth l.self.bounds.unroll l.span (does_in l.self l.cond) (exec_in l.self l.body) l.fn.machine ≡ turns kept l.self.depth (l.self.bounds.unroll - l._turn) l.span (does_in l.self l.cond) (exec_in l.self l.body) l.machine
