use Rattle.std.specs.Prelude.{◌==◌, if◌then◌else◌}
use Rattle.std.proofs.Common.{◌≡◌, ◌+◌, ◌-◌, length, true, false, arith, refl, sym, ap, subst, ◌∙◌, take}
use Rattle.std.proofs.lemmas.List.{take_all}
use Rattle.sk_dag.specs.declared.env.Env.{Env}
use Rattle.sk_dag.specs.Graph.{Graph, Grows, BoolSort}
use Rattle.sk_dag.specs.Eval.{bool_value}
use Rattle.sk_dag.proofs.EvalLemmas.{Keeps-trans, Keeps_four}
use Rattle.sk_arr.proofs.Standing.{Stands-keeps, bit_there, bit_stands, array_stands}
use Rattle.sk_sym_state.proofs.Standing.{AnyStands-keeps, StateStands-keeps, SideStands-keeps, turned_stands, gone_stands}
use Rattle.sk_sym_walk.specs.Walk.{eval_part, exec_all_at, stmt_part, all_part}
use Rattle.sk_sym_walk.specs.Parts.{given, list_part, AreEvaluated, other_part}
use Rattle.sk_sym_walk.proofs.Sequences.{ok_more, evaluated_as, bit_worth, evaluated_then, evaluated_parts, two_evaluated, given_evaluated, on_ok, same_part, executed_as, executed_parts, executed_none, executed_over, siteless_executed, siteless_evaluated, executes_cut, executes_nothing, executed_then}
use Rattle.sk_sym_walk.proofs.Ways.{first_evaluated, second_evaluated, both_evaluated, guarded_is, also_evaluated, otherwise_evaluated, first_executed, second_executed, both_executed}
use Rattle.sk_sym_walk.proofs.Layers.{same_inside, same_unary, same_to_int, same_pad, same_member, same_index, same_slice, same_braces, same_binary, same_cond, same_eager, same_also, same_otherwise, same_block, same_assert, same_assume, same_minimize, same_call, same_return, same_end, same_zero, same_declare, same_branch, all_count, all_more, same_calling}
use Rattle.sk_sym_walk.proofs.Conditions.{tested_is, evaluated_by, executed_by, no_string, no_string_target, siteless_placed}
use Rattle.sk_sym_walk.proofs.Lists.{list_none, list_more, braces_evaluated}
use Rattle.sk_sym_walk.proofs.Places.{expr_behind, stmt_behind, other_behind}
use Rattle.sk_model.specs.Sites.{is_hole}
use Rattle.sk_model.specs.Step.{and_then, pure}
use Rattle.sk_model.specs.Exec.{Onward, unless_returned}
use Rattle.sk_sym_state.specs.Meaning.{Executes}
use Rattle.sk_sym_state.proofs.Ends.{executes_same}
use Rattle.sk_sym_state.proofs.Following.{executes_then}
use Rattle.std.specs.Option.{option_copied}
use Rattle.sk_model.specs.declared.expanded.Expanded.{Expanded}
use Rattle.sk_sym_state.specs.Stands.{StateStands}
use Rattle.sk_sym_forms.proofs.Frames.{CallerStands-keeps}
use Rattle.sk_sym_walk.specs.Calls.{copied_at, AreCopiedBack}
use Rattle.sk_sym_walk.proofs.Called.{called_is, ended_evaluates, call_evaluates, refused_evaluates, over_evaluates, call_evaluated}
use Rattle.sk_sym_walk.proofs.Copying.{first_stands, more_stand, back_no_params, back_no_args, back_no_values, back_arg, back_passed, one_back}
use Rattle.sk_sym_places.proofs.Assigning.{given_stored}
use Rattle.sk_arr.specs.Shapes.{AllStand}
use Rattle.sk_arr.proofs.Standing.{AllStand-keeps}
use Rattle.sk_sym_walk.specs.Copies.{copies_at, copy_part}
use Rattle.sk_sym_walk.specs.Orders.{number_at, turn_at, AreOrders}
use Rattle.sk_sym_walk.proofs.Turns.{same_while, loop_behind, turns_executed, turn_fails, turn_executed, decided_on, decided_off, decided_both}
use Rattle.sk_sym_walk.proofs.Copies.{same_minrepeat, same_repeat, copies_none, copies_more, copies_executed, some_copies, all_copies, copy_executed}
use Rattle.sk_sym_walk.proofs.Orders.{same_reorder, turn_more, turns_more, turns_whole, reorder_executed, all_behind, orders_keep, is_turn, turn_taken}
use Rattle.sk_model.specs.Heap.{allocate}
use Rattle.sk_sym_forms.specs.Steps.{EvaluatesOn}
use Rattle.sk_sym_places.specs.Records.{InitsStand, InitsAre}
use Rattle.sk_sym_places.proofs.Places.{PlaceStands-keeps}
use Rattle.sk_sym_walk.specs.Targets.{target_part, fields_part, AreSetTo}
use Rattle.sk_sym_walk.proofs.Targets.{located_as, same_variable_target, same_field_target, same_index_target, same_new, same_assign, variable_located, field_located, index_located, fields_none, fields_more, new_evaluated}
use Rattle.sk_sym_walk.specs.Patterns.{strings_part, strings_target}
use Rattle.sk_sym_walk.proofs.Patterns.{same_pattern, pattern_evaluated, strings_evaluated, strings_behind}
use Rattle.sk_sym_walk.proofs.Placed.{placed_as, one_placed, same_pattern_target, pattern_placed, strings_placed, first_placed, second_placed, both_placed, assigned}
use Rattle.sk_sym_walk.proofs.activation.Activation.+run.Goals as goal

-- ---- forms

pub eval-hole-requires-clause-hole : goal.eval-hole-requires-clause-hole
eval-hole-requires-clause-hole t c = ap is_hole c.in-Hole.is

pub eval-eval-requires : goal.eval-eval-requires
eval-eval-requires t c = (omega arith, c.requires.stands)

pub eval-single-requires : goal.eval-single-requires
eval-single-requires t c = (omega arith, c.requires.stands)

pub eval-single-requires-in-ToInt : goal.eval-single-requires-in-ToInt
eval-single-requires-in-ToInt t c = (omega arith, c.requires.stands)

pub eval-single-requires-in-Pad : goal.eval-single-requires-in-Pad
eval-single-requires-in-Pad t c = (omega arith, c.requires.stands)

pub eval-binary-requires : goal.eval-binary-requires
eval-binary-requires t c = (omega arith, c.requires.stands)

pub eval-cond-requires : goal.eval-cond-requires
eval-cond-requires t c = (omega arith, c.requires.stands)

pub eval-returns-in-Paren-clause-evaluated : goal.eval-returns-in-Paren-clause-evaluated
eval-returns-in-Paren-clause-evaluated t c =
    let is = rw (← c.get.ensures) at c.in-Paren.is in
    ok_more c.eval.result (λ r. evaluated_as (same_inside c.args.self.now c.args.span c.args.e.now c.get.result.now c.inside.result.now is c.inside.ensures)) c.eval.ensures.evaluated

pub eval-returns-in-Unary-clause-evaluated : goal.eval-returns-in-Unary-clause-evaluated
eval-returns-in-Unary-clause-evaluated t c =
    let is = rw (← c.get-in-Unary.ensures) at c.in-Unary.is in
    ok_more c.single.result (λ r. evaluated_as (same_unary c.args.self.now c.args.span c.args.e.now c.in-Unary.op c.get-in-Unary.result.now is)) c.single.ensures.evaluated

pub eval-returns-in-ToInt-clause-evaluated : goal.eval-returns-in-ToInt-clause-evaluated
eval-returns-in-ToInt-clause-evaluated t c =
    let is = rw (← c.get-in-ToInt.ensures) at c.in-ToInt.is in
    ok_more c.single-in-ToInt.result (λ r. evaluated_as (same_to_int c.args.self.now c.args.span c.args.e.now c.get-in-ToInt.result.now is)) c.single-in-ToInt.ensures.evaluated

pub eval-returns-in-Pad-clause-evaluated : goal.eval-returns-in-Pad-clause-evaluated
eval-returns-in-Pad-clause-evaluated t c =
    let is = rw (← c.get-in-Pad.ensures) at c.in-Pad.is in
    ok_more c.single-in-Pad.result (λ r. evaluated_as (same_pad c.args.self.now c.args.span c.args.e.now c.get-in-Pad.result.now is)) c.single-in-Pad.ensures.evaluated

pub eval-returns-in-Binary-clause-evaluated : goal.eval-returns-in-Binary-clause-evaluated
eval-returns-in-Binary-clause-evaluated t c =
    let is = rw (← c.get-in-Binary.ensures, ← c.get-in-Binary-2.ensures) at c.in-Binary.is in
    ok_more c.binary.result (λ r. evaluated_as (same_binary c.args.self.now c.args.span c.args.e.now c.in-Binary.op c.get-in-Binary.result.now c.get-in-Binary-2.result.now is)) c.binary.ensures.evaluated

pub eval-returns-in-Cond-clause-evaluated : goal.eval-returns-in-Cond-clause-evaluated
eval-returns-in-Cond-clause-evaluated t c =
    let is = rw (← c.get-in-Cond.ensures, ← c.get-in-Cond-2.ensures, ← c.get-in-Cond-3.ensures) at c.in-Cond.is in
    ok_more c.cond.result (λ r. evaluated_as (same_cond c.args.self.now c.args.span c.args.e.now c.get-in-Cond.result.now c.get-in-Cond-2.result.now c.get-in-Cond-3.result.now is)) c.cond.ensures.evaluated

pub eval-single-requires-in-Member : goal.eval-single-requires-in-Member
eval-single-requires-in-Member t c = (omega arith, c.requires.stands)

pub eval-double-requires : goal.eval-double-requires
eval-double-requires t c = (omega arith, c.requires.stands)

pub eval-double-requires-in-Slice : goal.eval-double-requires-in-Slice
eval-double-requires-in-Slice t c = (omega arith, c.requires.stands)

pub eval-braces-requires : goal.eval-braces-requires
eval-braces-requires t c = (omega arith, c.requires.stands)

pub eval-returns-in-Member-clause-evaluated : goal.eval-returns-in-Member-clause-evaluated
eval-returns-in-Member-clause-evaluated t c =
    let is = rw (← c.get-in-Member.ensures) at c.in-Member.is in
    ok_more c.single-in-Member.result (λ r. evaluated_as (same_member c.args.self.now c.args.span c.args.e.now c.get-in-Member.result.now c.in-Member.s c.in-Member.field is)) c.single-in-Member.ensures.evaluated

pub eval-returns-in-Index-clause-evaluated : goal.eval-returns-in-Index-clause-evaluated
eval-returns-in-Index-clause-evaluated t c =
    let is = rw (← c.get-in-Index.ensures, ← c.get-in-Index-2.ensures) at c.in-Index.is in
    ok_more c.double.result (λ r. evaluated_as (same_index c.args.self.now c.args.span c.args.e.now c.get-in-Index.result.now c.get-in-Index-2.result.now is)) c.double.ensures.evaluated

pub eval-returns-in-Slice-clause-evaluated : goal.eval-returns-in-Slice-clause-evaluated
eval-returns-in-Slice-clause-evaluated t c =
    let is = rw (← c.get-in-Slice.ensures, ← c.get-in-Slice-2.ensures) at c.in-Slice.is in
    ok_more c.double-in-Slice.result (λ r. evaluated_as (same_slice c.args.self.now c.args.span c.args.e.now c.get-in-Slice.result.now c.get-in-Slice-2.result.now c.in-Slice.length is)) c.double-in-Slice.ensures.evaluated

pub eval-returns-in-Braces-clause-evaluated : goal.eval-returns-in-Braces-clause-evaluated
eval-returns-in-Braces-clause-evaluated t c =
    let is = rw (← c.as_slice.ensures) at c.in-Braces.is in
    ok_more c.braces.result (λ r. evaluated_as (same_braces c.args.self.now c.args.span c.args.e.now c.as_slice.result.now is)) c.braces.ensures.evaluated

-- ---- lists

pub all-eval-requires : goal.all-eval-requires
all-eval-requires t c = (omega arith, c.loop-part.invariant.evaluate.does.moves.stands)

pub all-loop-part-init : goal.all-loop-part-init
all-loop-part-init t c = rw c.new-made.ensures (list_none c.args.span c.requires.stands)

pub all-loop-part-preserved : goal.all-loop-part-preserved
all-loop-part-preserved t c = rw c.in_ok-push.ensures.ok (list_more c.args.self.now c.args.span c.args.parts.now c.loop-part.part-index c.part-item.result c.loop-part-test.true c.part-item.is c.loop-part.invariant c.in_ok-one.ensures.evaluated)

pub all-returns-in_err-one-clause-keeps : goal.all-returns-in_err-one-clause-keeps
all-returns-in_err-one-clause-keeps t c = Keeps-trans c.loop-part.invariant.evaluate.does.moves.keeps c.eval.ensures.keeps

pub all-returns-in_err-push-clause-keeps : goal.all-returns-in_err-push-clause-keeps
all-returns-in_err-push-clause-keeps t c = Keeps-trans c.loop-part.invariant.evaluate.does.moves.keeps c.in_ok-one.ensures.keeps

pub all-returns-clause-keeps : goal.all-returns-clause-keeps
all-returns-clause-keeps t c = c.loop-part.invariant.evaluate.does.moves.keeps

pub all-returns-clause-evaluated : goal.all-returns-clause-evaluated
all-returns-clause-evaluated t c =
    let whole = take_all c.loop-part.part-index c.args.parts.now (omega arith) in
    subst (λ xs. AreEvaluated c.args.self.now c.args.dag.now c.loop-part.dag c.args.state.now c.loop-part.state c.args.at.now c.loop-part.at (list_part c.args.self.now c.args.span xs) c.loop-part.made) whole c.loop-part.invariant

pub braces-all-requires : goal.braces-all-requires
braces-all-requires t c = (omega arith, c.requires.stands)

pub braces-apply-requires-clause-a : goal.braces-apply-requires-clause-a
braces-apply-requires-clause-a t c = array_stands _ _ c.in_ok-made.ensures.evaluated.evaluate.there

pub braces-returns-in_err-r-clause-keeps : goal.braces-returns-in_err-r-clause-keeps
braces-returns-in_err-r-clause-keeps t c = Keeps-trans c.in_ok-made.ensures.keeps c.apply.ensures.keeps

pub braces-returns-clause-keeps : goal.braces-returns-clause-keeps
braces-returns-clause-keeps t c = Keeps-trans c.in_ok-made.ensures.keeps c.in_ok-r.ensures.keeps

pub braces-returns-clause-evaluated : goal.braces-returns-clause-evaluated
braces-returns-clause-evaluated t c = braces_evaluated c.args.span c.args.ty c.args.parts.now c.in_ok-made.ensures.evaluated c.in_ok-r.ensures.evaluates

-- ---- parts, one after another

pub single-eval-requires : goal.single-eval-requires
single-eval-requires t c = (omega arith, c.requires.stands)

pub single-returns-in_err-r-clause-keeps : goal.single-returns-in_err-r-clause-keeps
single-returns-in_err-r-clause-keeps t c = Keeps-trans c.in_ok-a.ensures.keeps c.apply.ensures.keeps

pub single-returns-clause-keeps : goal.single-returns-clause-keeps
single-returns-clause-keeps t c = Keeps-trans c.in_ok-a.ensures.keeps c.in_ok-r.ensures.keeps

pub single-returns-clause-evaluated : goal.single-returns-clause-evaluated
single-returns-clause-evaluated t c = evaluated_then c.in_ok-a.ensures.evaluated c.in_ok-r.ensures.evaluates

pub double-eval-requires : goal.double-eval-requires
double-eval-requires t c = (omega arith, c.requires.stands)

pub double-eval-requires-2 : goal.double-eval-requires-2
double-eval-requires-2 t c = (omega arith, c.in_ok-a.ensures.evaluated.evaluates.does.moves.stands)

pub double-apply_two-requires-clause-a : goal.double-apply_two-requires-clause-a
double-apply_two-requires-clause-a t c = Stands-keeps c.in_ok-b.ensures.evaluated.evaluates.does.moves.keeps c.in_ok-a.ensures.evaluated.evaluates.there

pub double-returns-in_err-r-clause-keeps : goal.double-returns-in_err-r-clause-keeps
double-returns-in_err-r-clause-keeps t c = Keeps-trans c.in_ok-a.ensures.keeps (Keeps-trans c.in_ok-b.ensures.keeps c.apply_two.ensures.keeps)

pub double-returns-clause-keeps : goal.double-returns-clause-keeps
double-returns-clause-keeps t c = Keeps-trans c.in_ok-a.ensures.keeps (Keeps-trans c.in_ok-b.ensures.keeps c.in_ok-r.ensures.keeps)

pub double-returns-clause-evaluated : goal.double-returns-clause-evaluated
double-returns-clause-evaluated t c = two_evaluated c.in_ok-a.ensures.evaluated c.in_ok-b.ensures.evaluated c.in_ok-r.ensures.evaluates

-- ---- operators

pub binary-test-requires : goal.binary-test-requires
binary-test-requires t c = (omega arith, c.requires.stands)

pub binary-test-requires-in-OrElse : goal.binary-test-requires-in-OrElse
binary-test-requires-in-OrElse t c = (omega arith, c.requires.stands)

pub binary-double-requires : goal.binary-double-requires
binary-double-requires t c = (omega arith, c.requires.stands)

pub binary-also-requires : goal.binary-also-requires
binary-also-requires t c = let v = c.in_ok-c-in-AndThen.ensures.tested in (omega arith, (v.does.moves.stands, v.there))

pub binary-otherwise-requires : goal.binary-otherwise-requires
binary-otherwise-requires t c = let v = c.in_ok-c-in-OrElse.ensures.tested in (omega arith, (v.does.moves.stands, v.there))

pub binary-returns-in_ok-c-in-AndThen-clause-keeps : goal.binary-returns-in_ok-c-in-AndThen-clause-keeps
binary-returns-in_ok-c-in-AndThen-clause-keeps t c = Keeps-trans c.in_ok-c-in-AndThen.ensures.keeps c.also.ensures.keeps

pub binary-returns-in_ok-c-in-AndThen-clause-evaluated : goal.binary-returns-in_ok-c-in-AndThen-clause-evaluated
binary-returns-in_ok-c-in-AndThen-clause-evaluated t c =
    ok_more c.also.result (λ r h. evaluated_as (same_also c.args.self.now c.args.span c.args.op c.args.left.now c.args.right.now c.in-AndThen.is) (evaluated_by (eval_part c.args.self.now c.args.span c.args.right.now) (given false) c.in_ok-c-in-AndThen.ensures.tested h)) c.also.ensures.evaluated

pub binary-returns-in_ok-c-in-OrElse-clause-keeps : goal.binary-returns-in_ok-c-in-OrElse-clause-keeps
binary-returns-in_ok-c-in-OrElse-clause-keeps t c = Keeps-trans c.in_ok-c-in-OrElse.ensures.keeps c.otherwise.ensures.keeps

pub binary-returns-in_ok-c-in-OrElse-clause-evaluated : goal.binary-returns-in_ok-c-in-OrElse-clause-evaluated
binary-returns-in_ok-c-in-OrElse-clause-evaluated t c =
    ok_more c.otherwise.result (λ r h. evaluated_as (same_otherwise c.args.self.now c.args.span c.args.op c.args.left.now c.args.right.now c.in-OrElse.is) (evaluated_by (given true) (eval_part c.args.self.now c.args.span c.args.right.now) c.in_ok-c-in-OrElse.ensures.tested h)) c.otherwise.ensures.evaluated

pub binary-returns-in_default-clause-evaluated : goal.binary-returns-in_default-clause-evaluated
binary-returns-in_default-clause-evaluated t c = ok_more c.double.result (λ r. evaluated_as (same_eager c.args.self.now c.args.span c.args.op c.args.left.now c.args.right.now c.in_default.not-AndThen c.in_default.not-OrElse)) c.double.ensures.evaluated

-- ---- `&&` and `||`

pub also-eval-requires : goal.also-eval-requires
also-eval-requires t c = (omega arith, c.requires.stands)

pub also-guarded-requires : goal.also-guarded-requires
also-guarded-requires t c = (omega arith, (c.requires.stands, c.requires.cond))

pub also-and-requires-clause-a : goal.also-and-requires-clause-a
also-and-requires-clause-a t c = c.in_ok-y-in-None.ensures.guarded.does.moves.keeps.sorts _ BoolSort c.requires.cond

pub also-and-requires-clause-b : goal.also-and-requires-clause-b
also-and-requires-clause-b t c = c.in_ok-y-in-None.ensures.guarded.there

pub also-returns-in-Some-true-clause-evaluated : goal.also-returns-in-Some-true-clause-evaluated
also-returns-in-Some-true-clause-evaluated t c = ok_more c.eval.result (λ r h. first_evaluated c.args.span c.args.cond (eval_part c.args.self.now c.args.span c.args.e.now) (given false) (λ g more e. c.in-Some-true.ensures.value g (h.evaluates.does.moves.keeps.later g more) e ∙ c.in-Some-true.field-0-test) h (λ e. omega arith)) c.eval.ensures.evaluated

pub also-returns-in_ok-pass_expr-in-Some-false-clause-evaluated : goal.also-returns-in_ok-pass_expr-in-Some-false-clause-evaluated
also-returns-in_ok-pass_expr-in-Some-false-clause-evaluated t c =
    let known : (g : Graph) → Grows c.args.dag.now g → (e : Env) → bool_value g e c.args.cond ≡ false = λ g more e. c.in-Some-false.ensures.value g more e ∙ c.in-Some-false.field-0-test in
    second_evaluated c.args.span c.args.cond (eval_part c.args.self.now c.args.span c.args.e.now) (given false) known (expr_behind _ c.args.self.now c.args.span c.args.e.now c.in_ok-pass_expr-in-Some-false.ensures) (given_evaluated c.requires.stands c.requires.cond (bit_stands c.args.dag.now c.args.cond c.requires.cond) known)

pub also-returns-in_ok-r-in-None-clause-keeps : goal.also-returns-in_ok-r-in-None-clause-keeps
also-returns-in_ok-r-in-None-clause-keeps t c = Keeps-trans c.in_ok-y-in-None.ensures.keeps c.in_ok-r-in-None.ensures.keeps

pub also-returns-in_ok-r-in-None-clause-evaluated : goal.also-returns-in_ok-r-in-None-clause-evaluated
also-returns-in_ok-r-in-None-clause-evaluated t c = also_evaluated c.args.span c.in_ok-y-in-None.ensures.guarded c.in_ok-r-in-None.ensures.keeps (bit_stands c.and.new.dag _ c.in_ok-r-in-None.ensures.there) c.in_ok-r-in-None.ensures.value

pub otherwise-eval-requires : goal.otherwise-eval-requires
otherwise-eval-requires t c = (omega arith, c.requires.stands)

pub otherwise-guarded-requires : goal.otherwise-guarded-requires
otherwise-guarded-requires t c = (omega arith, (StateStands-keeps c.in_ok-other-in-None.ensures.keeps c.requires.stands, c.in_ok-other-in-None.ensures.there))

pub otherwise-or-requires-clause-a : goal.otherwise-or-requires-clause-a
otherwise-or-requires-clause-a t c = c.in_ok-y-in-None.ensures.guarded.does.moves.keeps.sorts _ BoolSort (c.in_ok-other-in-None.ensures.keeps.sorts _ BoolSort c.requires.cond)

pub otherwise-or-requires-clause-b : goal.otherwise-or-requires-clause-b
otherwise-or-requires-clause-b t c = c.in_ok-y-in-None.ensures.guarded.there

pub otherwise-returns-in_ok-pass_expr-in-Some-true-clause-evaluated : goal.otherwise-returns-in_ok-pass_expr-in-Some-true-clause-evaluated
otherwise-returns-in_ok-pass_expr-in-Some-true-clause-evaluated t c =
    let known : (g : Graph) → Grows c.args.dag.now g → (e : Env) → bool_value g e c.args.cond ≡ true = λ g more e. c.in-Some-true.ensures.value g more e ∙ c.in-Some-true.field-0-test in
    first_evaluated c.args.span c.args.cond (given true) (eval_part c.args.self.now c.args.span c.args.e.now) known (given_evaluated c.requires.stands c.requires.cond (bit_stands c.args.dag.now c.args.cond c.requires.cond) known) (expr_behind _ c.args.self.now c.args.span c.args.e.now c.in_ok-pass_expr-in-Some-true.ensures)

pub otherwise-returns-in-Some-false-clause-evaluated : goal.otherwise-returns-in-Some-false-clause-evaluated
otherwise-returns-in-Some-false-clause-evaluated t c = ok_more c.eval.result (λ r h. second_evaluated c.args.span c.args.cond (given true) (eval_part c.args.self.now c.args.span c.args.e.now) (λ g more e. c.in-Some-false.ensures.value g (h.evaluates.does.moves.keeps.later g more) e ∙ c.in-Some-false.field-0-test) (λ e. omega arith) h) c.eval.ensures.evaluated

pub otherwise-returns-in_ok-r-in-None-clause-keeps : goal.otherwise-returns-in_ok-r-in-None-clause-keeps
otherwise-returns-in_ok-r-in-None-clause-keeps t c = Keeps-trans c.in_ok-other-in-None.ensures.keeps (Keeps-trans c.in_ok-y-in-None.ensures.keeps c.in_ok-r-in-None.ensures.keeps)

pub otherwise-returns-in_ok-r-in-None-clause-evaluated : goal.otherwise-returns-in_ok-r-in-None-clause-evaluated
otherwise-returns-in_ok-r-in-None-clause-evaluated t c =
    let other = c.in_ok-other-in-None.ensures in
    otherwise_evaluated c.args.span c.args.cond other.keeps c.requires.stands other.value c.in_ok-y-in-None.ensures.guarded c.in_ok-r-in-None.ensures.keeps (bit_stands c.or.new.dag _ c.in_ok-r-in-None.ensures.there) c.in_ok-r-in-None.ensures.value

pub guarded-eval-requires : goal.guarded-eval-requires
guarded-eval-requires t c = (omega arith, c.in_ok-waits.ensures.forked.stands)

pub guarded-join-requires-clause-stands : goal.guarded-join-requires-clause-stands
guarded-join-requires-clause-stands t c =
    let a = c.in_ok-v.ensures.evaluated.evaluates.does.moves in
    turned_stands c.turn-gone.ensures (SideStands-keeps a.keeps c.in_ok-waits.ensures.forked.waits) a.stands

pub guarded-join-requires-clause-cond : goal.guarded-join-requires-clause-cond
guarded-join-requires-clause-cond t c = (Keeps-trans c.in_ok-waits.ensures.forked.keeps c.in_ok-v.ensures.evaluated.evaluates.does.moves.keeps).sorts _ BoolSort c.requires.cond

pub guarded-join-requires-clause-gone : goal.guarded-join-requires-clause-gone
guarded-join-requires-clause-gone t c =
    let a = c.in_ok-v.ensures.evaluated.evaluates.does.moves in
    gone_stands c.turn-gone.ensures (SideStands-keeps a.keeps c.in_ok-waits.ensures.forked.waits) a.stands

pub guarded-returns-in_err-v-clause-keeps : goal.guarded-returns-in_err-v-clause-keeps
guarded-returns-in_err-v-clause-keeps t c = Keeps-trans c.in_ok-waits.ensures.keeps c.eval.ensures.keeps

pub guarded-returns-in_err-join-clause-keeps : goal.guarded-returns-in_err-join-clause-keeps
guarded-returns-in_err-join-clause-keeps t c = Keeps-trans c.in_ok-waits.ensures.keeps (Keeps-trans c.in_ok-v.ensures.keeps c.join.ensures.keeps)

pub guarded-returns-clause-keeps : goal.guarded-returns-clause-keeps
guarded-returns-clause-keeps t c = Keeps-trans c.in_ok-waits.ensures.keeps (Keeps-trans c.in_ok-v.ensures.keeps c.in_ok-join.ensures.keeps)

pub guarded-returns-clause-guarded : goal.guarded-returns-clause-guarded
guarded-returns-clause-guarded t c =
    let f = c.in_ok-waits.ensures.forked in
    let v = rw c.in-Bit.is at c.in_ok-v.ensures.evaluated in
    let a = v.evaluates.does.moves in
    guarded_is c.args.span f v c.turn-gone.ensures (turned_stands c.turn-gone.ensures (SideStands-keeps a.keeps f.waits) a.stands) c.in_ok-join.ensures.joined (c.in_ok-join.ensures.joined.keeps.sorts _ BoolSort (bit_there v.evaluates.there refl))

-- ---- `?:`

pub test-eval-requires : goal.test-eval-requires
test-eval-requires t c = (omega arith, c.requires.stands)

pub test-returns-in_err-c-clause-keeps : goal.test-returns-in_err-c-clause-keeps
test-returns-in_err-c-clause-keeps t c = Keeps-trans c.in_ok-v.ensures.keeps c.bit_of.ensures.keeps

pub test-returns-clause-keeps : goal.test-returns-clause-keeps
test-returns-clause-keeps t c = Keeps-trans c.in_ok-v.ensures.keeps c.in_ok-c.ensures.keeps

pub test-returns-clause-tested : goal.test-returns-clause-tested
test-returns-clause-tested t c = tested_is c.args.span c.in_ok-v.ensures.evaluated c.in_ok-c.ensures.does c.in_ok-c.ensures.there

pub cond-test-requires : goal.cond-test-requires
cond-test-requires t c = (omega arith, c.requires.stands)

pub cond-pick-requires : goal.cond-pick-requires
cond-pick-requires t c = let v = c.in_ok-c.ensures.tested in (omega arith, (v.does.moves.stands, v.there))

pub cond-returns-clause-keeps : goal.cond-returns-clause-keeps
cond-returns-clause-keeps t c = Keeps-trans c.in_ok-c.ensures.keeps c.pick.ensures.keeps

pub cond-returns-clause-evaluated : goal.cond-returns-clause-evaluated
cond-returns-clause-evaluated t c = ok_more c.pick.result (λ r. evaluated_by (eval_part c.args.self.now c.args.span c.args.a.now) (eval_part c.args.self.now c.args.span c.args.b.now) c.in_ok-c.ensures.tested) c.pick.ensures.evaluated

pub pick-eval-requires : goal.pick-eval-requires
pick-eval-requires t c = (omega arith, c.requires.stands)

pub pick-eval-requires-in-Some-false : goal.pick-eval-requires-in-Some-false
pick-eval-requires-in-Some-false t c = (omega arith, c.requires.stands)

pub pick-both-requires : goal.pick-both-requires
pick-both-requires t c = (omega arith, (c.requires.stands, c.requires.cond))

pub pick-returns-in_ok-pass_expr-in-Some-true-clause-evaluated : goal.pick-returns-in_ok-pass_expr-in-Some-true-clause-evaluated
pick-returns-in_ok-pass_expr-in-Some-true-clause-evaluated t c =
    let h = c.in_ok-r-in-Some-true.ensures.evaluated in
    first_evaluated c.args.span c.args.cond (eval_part c.args.self.now c.args.span c.args.a.now) (eval_part c.args.self.now c.args.span c.args.b.now) (λ g more e. c.in-Some-true.ensures.value g (h.evaluates.does.moves.keeps.later g more) e ∙ c.in-Some-true.field-0-test) h (expr_behind _ c.args.self.now c.args.span c.args.b.now c.in_ok-pass_expr-in-Some-true.ensures)

pub pick-returns-in_ok-pass_expr-in-Some-false-clause-evaluated : goal.pick-returns-in_ok-pass_expr-in-Some-false-clause-evaluated
pick-returns-in_ok-pass_expr-in-Some-false-clause-evaluated t c =
    let p = c.in_ok-pass_expr-in-Some-false.ensures in
    ok_more c.eval-in-Some-false.result (λ r h. second_evaluated c.args.span c.args.cond (eval_part c.args.self.now c.args.span c.args.a.now) (eval_part c.args.self.now c.args.span c.args.b.now) (λ g more e. c.in-Some-false.ensures.value g (h.evaluates.does.moves.keeps.later g more) e ∙ c.in-Some-false.field-0-test) (expr_behind _ c.args.self.now c.args.span c.args.a.now p) h) c.eval-in-Some-false.ensures.evaluated

pub both-eval-requires : goal.both-eval-requires
both-eval-requires t c = (omega arith, c.in_ok-waits.ensures.forked.stands)

pub both-eval-requires-2 : goal.both-eval-requires-2
both-eval-requires-2 t c =
    let a = c.in_ok-x.ensures.evaluated.evaluates.does.moves in
    (omega arith, turned_stands c.turn-gone.ensures (SideStands-keeps a.keeps c.in_ok-waits.ensures.forked.waits) a.stands)

pub both-joined-requires-clause-stands : goal.both-joined-requires-clause-stands
both-joined-requires-clause-stands t c = c.in_ok-y.ensures.evaluated.evaluates.does.moves.stands

pub both-joined-requires-clause-cond : goal.both-joined-requires-clause-cond
both-joined-requires-clause-cond t c =
    let f = c.in_ok-waits.ensures.forked in
    let a = c.in_ok-x.ensures.evaluated.evaluates.does.moves in
    let b = c.in_ok-y.ensures.evaluated.evaluates.does.moves in
    (Keeps-trans f.keeps (Keeps-trans a.keeps b.keeps)).sorts _ BoolSort c.requires.cond

pub both-joined-requires-clause-gone : goal.both-joined-requires-clause-gone
both-joined-requires-clause-gone t c =
    let f = c.in_ok-waits.ensures.forked in
    let a = c.in_ok-x.ensures.evaluated.evaluates.does.moves in
    let b = c.in_ok-y.ensures.evaluated.evaluates.does.moves in
    SideStands-keeps b.keeps (gone_stands c.turn-gone.ensures (SideStands-keeps a.keeps f.waits) a.stands)

pub both-joined-requires-clause-a : goal.both-joined-requires-clause-a
both-joined-requires-clause-a t c = Stands-keeps c.in_ok-y.ensures.evaluated.evaluates.does.moves.keeps c.in_ok-x.ensures.evaluated.evaluates.there

pub both-joined-requires-clause-b : goal.both-joined-requires-clause-b
both-joined-requires-clause-b t c = c.in_ok-y.ensures.evaluated.evaluates.there

pub both-returns-in_err-r-clause-keeps : goal.both-returns-in_err-r-clause-keeps
both-returns-in_err-r-clause-keeps t c = Keeps_four c.in_ok-waits.ensures.keeps c.in_ok-x.ensures.keeps c.in_ok-y.ensures.keeps c.joined.ensures.keeps

pub both-returns-clause-keeps : goal.both-returns-clause-keeps
both-returns-clause-keeps t c = Keeps_four c.in_ok-waits.ensures.keeps c.in_ok-x.ensures.keeps c.in_ok-y.ensures.keeps c.in_ok-r.ensures.keeps

pub both-returns-clause-evaluated : goal.both-returns-clause-evaluated
both-returns-clause-evaluated t c = both_evaluated c.args.span c.in_ok-waits.ensures.forked c.in_ok-x.ensures.evaluated c.turn-gone.ensures c.in_ok-y.ensures.evaluated c.in_ok-r.ensures.joined

-- ---- calls

pub eval-call-requires : goal.eval-call-requires
eval-call-requires t c = (omega arith, c.requires.stands)

pub eval-returns-in-Call-clause-evaluated : goal.eval-returns-in-Call-clause-evaluated
eval-returns-in-Call-clause-evaluated t c =
    let is = rw (← c.as_slice-in-Call.ensures) at c.in-Call.is in
    ok_more c.call.result (λ r. evaluated_as (same_calling c.args.self.now c.args.span c.args.e.now c.in-Call.f c.as_slice-in-Call.result.now is)) c.call.ensures.evaluated

pub call-all-requires : goal.call-all-requires
call-all-requires t c = (omega arith, c.requires.stands)

pub within-exec_all-requires : goal.within-exec_all-requires
within-exec_all-requires t c = (omega arith, subst (λ (x : Expanded). StateStands c.enter.new.dag x.prog c.enter.new.state) (sym c.requires.inside.expanded) c.in_ok-caller.ensures.entered.stands)

pub within-leave-requires-clause-stands : goal.within-leave-requires-clause-stands
within-leave-requires-clause-stands t c = subst (λ (x : Expanded). StateStands c.exec_all.new.dag x.prog c.exec_all.new.state) c.requires.inside.expanded c.in_ok-exec_all.ensures.executes.moves.stands

pub within-leave-requires-clause-caller : goal.within-leave-requires-clause-caller
within-leave-requires-clause-caller t c = CallerStands-keeps c.in_ok-exec_all.ensures.executes.moves.keeps c.in_ok-caller.ensures.entered.waits

pub within-returns-in_err-exec_all-clause-keeps : goal.within-returns-in_err-exec_all-clause-keeps
within-returns-in_err-exec_all-clause-keeps t c = Keeps-trans c.in_ok-caller.ensures.keeps c.exec_all.ensures.keeps

pub within-returns-in_err-ended-clause-keeps : goal.within-returns-in_err-ended-clause-keeps
within-returns-in_err-ended-clause-keeps t c = Keeps-trans c.in_ok-caller.ensures.keeps (Keeps-trans c.in_ok-exec_all.ensures.keeps c.leave.ensures.keeps)

pub within-returns-clause-keeps : goal.within-returns-clause-keeps
within-returns-clause-keeps t c = Keeps-trans c.in_ok-caller.ensures.keeps (Keeps-trans c.in_ok-exec_all.ensures.keeps c.in_ok-ended.ensures.keeps)

pub within-returns-clause-called : goal.within-returns-clause-called
within-returns-clause-called t c =
    let inner = c.args.inner.now in
    called_is c.requires.inside c.in_ok-caller.ensures.entered
    (subst (λ ss. Executes inner.setting c.enter.new.dag c.exec_all.new.dag c.enter.new.state c.exec_all.new.state (exec_all_at inner c.args.start ss)) c.as_slice.ensures c.in_ok-exec_all.ensures.executes)
    c.in_ok-ended.ensures.left

-- ---- statements of one expression

pub act-eval-requires : goal.act-eval-requires
act-eval-requires t c = (omega arith, c.requires.stands)

pub act-returns-in_err-perform-clause-keeps : goal.act-returns-in_err-perform-clause-keeps
act-returns-in_err-perform-clause-keeps t c = Keeps-trans c.in_ok-v.ensures.keeps c.perform.ensures.keeps

pub act-returns-clause-keeps : goal.act-returns-clause-keeps
act-returns-clause-keeps t c = Keeps-trans c.in_ok-v.ensures.keeps c.in_ok-perform.ensures.keeps

pub act-returns-clause-executed : goal.act-returns-clause-executed
act-returns-clause-executed t c = executed_then c.in_ok-v.ensures.evaluated c.in_ok-perform.ensures.executes

pub branches-test-requires : goal.branches-test-requires
branches-test-requires t c = (omega arith, c.requires.stands)

pub exec-act-requires : goal.exec-act-requires
exec-act-requires t c = (omega arith, c.requires.stands)

pub exec-act-requires-in-Assume : goal.exec-act-requires-in-Assume
exec-act-requires-in-Assume t c = (omega arith, c.requires.stands)

pub exec-act-requires-in-Minimize : goal.exec-act-requires-in-Minimize
exec-act-requires-in-Minimize t c = (omega arith, c.requires.stands)

pub exec-act-requires-in-Call : goal.exec-act-requires-in-Call
exec-act-requires-in-Call t c = (omega arith, c.requires.stands)

pub exec-act-requires-in-Some : goal.exec-act-requires-in-Some
exec-act-requires-in-Some t c = (omega arith, c.requires.stands)

pub exec-act-requires-in-Some-value : goal.exec-act-requires-in-Some-value
exec-act-requires-in-Some-value t c = (omega arith, c.requires.stands)

pub block-exec_all-requires : goal.block-exec_all-requires
block-exec_all-requires t c = (omega arith, c.requires.stands)

pub block-returns-clause-executed : goal.block-returns-clause-executed
block-returns-clause-executed t c =
    let self = c.args.self.now in
    let h = c.in_ok-exec_all.ensures in
    record {
      executes = subst (λ s. Executes self.setting c.args.dag.now c.exec_all.new.dag c.args.state.now s (exec_all_at self c.args.at.now c.args.stmts.now)) (sym c.forget.ensures) (executes_cut _ h.executes);
      place = h.place;
    }

pub both_ways-exec-requires : goal.both_ways-exec-requires
both_ways-exec-requires t c = (omega arith, c.in_ok-waits.ensures.forked.stands)

pub both_ways-other-requires : goal.both_ways-other-requires
both_ways-other-requires t c =
    let a = c.in_ok-exec.ensures.executed.executes.moves in
    (omega arith, turned_stands c.turn-gone.ensures (SideStands-keeps a.keeps c.in_ok-waits.ensures.forked.waits) a.stands)

pub both_ways-join-requires-clause-stands : goal.both_ways-join-requires-clause-stands
both_ways-join-requires-clause-stands t c = c.in_ok-other.ensures.executed.executes.moves.stands

pub both_ways-join-requires-clause-cond : goal.both_ways-join-requires-clause-cond
both_ways-join-requires-clause-cond t c =
    let f = c.in_ok-waits.ensures.forked in
    let a = c.in_ok-exec.ensures.executed.executes.moves in
    let b = c.in_ok-other.ensures.executed.executes.moves in
    (Keeps-trans f.keeps (Keeps-trans a.keeps b.keeps)).sorts _ BoolSort c.requires.cond

pub both_ways-join-requires-clause-gone : goal.both_ways-join-requires-clause-gone
both_ways-join-requires-clause-gone t c =
    let f = c.in_ok-waits.ensures.forked in
    let a = c.in_ok-exec.ensures.executed.executes.moves in
    let b = c.in_ok-other.ensures.executed.executes.moves in
    SideStands-keeps b.keeps (gone_stands c.turn-gone.ensures (SideStands-keeps a.keeps f.waits) a.stands)

pub both_ways-returns-in_err-exec-clause-keeps : goal.both_ways-returns-in_err-exec-clause-keeps
both_ways-returns-in_err-exec-clause-keeps t c = Keeps-trans c.in_ok-waits.ensures.keeps c.exec.ensures.keeps

pub both_ways-returns-in_err-other-clause-keeps : goal.both_ways-returns-in_err-other-clause-keeps
both_ways-returns-in_err-other-clause-keeps t c = Keeps-trans c.in_ok-waits.ensures.keeps (Keeps-trans c.in_ok-exec.ensures.keeps c.other.ensures.keeps)

pub both_ways-returns-in_err-join-clause-keeps : goal.both_ways-returns-in_err-join-clause-keeps
both_ways-returns-in_err-join-clause-keeps t c = Keeps_four c.in_ok-waits.ensures.keeps c.in_ok-exec.ensures.keeps c.in_ok-other.ensures.keeps c.join.ensures.keeps

pub both_ways-returns-clause-keeps : goal.both_ways-returns-clause-keeps
both_ways-returns-clause-keeps t c = Keeps_four c.in_ok-waits.ensures.keeps c.in_ok-exec.ensures.keeps c.in_ok-other.ensures.keeps c.in_ok-join.ensures.keeps

pub both_ways-returns-clause-executed : goal.both_ways-returns-clause-executed
both_ways-returns-clause-executed t c = both_executed c.args.span c.in_ok-waits.ensures.forked c.in_ok-exec.ensures.executed c.turn-gone.ensures c.in_ok-other.ensures.executed c.in_ok-join.ensures.joined

pub branches-ways-requires : goal.branches-ways-requires
branches-ways-requires t c = let v = c.in_ok-c.ensures.tested in (omega arith, (v.does.moves.stands, v.there))

pub branches-returns-clause-keeps : goal.branches-returns-clause-keeps
branches-returns-clause-keeps t c = Keeps-trans c.in_ok-c.ensures.keeps c.ways.ensures.keeps

pub branches-returns-clause-executed : goal.branches-returns-clause-executed
branches-returns-clause-executed t c = on_ok c.ways.result (executed_by (stmt_part c.args.self.now c.args.a.now) (other_part c.args.self.now c.args.other.now) c.in_ok-c.ensures.tested) c.ways.ensures.executed

pub exec-returns-then-is_over-clause-executed : goal.exec-returns-then-is_over-clause-executed
exec-returns-then-is_over-clause-executed t c = on_ok c.pass_stmt.result (λ p. executed_over c.requires.stands (c.is_over.ensures c.if-is_over.true) (stmt_behind _ c.args.self.now c.args.stmt.now p)) c.pass_stmt.ensures

pub exec-block-requires : goal.exec-block-requires
exec-block-requires t c = (omega arith, c.requires.stands)

pub exec-branches-requires : goal.exec-branches-requires
exec-branches-requires t c = (omega arith, c.requires.stands)

pub exec-returns-in-Block-clause-executed : goal.exec-returns-in-Block-clause-executed
exec-returns-in-Block-clause-executed t c =
    let is = rw (← c.as_slice.ensures) at c.in-Block.is in
    on_ok c.block.result (executed_as (same_block c.args.self.now c.args.stmt.now c.as_slice.result.now is)) c.block.ensures.executed

pub exec-returns-in-Assert-clause-executed : goal.exec-returns-in-Assert-clause-executed
exec-returns-in-Assert-clause-executed t c = on_ok c.act.result (executed_as (same_assert c.args.self.now c.args.stmt.now c.in-Assert.e c.in-Assert.is)) c.act.ensures.executed

pub exec-returns-in-Assume-clause-executed : goal.exec-returns-in-Assume-clause-executed
exec-returns-in-Assume-clause-executed t c = on_ok c.act-in-Assume.result (executed_as (same_assume c.args.self.now c.args.stmt.now c.in-Assume.e c.in-Assume.is)) c.act-in-Assume.ensures.executed

pub exec-returns-in-Minimize-clause-executed : goal.exec-returns-in-Minimize-clause-executed
exec-returns-in-Minimize-clause-executed t c = on_ok c.act-in-Minimize.result (executed_as (same_minimize c.args.self.now c.args.stmt.now c.in-Minimize.e c.in-Minimize.is)) c.act-in-Minimize.ensures.executed

pub exec-returns-in-Call-clause-executed : goal.exec-returns-in-Call-clause-executed
exec-returns-in-Call-clause-executed t c = on_ok c.act-in-Call.result (executed_as (same_call c.args.self.now c.args.stmt.now c.in-Call.e c.in-Call.is)) c.act-in-Call.ensures.executed

pub exec-returns-in-Some-clause-executed : goal.exec-returns-in-Some-clause-executed
exec-returns-in-Some-clause-executed t c =
    let is = rw c.in-Some.is at c.in-Return.is in
    on_ok c.act-in-Some.result (executed_as (same_return c.args.self.now c.args.stmt.now c.in-Some.e is)) c.act-in-Some.ensures.executed

pub exec-returns-in-None-clause-executed : goal.exec-returns-in-None-clause-executed
exec-returns-in-None-clause-executed t c =
    let is = rw c.in-None.is at c.in-Return.is in
    on_ok c.give_nothing.result (λ h. executed_as (same_end c.args.self.now c.args.stmt.now is) (siteless_executed h)) c.give_nothing.ensures.executes

pub exec-returns-in-Some-value-clause-executed : goal.exec-returns-in-Some-value-clause-executed
exec-returns-in-Some-value-clause-executed t c =
    let is = rw c.in-Some-value.is at c.in-Declare.is in
    on_ok c.act-in-Some-value.result (executed_as (same_declare c.args.self.now c.args.stmt.now c.in-Declare.slot c.in-Declare.name c.in-Declare.ty c.in-Some-value.e is)) c.act-in-Some-value.ensures.executed

pub exec-returns-in-None-value-clause-executed : goal.exec-returns-in-None-value-clause-executed
exec-returns-in-None-value-clause-executed t c =
    let is = rw c.in-None-value.is at c.in-Declare.is in
    on_ok c.declare_zero.result (λ h. executed_as (same_zero c.args.self.now c.args.stmt.now c.in-Declare.slot c.in-Declare.name c.in-Declare.ty is) (siteless_executed h)) c.declare_zero.ensures.executes

pub exec-returns-in-If-clause-executed : goal.exec-returns-in-If-clause-executed
exec-returns-in-If-clause-executed t c =
    let is = rw (← c.get.ensures) at c.in-If.is in
    on_ok c.branches.result (executed_as (same_branch c.args.self.now c.args.stmt.now c.in-If.cond c.get.result.now c.in-If.other is)) c.branches.ensures.executed

pub exec_all-exec-requires : goal.exec_all-exec-requires
exec_all-exec-requires t c = (omega arith, c.loop-stmt.invariant.executes.moves.stands)

pub exec_all-loop-stmt-init : goal.exec_all-loop-stmt-init
exec_all-loop-stmt-init t c = record { executes = executes_nothing {x = c.args.self.now.setting} c.requires.stands; place = record { place = λ e. omega arith } }

pub exec_all-loop-stmt-preserved : goal.exec_all-loop-stmt-preserved
exec_all-loop-stmt-preserved t c =
    let inv = c.loop-stmt.invariant in
    let i = c.loop-stmt.stmt-index in
    let self = c.args.self.now in
    let stmt = c.stmt-item.result in
    let h = c.in_ok-exec.ensures.executed in
    record {
      executes = executes_same (λ e s.
          all_more self c.args.stmts.now i stmt c.loop-stmt-test.true c.stmt-item.is e c.args.at.now s
          ∙ ap (λ j. and_then (exec_all_at self c.args.at.now (take i c.args.stmts.now) e s) (unless_returned ((stmt_part self stmt e).at j))) (sym (inv.place.place e)))
          (executes_then inv.executes h.executes);
      place = record { place = λ e. omega (arith, inv.place.place e, h.place.place e, all_count self c.args.stmts.now i stmt c.loop-stmt-test.true c.stmt-item.is e) };
    }

pub exec_all-returns-in_err-exec-clause-keeps : goal.exec_all-returns-in_err-exec-clause-keeps
exec_all-returns-in_err-exec-clause-keeps t c = Keeps-trans c.loop-stmt.invariant.executes.moves.keeps c.exec.ensures.keeps

pub exec_all-returns-clause-keeps : goal.exec_all-returns-clause-keeps
exec_all-returns-clause-keeps t c = c.loop-stmt.invariant.executes.moves.keeps

pub exec_all-returns-clause-executes : goal.exec_all-returns-clause-executes
exec_all-returns-clause-executes t c =
    let whole = take_all c.loop-stmt.stmt-index c.args.stmts.now (omega arith) in
    executes_same (λ e s. ap (λ xs. exec_all_at c.args.self.now c.args.at.now xs e s) (sym whole)) c.loop-stmt.invariant.executes

pub exec_all-returns-clause-place : goal.exec_all-returns-clause-place
exec_all-returns-clause-place t c =
    let whole = take_all c.loop-stmt.stmt-index c.args.stmts.now (omega arith) in
    record { place = λ e. c.loop-stmt.invariant.place.place e ∙ ap (λ xs. c.args.at.now + (all_part c.args.self.now xs e).count) whole }

pub other-exec-requires : goal.other-exec-requires
other-exec-requires t c = (omega arith, c.requires.stands)

pub other-returns-in-Some-clause-executed : goal.other-returns-in-Some-clause-executed
other-returns-in-Some-clause-executed t c =
    let is = rw (← c.get.ensures) at c.in-Some.is in
    on_ok c.exec.result (executed_as (same_part (λ e. ap (λ o. other_part c.args.self.now o e) is))) c.exec.ensures.executed

pub other-returns-in-None-clause-executed : goal.other-returns-in-None-clause-executed
other-returns-in-None-clause-executed t c = executed_as (same_part (λ e. ap (λ o. other_part c.args.self.now o e) c.in-None.is)) (executed_none c.requires.stands)

pub ways-exec-requires : goal.ways-exec-requires
ways-exec-requires t c = (omega arith, c.requires.stands)

pub ways-other-requires : goal.ways-other-requires
ways-other-requires t c = (omega arith, c.requires.stands)

pub ways-both_ways-requires : goal.ways-both_ways-requires
ways-both_ways-requires t c = (omega arith, (c.requires.stands, c.requires.cond))

pub ways-returns-in_ok-exec-in-Some-true-clause-executed : goal.ways-returns-in_ok-exec-in-Some-true-clause-executed
ways-returns-in_ok-exec-in-Some-true-clause-executed t c =
    let h = c.in_ok-exec-in-Some-true.ensures.executed in
    on_ok c.pass_other.result (λ p. first_executed c.args.span c.args.cond (stmt_part c.args.self.now c.args.a.now) (other_part c.args.self.now c.args.other.now) (λ g more e. c.in-Some-true.ensures.value g (h.executes.moves.keeps.later g more) e ∙ c.in-Some-true.field-0-test) h (other_behind _ c.args.self.now c.args.other.now p)) c.pass_other.ensures

pub ways-returns-in_ok-pass_stmt-in-Some-false-clause-executed : goal.ways-returns-in_ok-pass_stmt-in-Some-false-clause-executed
ways-returns-in_ok-pass_stmt-in-Some-false-clause-executed t c =
    let p = c.in_ok-pass_stmt-in-Some-false.ensures in
    on_ok c.other.result (λ h. second_executed c.args.span c.args.cond (stmt_part c.args.self.now c.args.a.now) (other_part c.args.self.now c.args.other.now) (λ g more e. c.in-Some-false.ensures.value g (h.executes.moves.keeps.later g more) e ∙ c.in-Some-false.field-0-test) (stmt_behind _ c.args.self.now c.args.a.now p) h) c.other.ensures.executed

pub exec-turns-requires : goal.exec-turns-requires
exec-turns-requires t c = (omega arith, c.requires.stands)

pub exec-repeat-requires : goal.exec-repeat-requires
exec-repeat-requires t c = (omega arith, c.requires.stands)

pub exec-copies-requires : goal.exec-copies-requires
exec-copies-requires t c = (omega arith, c.requires.stands)

pub exec-returns-in-While-clause-executed : goal.exec-returns-in-While-clause-executed
exec-returns-in-While-clause-executed t c =
    let is = rw (← c.get-in-While.ensures) at c.in-While.is in
    on_ok c.turns.result (executed_as (same_while c.args.self.now c.args.stmt.now c.in-While.cond c.get-in-While.result.now is)) c.turns.ensures.executed

pub exec-returns-in-Repeat-clause-executed : goal.exec-returns-in-Repeat-clause-executed
exec-returns-in-Repeat-clause-executed t c =
    let is = rw (← c.as_slice-in-Repeat.ensures) at c.in-Repeat.is in
    on_ok c.repeat.result (executed_as (same_repeat c.args.self.now c.args.stmt.now c.in-Repeat.count c.as_slice-in-Repeat.result.now is)) c.repeat.ensures.executed

pub exec-returns-in-MinRepeat-clause-executed : goal.exec-returns-in-MinRepeat-clause-executed
exec-returns-in-MinRepeat-clause-executed t c =
    let is = rw (← c.as_slice-in-MinRepeat.ensures) at c.in-MinRepeat.is in
    on_ok c.copies.result (executed_as (same_minrepeat c.args.self.now c.args.stmt.now c.as_slice-in-MinRepeat.result.now is)) c.copies.ensures.executed

pub turns-decided-requires : goal.turns-decided-requires
turns-decided-requires t c =
    let v = c.in_ok-c.ensures.tested in
    (omega arith, (v.does.moves.stands, (v.there, v.place)))

pub turns-returns-then-is_over-clause-executed : goal.turns-returns-then-is_over-clause-executed
turns-returns-then-is_over-clause-executed t c = on_ok c.pass_loop.result (λ p. executed_over c.requires.stands (c.is_over.ensures c.if-is_over.true) (loop_behind c.args.self.now c.args.span c.args.left c.args.cond.now c.args.body.now _ p)) c.pass_loop.ensures

pub turns-returns-clause-keeps : goal.turns-returns-clause-keeps
turns-returns-clause-keeps t c = Keeps-trans c.in_ok-c.ensures.keeps c.decided.ensures.keeps

pub turns-returns-clause-executed : goal.turns-returns-clause-executed
turns-returns-clause-executed t c = on_ok c.decided.result (turns_executed c.args.self.now c.args.span c.args.left c.args.cond.now c.args.body.now c.in_ok-c.ensures.tested) c.decided.ensures.executed

pub decided-turn-requires : goal.decided-turn-requires
decided-turn-requires t c = (omega arith, (c.requires.stands, c.requires.start))

pub decided-may_turn-requires : goal.decided-may_turn-requires
decided-may_turn-requires t c = (omega arith, (c.requires.stands, (c.requires.bit, c.requires.start)))

pub decided-returns-in-Some-true-clause-executed : goal.decided-returns-in-Some-true-clause-executed
decided-returns-in-Some-true-clause-executed t c =
    on_ok c.turn.result (λ h. decided_on c.args.self.now c.args.span c.args.left c.args.cond.now c.args.body.now c.args.start c.args.bit (λ g more e. c.in-Some-true.ensures.value g (h.executes.moves.keeps.later g more) e ∙ c.in-Some-true.field-0-test) h) c.turn.ensures.executed

pub decided-returns-in-Some-false-clause-executed : goal.decided-returns-in-Some-false-clause-executed
decided-returns-in-Some-false-clause-executed t c =
    on_ok c.pass_stmt.result (λ p. decided_off c.args.self.now c.args.span c.args.left c.args.cond.now c.args.body.now c.args.start c.args.bit c.requires.stands (λ g more e. c.in-Some-false.ensures.value g more e ∙ c.in-Some-false.field-0-test) (stmt_behind _ c.args.self.now c.args.body.now p)) c.pass_stmt.ensures

pub may_turn-turn-requires : goal.may_turn-turn-requires
may_turn-turn-requires t c = (omega arith, (c.in_ok-waits.ensures.forked.stands, c.requires.start))

pub may_turn-join-requires-clause-stands : goal.may_turn-join-requires-clause-stands
may_turn-join-requires-clause-stands t c =
    let a = c.in_ok-turn.ensures.executed.executes.moves in
    turned_stands c.turn-gone.ensures (SideStands-keeps a.keeps c.in_ok-waits.ensures.forked.waits) a.stands

pub may_turn-join-requires-clause-cond : goal.may_turn-join-requires-clause-cond
may_turn-join-requires-clause-cond t c =
    let f = c.in_ok-waits.ensures.forked in
    let a = c.in_ok-turn.ensures.executed.executes.moves in
    (Keeps-trans f.keeps a.keeps).sorts _ BoolSort c.requires.bit

pub may_turn-join-requires-clause-gone : goal.may_turn-join-requires-clause-gone
may_turn-join-requires-clause-gone t c =
    let f = c.in_ok-waits.ensures.forked in
    let a = c.in_ok-turn.ensures.executed.executes.moves in
    gone_stands c.turn-gone.ensures (SideStands-keeps a.keeps f.waits) a.stands

pub may_turn-returns-in_err-turn-clause-keeps : goal.may_turn-returns-in_err-turn-clause-keeps
may_turn-returns-in_err-turn-clause-keeps t c = Keeps-trans c.in_ok-waits.ensures.keeps c.turn.ensures.keeps

pub may_turn-returns-in_err-join-clause-keeps : goal.may_turn-returns-in_err-join-clause-keeps
may_turn-returns-in_err-join-clause-keeps t c = Keeps-trans c.in_ok-waits.ensures.keeps (Keeps-trans c.in_ok-turn.ensures.keeps c.join.ensures.keeps)

pub may_turn-returns-clause-keeps : goal.may_turn-returns-clause-keeps
may_turn-returns-clause-keeps t c = Keeps-trans c.in_ok-waits.ensures.keeps (Keeps-trans c.in_ok-turn.ensures.keeps c.in_ok-join.ensures.keeps)

pub may_turn-returns-clause-executed : goal.may_turn-returns-clause-executed
may_turn-returns-clause-executed t c =
    let f = c.in_ok-waits.ensures.forked in
    let a = c.in_ok-turn.ensures.executed in
    decided_both c.args.self.now c.args.span c.args.left c.args.cond.now c.args.body.now c.args.start f a c.turn-gone.ensures (turned_stands c.turn-gone.ensures (SideStands-keeps a.executes.moves.keeps f.waits) a.executes.moves.stands) c.in_ok-join.ensures.joined

pub turn-exec-requires : goal.turn-exec-requires
turn-exec-requires t c = (omega arith, c.requires.stands)

pub turn-turns-requires : goal.turn-turns-requires
turn-turns-requires t c = (omega arith, c.in_ok-exec.ensures.executed.executes.moves.stands)

pub turn-returns-then-left-eq0-clause-executed : goal.turn-returns-then-left-eq0-clause-executed
turn-returns-then-left-eq0-clause-executed t c =
    on_ok c.pass_stmt.result (λ p. turn_fails c.args.self.now c.args.span c.args.left c.args.cond.now c.args.body.now c.args.start (omega arith) c.in_ok-fail_here.ensures.executes (stmt_behind _ c.args.self.now c.args.body.now p)) c.pass_stmt.ensures

pub turn-returns-clause-keeps : goal.turn-returns-clause-keeps
turn-returns-clause-keeps t c = Keeps-trans c.in_ok-exec.ensures.keeps c.turns.ensures.keeps

pub turn-returns-clause-executed : goal.turn-returns-clause-executed
turn-returns-clause-executed t c =
    on_ok c.turns.result (turn_executed c.args.self.now c.args.span c.args.left c.args.cond.now c.args.body.now (c.args.left - 1) (omega arith) c.requires.start c.in_ok-exec.ensures.executed) c.turns.ensures.executed

pub repeat-copies-requires : goal.repeat-copies-requires
repeat-copies-requires t c = (omega arith, c.requires.stands)

pub repeat-block-requires : goal.repeat-block-requires
repeat-block-requires t c = (omega arith, c.requires.stands)

pub repeat-returns-then-is_hole-clause-executed : goal.repeat-returns-then-is_hole-clause-executed
repeat-returns-then-is_hole-clause-executed t c = on_ok c.copies.result (executed_as (some_copies c.args.self.now c.args.count.now c.args.copies.now (sym c.is_hole.ensures ∙ c.if-is_hole.true))) c.copies.ensures.executed

pub repeat-returns-clause-executed : goal.repeat-returns-clause-executed
repeat-returns-clause-executed t c = on_ok c.block.result (executed_as (all_copies c.args.self.now c.args.count.now c.args.copies.now (sym c.is_hole.ensures ∙ c.if-is_hole.false))) c.block.ensures.executed

pub copies-some_copies-requires : goal.copies-some_copies-requires
copies-some_copies-requires t c = (omega arith, c.requires.stands)

pub copies-returns-clause-executed : goal.copies-returns-clause-executed
copies-returns-clause-executed t c = on_ok c.some_copies.result (copies_executed c.args.copies.now c.in_ok-pass_site.ensures) c.some_copies.ensures.executed

pub some_copies-copy-requires : goal.some_copies-copy-requires
some_copies-copy-requires t c = (omega arith, c.loop-stmt.invariant.executes.moves.stands)

pub some_copies-loop-stmt-init : goal.some_copies-loop-stmt-init
some_copies-loop-stmt-init t c = record {
  executes = executes_same (λ e s. copies_none c.args.self.now c.args.site c.args.at.now c.args.copies.now e s) (executes_nothing {x = c.args.self.now.setting} c.requires.stands);
  place = record { place = λ e. omega arith };
  count = omega arith;
}

pub some_copies-loop-stmt-preserved : goal.some_copies-loop-stmt-preserved
some_copies-loop-stmt-preserved t c =
    let inv = c.loop-stmt.invariant in
    let i = c.loop-stmt.stmt-index in
    let self = c.args.self.now in
    let list = c.args.copies.now in
    let site = c.args.site in
    let stmt = c.stmt-item.result in
    let h = c.in_ok-copy.ensures.executed in
    record {
      executes = executes_same (λ e s.
          copies_more self site c.args.at.now list i stmt c.loop-stmt-test.true c.stmt-item.is e s
          ∙ ap (λ j. and_then (copies_at self site c.args.at.now (take i list) e s) (unless_returned ((copy_part self site i stmt e).at j))) (sym (inv.place.place e))
          ∙ ap (λ n. and_then (copies_at self site c.args.at.now (take i list) e s) (unless_returned ((copy_part self site n stmt e).at c.loop-stmt.at))) (sym inv.count))
          (executes_then inv.executes h.executes);
      place = record { place = λ e. omega (arith, inv.place.place e, h.place.place e, all_count self list i stmt c.loop-stmt-test.true c.stmt-item.is e) };
      count = omega (arith, inv.count);
    }

pub some_copies-returns-in_err-copy-clause-keeps : goal.some_copies-returns-in_err-copy-clause-keeps
some_copies-returns-in_err-copy-clause-keeps t c = Keeps-trans c.loop-stmt.invariant.executes.moves.keeps c.copy.ensures.keeps

pub some_copies-returns-clause-keeps : goal.some_copies-returns-clause-keeps
some_copies-returns-clause-keeps t c = c.loop-stmt.invariant.executes.moves.keeps

pub some_copies-returns-clause-executed : goal.some_copies-returns-clause-executed
some_copies-returns-clause-executed t c =
    let inv = c.loop-stmt.invariant in
    let self = c.args.self.now in
    let whole = take_all c.loop-stmt.stmt-index c.args.copies.now (omega arith) in
    record {
      executes = executes_same (λ e s. ap (λ xs. copies_at self c.args.site c.args.at.now xs e s) (sym whole)) inv.executes;
      place = record { place = λ e. inv.place.place e ∙ ap (λ xs. c.args.at.now + (all_part self xs e).count) whole };
    }

pub copy-ways-requires : goal.copy-ways-requires
copy-ways-requires t c = (omega arith, (StateStands-keeps c.in_ok-here.ensures.keeps c.requires.stands, c.in_ok-here.ensures.there))

pub copy-returns-in_err-ways-clause-keeps : goal.copy-returns-in_err-ways-clause-keeps
copy-returns-in_err-ways-clause-keeps t c = Keeps-trans c.in_ok-here.ensures.keeps c.ways.ensures.keeps

pub copy-returns-clause-keeps : goal.copy-returns-clause-keeps
copy-returns-clause-keeps t c = Keeps-trans c.in_ok-here.ensures.keeps c.in_ok-ways.ensures.keeps

pub copy-returns-clause-executed : goal.copy-returns-clause-executed
copy-returns-clause-executed t c = copy_executed c.in_ok-here.here c.args.span c.args.site c.args.k c.args.stmt.now c.requires.stands c.in_ok-here.ensures.keeps c.in_ok-here.ensures.value c.in_ok-ways.ensures.executed

pub exec-reorder-requires : goal.exec-reorder-requires
exec-reorder-requires t c = (omega arith, c.requires.stands)

pub exec-returns-in-Reorder-clause-executed : goal.exec-returns-in-Reorder-clause-executed
exec-returns-in-Reorder-clause-executed t c =
    let is = rw (← c.as_slice-in-Reorder.ensures) at c.in-Reorder.is in
    on_ok c.reorder.result (executed_as (same_reorder c.args.self.now c.args.stmt.now c.as_slice-in-Reorder.result.now is)) c.reorder.ensures.executed

pub reorder-ordered-requires : goal.reorder-ordered-requires
reorder-ordered-requires t c =
    let made = c.in_ok-columns.ensures in
    (omega arith, (StateStands-keeps made.keeps c.requires.stands, subst (λ cs. AreOrders c.args.self.now c.orders.new.dag c.args.at.now (length c.args.stmts.now) cs) (sym c.as_slice.ensures) made.columns))

pub reorder-returns-in_err-ordered-clause-keeps : goal.reorder-returns-in_err-ordered-clause-keeps
reorder-returns-in_err-ordered-clause-keeps t c = Keeps-trans c.in_ok-columns.ensures.keeps c.ordered.ensures.keeps

pub reorder-returns-clause-keeps : goal.reorder-returns-clause-keeps
reorder-returns-clause-keeps t c = Keeps-trans c.in_ok-columns.ensures.keeps c.in_ok-ordered.ensures.keeps

pub reorder-returns-clause-executed : goal.reorder-returns-clause-executed
reorder-returns-clause-executed t c = reorder_executed c.args.stmts.now c.requires.stands c.in_ok-columns.ensures.keeps c.in_ok-pass_digits.ensures c.in_ok-ordered.ensures.executed

pub ordered-all_turns-requires : goal.ordered-all_turns-requires
ordered-all_turns-requires t c = (omega arith, (c.requires.stands, c.requires.columns))

pub ordered-returns-clause-executed : goal.ordered-returns-clause-executed
ordered-returns-clause-executed t c = on_ok c.pass_stmts.result (λ p. record { executes = c.in_ok-all_turns.ensures.executes; place = record { place = all_behind _ c.args.self.now c.args.stmts.now p } }) c.pass_stmts.ensures

pub all_turns-one_turn-requires : goal.all_turns-one_turn-requires
all_turns-one_turn-requires t c =
    let m = c.loop-n.invariant.executes.moves in
    (omega arith, (m.stands, (orders_keep c.args.self.now m.keeps c.requires.columns, c.loop-n-test.true)))

pub all_turns-loop-n-init : goal.all_turns-loop-n-init
all_turns-loop-n-init t c = record { executes = executes_nothing {x = c.args.self.now.setting} c.requires.stands; within = omega arith }

pub all_turns-loop-n-preserved : goal.all_turns-loop-n-preserved
all_turns-loop-n-preserved t c =
    let inv = c.loop-n.invariant in
    record {
      executes = executes_same (λ e s. turns_more c.args.self.now c.args.first c.loop-n.n c.args.start c.args.stmts.now c.loop-n-test.true e s) (executes_then inv.executes c.in_ok-one_turn.ensures.executed.executes);
      within = omega arith;
    }

pub all_turns-returns-in_err-one_turn-clause-keeps : goal.all_turns-returns-in_err-one_turn-clause-keeps
all_turns-returns-in_err-one_turn-clause-keeps t c = Keeps-trans c.loop-n.invariant.executes.moves.keeps c.one_turn.ensures.keeps

pub all_turns-returns-clause-keeps : goal.all_turns-returns-clause-keeps
all_turns-returns-clause-keeps t c = c.loop-n.invariant.executes.moves.keeps

pub all_turns-returns-clause-executes : goal.all_turns-returns-clause-executes
all_turns-returns-clause-executes t c =
    let inv = c.loop-n.invariant in
    executes_same (λ e s. turns_whole c.args.self.now c.args.first c.loop-n.n c.args.start c.args.stmts.now (omega (arith, inv.within, c.loop-n-test.false)) e s) inv.executes

pub one_turn-ways-requires : goal.one_turn-ways-requires
one_turn-ways-requires t c =
    let m = c.loop-stmt.invariant.executes.moves in
    (omega arith, (m.stands, (is_turn c.args.self.now (orders_keep c.args.self.now m.keeps c.requires.columns) c.turn_node-node.ensures).there))

pub one_turn-loop-stmt-init : goal.one_turn-loop-stmt-init
one_turn-loop-stmt-init t c = record {
  executes = executes_nothing {x = c.args.self.now.setting} c.requires.stands;
  place = record { place = λ e. omega arith };
  count = omega arith;
}

pub one_turn-loop-stmt-preserved : goal.one_turn-loop-stmt-preserved
one_turn-loop-stmt-preserved t c =
    let inv = c.loop-stmt.invariant in
    let i = c.loop-stmt.stmt-index in
    let self = c.args.self.now in
    let list = c.args.stmts.now in
    let stmt = c.stmt-item.result in
    let turn = is_turn self (orders_keep self inv.executes.moves.keeps c.requires.columns) c.turn_node-node.ensures in
    let h = c.in_ok-ways.ensures.executed in
    record {
      executes = executes_same (λ e s.
          turn_more self c.args.first (length list) c.args.n c.args.at.now list i stmt c.loop-stmt-test.true c.stmt-item.is e s
          ∙ ap (λ j. and_then (turn_at self c.args.first (length list) c.args.n (take i list) c.args.at.now e s) (unless_returned (if number_at self c.args.first (length list) c.args.n e == i then (stmt_part self stmt e).at j else pure Onward))) (sym (inv.place.place e))
          ∙ ap (λ m. and_then (turn_at self c.args.first (length list) c.args.n (take i list) c.args.at.now e s) (unless_returned (if number_at self c.args.first (length list) c.args.n e == m then (stmt_part self stmt e).at c.loop-stmt.at else pure Onward))) (sym inv.count))
          (executes_then inv.executes (turn_taken c.args.span c.args.first (length list) c.args.n c.loop-stmt.k stmt turn h));
      place = record { place = λ e. omega (arith, inv.place.place e, h.place.place e, all_count self list i stmt c.loop-stmt-test.true c.stmt-item.is e) };
      count = omega (arith, inv.count);
    }

pub one_turn-turn_node-node-requires-clause-statement : goal.one_turn-turn_node-node-requires-clause-statement
one_turn-turn_node-node-requires-clause-statement t c = omega (arith, c.loop-stmt.invariant.count, c.loop-stmt-test.true, c.requires.columns.long)

pub one_turn-turn_node-node-requires-clause-turn : goal.one_turn-turn_node-node-requires-clause-turn
one_turn-turn_node-node-requires-clause-turn t c = λ column is.
    let here = (c.requires.columns.each c.loop-stmt.k column (omega (arith, c.loop-stmt.invariant.count, c.loop-stmt-test.true))).long in
    omega (arith, c.requires.turn, ap (λ ns. length ns) is, here)

pub one_turn-returns-in_err-ways-clause-keeps : goal.one_turn-returns-in_err-ways-clause-keeps
one_turn-returns-in_err-ways-clause-keeps t c = Keeps-trans c.loop-stmt.invariant.executes.moves.keeps c.ways.ensures.keeps

pub one_turn-returns-clause-keeps : goal.one_turn-returns-clause-keeps
one_turn-returns-clause-keeps t c = c.loop-stmt.invariant.executes.moves.keeps

pub one_turn-returns-clause-executed : goal.one_turn-returns-clause-executed
one_turn-returns-clause-executed t c =
    let inv = c.loop-stmt.invariant in
    let self = c.args.self.now in
    let whole = take_all c.loop-stmt.stmt-index c.args.stmts.now (omega arith) in
    record {
      executes = executes_same (λ e s. ap (λ xs. turn_at self c.args.first (length c.args.stmts.now) c.args.n xs c.args.at.now e s) (sym whole)) inv.executes;
      place = record { place = λ e. inv.place.place e ∙ ap (λ xs. c.args.at.now + (all_part self xs e).count) whole };
    }

pub turns-test-requires : goal.turns-test-requires
turns-test-requires t c = (omega arith, c.requires.stands)

-- ---- targets, assignments and new records

pub target-field_target-requires : goal.target-field_target-requires
target-field_target-requires t c = (omega arith, c.requires.stands)

pub target-index_target-requires : goal.target-index_target-requires
target-index_target-requires t c = (omega arith, c.requires.stands)

pub target-returns-in-Var-clause-located : goal.target-returns-in-Var-clause-located
target-returns-in-Var-clause-located t c = located_as (same_variable_target c.args.self.now c.args.span c.args.e.now c.in-Var.slot c.in-Var.name c.in-Var.is) (variable_located c.requires.stands c.variable.ensures)

pub target-returns-in-Member-clause-located : goal.target-returns-in-Member-clause-located
target-returns-in-Member-clause-located t c =
    let is = rw (← c.get.ensures) at c.in-Member.is in
    ok_more c.field_target.result (λ l. located_as (same_field_target c.args.self.now c.args.span c.args.e.now c.get.result.now c.in-Member.s c.in-Member.field is)) c.field_target.ensures.located

pub target-returns-in-Index-clause-located : goal.target-returns-in-Index-clause-located
target-returns-in-Index-clause-located t c =
    let is = rw (← c.get-in-Index.ensures, ← c.get-in-Index-2.ensures) at c.in-Index.is in
    ok_more c.index_target.result (λ l. located_as (same_index_target c.args.self.now c.args.span c.args.e.now c.get-in-Index.result.now c.get-in-Index-2.result.now is)) c.index_target.ensures.located

pub field_target-eval-requires : goal.field_target-eval-requires
field_target-eval-requires t c = (omega arith, c.requires.stands)

pub field_target-returns-clause-located : goal.field_target-returns-clause-located
field_target-returns-clause-located t c = field_located c.args.span c.args.base.now c.in_ok-reference.ensures.evaluated c.field.ensures

pub index_target-target-requires : goal.index_target-target-requires
index_target-target-requires t c = (omega arith, c.requires.stands)

pub index_target-eval-requires : goal.index_target-eval-requires
index_target-eval-requires t c = (omega arith, c.in_ok-location.ensures.located.locates.does.moves.stands)

pub index_target-returns-in_err-i-clause-keeps : goal.index_target-returns-in_err-i-clause-keeps
index_target-returns-in_err-i-clause-keeps t c = Keeps-trans c.in_ok-location.ensures.keeps c.eval.ensures.keeps

pub index_target-returns-in_err-push_index-clause-keeps : goal.index_target-returns-in_err-push_index-clause-keeps
index_target-returns-in_err-push_index-clause-keeps t c = Keeps-trans c.in_ok-location.ensures.keeps c.in_ok-i.ensures.keeps

pub index_target-returns-clause-keeps : goal.index_target-returns-clause-keeps
index_target-returns-clause-keeps t c = Keeps-trans c.in_ok-location.ensures.keeps c.in_ok-i.ensures.keeps

pub index_target-returns-clause-located : goal.index_target-returns-clause-located
index_target-returns-clause-located t c = index_located c.args.span c.args.base.now c.args.index.now c.in_ok-location.ensures.located c.in_ok-i.ensures.evaluated c.in_ok-push_index.ensures

pub exec-assign-requires : goal.exec-assign-requires
exec-assign-requires t c = (omega arith, c.requires.stands)

pub exec-returns-in-Assign-clause-executed : goal.exec-returns-in-Assign-clause-executed
exec-returns-in-Assign-clause-executed t c = on_ok c.assign.result (executed_as (same_assign c.args.self.now c.args.stmt.now c.in-Assign.target c.in-Assign.value c.in-Assign.is)) c.assign.ensures.executed

pub fields-eval-requires : goal.fields-eval-requires
fields-eval-requires t c = (omega arith, c.loop-x.invariant.evaluate.does.moves.stands)

pub fields-loop-x-init : goal.fields-loop-x-init
fields-loop-x-init t c = rw c.new-made.ensures (fields_none c.args.span c.requires.stands)

pub fields-loop-x-preserved : goal.fields-loop-x-preserved
fields-loop-x-preserved t c = rw c.in_ok-push.ensures.ok (fields_more c.args.self.now c.args.span c.args.given.now c.loop-x.x-index c.x-item.result c.loop-x-test.true c.x-item.is c.loop-x.invariant c.in_ok-value.ensures.evaluated)

pub fields-returns-in_err-value-clause-keeps : goal.fields-returns-in_err-value-clause-keeps
fields-returns-in_err-value-clause-keeps t c = Keeps-trans c.loop-x.invariant.evaluate.does.moves.keeps c.eval.ensures.keeps

pub fields-returns-in_err-push-clause-keeps : goal.fields-returns-in_err-push-clause-keeps
fields-returns-in_err-push-clause-keeps t c = Keeps-trans c.loop-x.invariant.evaluate.does.moves.keeps c.in_ok-value.ensures.keeps

pub fields-returns-clause-keeps : goal.fields-returns-clause-keeps
fields-returns-clause-keeps t c = c.loop-x.invariant.evaluate.does.moves.keeps

pub fields-returns-clause-set : goal.fields-returns-clause-set
fields-returns-clause-set t c =
    let whole = take_all c.loop-x.x-index c.args.given.now (omega arith) in
    subst (λ xs. AreSetTo c.args.self.now c.args.dag.now c.loop-x.dag c.args.state.now c.loop-x.state c.args.at.now c.loop-x.at (fields_part c.args.self.now c.args.span xs) c.loop-x.made) whole c.loop-x.invariant

pub new_record-fields-requires : goal.new_record-fields-requires
new_record-fields-requires t c = (omega arith, c.requires.stands)

pub new_record-make-requires-clause-inits : goal.new_record-make-requires-clause-inits
new_record-make-requires-clause-inits t c = subst (InitsStand c.fields.new.dag) (sym c.as_slice.ensures) c.in_ok-inits.ensures.set.evaluate.there

pub new_record-returns-in_err-r-clause-keeps : goal.new_record-returns-in_err-r-clause-keeps
new_record-returns-in_err-r-clause-keeps t c = Keeps-trans c.in_ok-inits.ensures.keeps c.make.ensures.keeps

pub new_record-returns-clause-keeps : goal.new_record-returns-clause-keeps
new_record-returns-clause-keeps t c = Keeps-trans c.in_ok-inits.ensures.keeps c.in_ok-r.ensures.keeps

pub new_record-returns-clause-evaluated : goal.new_record-returns-clause-evaluated
new_record-returns-clause-evaluated t c = new_evaluated c.args.span c.args.s c.args.given.now c.in_ok-inits.ensures.set
    (subst (λ l. EvaluatesOn c.args.self.now.setting c.fields.new.dag c.make.new.dag c.fields.new.state c.make.new.state (λ g e. InitsAre g e c.fields.new.state.heap l) c.in_ok-r.r (λ e. allocate c.args.self.now.setting.expanded.now.prog c.args.s)) c.as_slice.ensures c.in_ok-r.ensures.evaluates)

pub eval-new_record-requires : goal.eval-new_record-requires
eval-new_record-requires t c = (omega arith, c.requires.stands)

pub eval-returns-in-New-clause-evaluated : goal.eval-returns-in-New-clause-evaluated
eval-returns-in-New-clause-evaluated t c =
    let is = rw (← c.as_slice-in-New.ensures) at c.in-New.is in
    ok_more c.new_record.result (λ r. evaluated_as (same_new c.args.self.now c.args.span c.args.e.now c.in-New.s c.as_slice-in-New.result.now is)) c.new_record.ensures.evaluated

-- ---- patterns

pub eval-pattern-requires : goal.eval-pattern-requires
eval-pattern-requires t c = (omega arith, c.requires.stands)

pub eval-returns-in-Pattern-clause-evaluated : goal.eval-returns-in-Pattern-clause-evaluated
eval-returns-in-Pattern-clause-evaluated t c =
    let is = rw (← c.as_slice-in-Pattern.ensures) at c.in-Pattern.is in
    ok_more c.pattern.result (λ r. evaluated_as (same_pattern c.args.self.now c.args.span c.args.e.now c.as_slice-in-Pattern.result.now is)) c.pattern.ensures.evaluated

pub pattern-strings-requires : goal.pattern-strings-requires
pattern-strings-requires t c = (omega arith, c.requires.stands)

pub pattern-returns-clause-evaluated : goal.pattern-returns-clause-evaluated
pattern-returns-clause-evaluated t c = pattern_evaluated c.args.span c.args.list.now c.in_ok-pass_site.ensures c.in_ok-r.ensures.evaluated

pub strings-string-requires : goal.strings-string-requires
strings-string-requires t c = (omega arith, (StateStands-keeps c.in_ok-here.ensures.keeps c.requires.stands, c.in_ok-here.ensures.there))

pub strings-returns-in_default-clause-evaluated : goal.strings-returns-in_default-clause-evaluated
strings-returns-in_default-clause-evaluated t c = ok_more c.fail_without.result (λ r h. evaluated_as (no_string c.args.self.now c.args.span c.args.site c.args.k c.in_default.ensures) (siteless_evaluated h)) c.fail_without.ensures.evaluates

pub strings-returns-in_err-r-clause-keeps : goal.strings-returns-in_err-r-clause-keeps
strings-returns-in_err-r-clause-keeps t c = Keeps-trans c.in_ok-here.ensures.keeps c.string.ensures.keeps

pub strings-returns-clause-keeps : goal.strings-returns-clause-keeps
strings-returns-clause-keeps t c = Keeps-trans c.in_ok-here.ensures.keeps c.in_ok-r.ensures.keeps

pub strings-returns-clause-evaluated : goal.strings-returns-clause-evaluated
strings-returns-clause-evaluated t c = strings_evaluated c.in_ok-here.here c.args.span c.args.site c.args.k c.in_ok-next.next c.in-Some.ensures c.in_ok-next.ensures c.requires.stands c.in_ok-here.ensures.keeps c.in_ok-here.ensures.value c.in_ok-r.ensures.evaluated

pub string-eval-requires : goal.string-eval-requires
string-eval-requires t c = (omega arith, c.requires.stands)

pub string-strings-requires : goal.string-strings-requires
string-strings-requires t c = (omega arith, c.requires.stands)

pub string-both_strings-requires : goal.string-both_strings-requires
string-both_strings-requires t c = (omega arith, (c.requires.stands, c.requires.here))

pub string-returns-in_ok-pass_exprs-in-Some-true-clause-evaluated : goal.string-returns-in_ok-pass_exprs-in-Some-true-clause-evaluated
string-returns-in_ok-pass_exprs-in-Some-true-clause-evaluated t c =
    let h = c.in_ok-r-in-Some-true.ensures.evaluated in
    first_evaluated c.args.span c.args.here (eval_part c.args.self.now c.args.span c.args.first.now) (strings_part c.args.self.now c.args.span c.args.site c.args.next c.args.more.now) (λ g more e. c.in-Some-true.ensures.value g (h.evaluates.does.moves.keeps.later g more) e ∙ c.in-Some-true.field-0-test) h (strings_behind _ c.args.self.now c.args.span c.args.site c.args.next c.args.more.now c.in_ok-pass_exprs-in-Some-true.ensures)

pub string-returns-in_ok-pass_expr-in-Some-false-clause-evaluated : goal.string-returns-in_ok-pass_expr-in-Some-false-clause-evaluated
string-returns-in_ok-pass_expr-in-Some-false-clause-evaluated t c =
    let p = c.in_ok-pass_expr-in-Some-false.ensures in
    ok_more c.strings.result (λ r h. second_evaluated c.args.span c.args.here (eval_part c.args.self.now c.args.span c.args.first.now) (strings_part c.args.self.now c.args.span c.args.site c.args.next c.args.more.now) (λ g more e. c.in-Some-false.ensures.value g (h.evaluates.does.moves.keeps.later g more) e ∙ c.in-Some-false.field-0-test) (expr_behind _ c.args.self.now c.args.span c.args.first.now p) h) c.strings.ensures.evaluated

pub both_strings-eval-requires : goal.both_strings-eval-requires
both_strings-eval-requires t c = (omega arith, c.in_ok-waits.ensures.forked.stands)

pub both_strings-strings-requires : goal.both_strings-strings-requires
both_strings-strings-requires t c =
    let a = c.in_ok-x.ensures.evaluated.evaluates.does.moves in
    (omega arith, turned_stands c.turn-gone.ensures (SideStands-keeps a.keeps c.in_ok-waits.ensures.forked.waits) a.stands)

pub both_strings-joined-requires-clause-stands : goal.both_strings-joined-requires-clause-stands
both_strings-joined-requires-clause-stands t c = c.in_ok-y.ensures.evaluated.evaluates.does.moves.stands

pub both_strings-joined-requires-clause-cond : goal.both_strings-joined-requires-clause-cond
both_strings-joined-requires-clause-cond t c =
    let f = c.in_ok-waits.ensures.forked in
    let a = c.in_ok-x.ensures.evaluated.evaluates.does.moves in
    let b = c.in_ok-y.ensures.evaluated.evaluates.does.moves in
    (Keeps-trans f.keeps (Keeps-trans a.keeps b.keeps)).sorts _ BoolSort c.requires.here

pub both_strings-joined-requires-clause-gone : goal.both_strings-joined-requires-clause-gone
both_strings-joined-requires-clause-gone t c =
    let f = c.in_ok-waits.ensures.forked in
    let a = c.in_ok-x.ensures.evaluated.evaluates.does.moves in
    let b = c.in_ok-y.ensures.evaluated.evaluates.does.moves in
    SideStands-keeps b.keeps (gone_stands c.turn-gone.ensures (SideStands-keeps a.keeps f.waits) a.stands)

pub both_strings-joined-requires-clause-a : goal.both_strings-joined-requires-clause-a
both_strings-joined-requires-clause-a t c = Stands-keeps c.in_ok-y.ensures.evaluated.evaluates.does.moves.keeps c.in_ok-x.ensures.evaluated.evaluates.there

pub both_strings-joined-requires-clause-b : goal.both_strings-joined-requires-clause-b
both_strings-joined-requires-clause-b t c = c.in_ok-y.ensures.evaluated.evaluates.there

pub both_strings-returns-in_err-x-clause-keeps : goal.both_strings-returns-in_err-x-clause-keeps
both_strings-returns-in_err-x-clause-keeps t c = Keeps-trans c.in_ok-waits.ensures.keeps c.eval.ensures.keeps

pub both_strings-returns-in_err-y-clause-keeps : goal.both_strings-returns-in_err-y-clause-keeps
both_strings-returns-in_err-y-clause-keeps t c = Keeps-trans c.in_ok-waits.ensures.keeps (Keeps-trans c.in_ok-x.ensures.keeps c.strings.ensures.keeps)

pub both_strings-returns-in_err-r-clause-keeps : goal.both_strings-returns-in_err-r-clause-keeps
both_strings-returns-in_err-r-clause-keeps t c = Keeps_four c.in_ok-waits.ensures.keeps c.in_ok-x.ensures.keeps c.in_ok-y.ensures.keeps c.joined.ensures.keeps

pub both_strings-returns-clause-keeps : goal.both_strings-returns-clause-keeps
both_strings-returns-clause-keeps t c = Keeps_four c.in_ok-waits.ensures.keeps c.in_ok-x.ensures.keeps c.in_ok-y.ensures.keeps c.in_ok-r.ensures.keeps

pub both_strings-returns-clause-evaluated : goal.both_strings-returns-clause-evaluated
both_strings-returns-clause-evaluated t c = both_evaluated c.args.span c.in_ok-waits.ensures.forked c.in_ok-x.ensures.evaluated c.turn-gone.ensures c.in_ok-y.ensures.evaluated c.in_ok-r.ensures.joined

-- ---- calls, and the values that go back to their arguments

pub call-call_with-requires : goal.call-call_with-requires
call-call_with-requires t c = let v = c.in_ok-values.ensures.evaluated.evaluate in (omega arith, (v.does.moves.stands, v.there))

pub call-returns-in_err-r-clause-keeps : goal.call-returns-in_err-r-clause-keeps
call-returns-in_err-r-clause-keeps t c = Keeps-trans c.in_ok-values.ensures.keeps c.call_with.ensures.keeps

pub call-returns-clause-keeps : goal.call-returns-clause-keeps
call-returns-clause-keeps t c = Keeps-trans c.in_ok-values.ensures.keeps c.in_ok-r.ensures.keeps

pub call-returns-clause-evaluated : goal.call-returns-clause-evaluated
call-returns-clause-evaluated t c = call_evaluated c.args.span c.args.f c.args.args.now c.in_ok-values.ensures.evaluated c.in_ok-r.ensures.evaluates

pub call_with-call_of-requires : goal.call_with-call_of-requires
call_with-call_of-requires t c = (omega arith, (c.requires.stands, (c.requires.values, sym c.callee.ensures ∙ ap option_copied c.in-Some.is)))

pub call_with-returns-then-is_over-clause-evaluates : goal.call_with-returns-then-is_over-clause-evaluates
call_with-returns-then-is_over-clause-evaluates t c = over_evaluates c.requires.stands (c.is_over.ensures c.if-is_over.true) c.in_ok-r.ensures.keeps c.in_ok-r.ensures.stands

pub call_with-returns-in_ok-r-in-None-clause-keeps : goal.call_with-returns-in_ok-r-in-None-clause-keeps
call_with-returns-in_ok-r-in-None-clause-keeps t c = Keeps-trans c.in_ok-fail_here-in-None.ensures.keeps c.in_ok-r-in-None.ensures.keeps

pub call_with-returns-in_ok-r-in-None-clause-evaluates : goal.call_with-returns-in_ok-r-in-None-clause-evaluates
call_with-returns-in_ok-r-in-None-clause-evaluates t c = refused_evaluates c.args.self.now c.args.f c.args.span c.args.args.now c.args.first c.in_ok-fail_here-in-None.ensures.executes c.in_ok-r-in-None.ensures.keeps c.in_ok-r-in-None.ensures.stands (sym c.callee.ensures ∙ ap option_copied c.in-None.is)

pub call_of-within-requires : goal.call_of-within-requires
call_of-within-requires t c = (omega arith, (c.requires.stands, (c.requires.values, record { expanded = refl; choice = refl })))

pub call_of-end_call-requires : goal.call_of-end_call-requires
call_of-end_call-requires t c = let h = c.in_ok-ended.ensures.called in (omega arith, (h.does.moves.stands, h.there))

pub call_of-returns-in_err-r-clause-keeps : goal.call_of-returns-in_err-r-clause-keeps
call_of-returns-in_err-r-clause-keeps t c = Keeps-trans c.in_ok-ended.ensures.keeps c.end_call.ensures.keeps

pub call_of-returns-clause-keeps : goal.call_of-returns-clause-keeps
call_of-returns-clause-keeps t c = Keeps-trans c.in_ok-ended.ensures.keeps c.in_ok-r.ensures.keeps

pub call_of-returns-clause-evaluates : goal.call_of-returns-clause-evaluates
call_of-returns-clause-evaluates t c = call_evaluates c.args.span c.args.fun.now c.args.args.now c.args.first c.in_ok-ended.ensures.called c.in_ok-r.ensures.evaluates c.requires.callee
    (record { inside = record { expanded = refl; choice = refl }; bounds = refl; left = c.saturating_sub-left.ensures; active = c.as_slice.ensures.value ∙ c.in_ok-active.ensures; of = refl })
    c.in_ok-pays_nothing.ensures c.in_ok-start.ensures

pub end_call-copy_back-requires : goal.end_call-copy_back-requires
end_call-copy_back-requires t c = (omega arith, (c.requires.stands, subst (AllStand c.args.dag.now) (sym c.as_slice-refs.ensures) c.requires.ended.refs))

pub copy_back-copy_arg-requires : goal.copy_back-copy_arg-requires
copy_back-copy_arg-requires t c = (omega arith, (c.requires.stands, c.requires.refs))

pub copy_arg-copy_back-requires : goal.copy_arg-copy_back-requires
copy_arg-copy_back-requires t c = (omega arith, (c.requires.stands, c.requires.refs))

pub copy_arg-copy_one-requires : goal.copy_arg-copy_one-requires
copy_arg-copy_one-requires t c = (omega arith, (c.requires.stands, first_stands c.in-Some.ensures c.requires.refs))

pub copy_arg-copy_back-requires-2 : goal.copy_arg-copy_back-requires-2
copy_arg-copy_back-requires-2 t c =
    let m = c.in_ok-copy_one.ensures.copied.does.moves in
    (omega arith, (m.stands, AllStand-keeps m.keeps (more_stand c.in-Some.ensures c.requires.refs)))

pub copy_one-target-requires : goal.copy_one-target-requires
copy_one-target-requires t c = (omega arith, c.requires.stands)

pub copy_one-store-requires-clause-value : goal.copy_one-store-requires-clause-value
copy_one-store-requires-clause-value t c = Stands-keeps c.in_ok-location.ensures.located.locates.does.moves.keeps c.requires.value

pub copy_one-returns-in_err-store-clause-keeps : goal.copy_one-returns-in_err-store-clause-keeps
copy_one-returns-in_err-store-clause-keeps t c = Keeps-trans c.in_ok-location.ensures.keeps c.store.ensures.keeps

pub copy_one-returns-clause-keeps : goal.copy_one-returns-clause-keeps
copy_one-returns-clause-keeps t c = Keeps-trans c.in_ok-location.ensures.keeps c.in_ok-store.ensures.keeps

pub copy_one-returns-clause-copied : goal.copy_one-returns-clause-copied
copy_one-returns-clause-copied t c = let l = c.in_ok-location.ensures.located in record { does = given_stored c.args.span l.locates c.in_ok-store.ensures.stores; place = l.place }

-- ---- values that go back to arguments

pub copy_back-returns-in_default-clause-copied : goal.copy_back-returns-in_default-clause-copied
copy_back-returns-in_default-clause-copied t c = back_no_params c.args.span c.args.args.now c.args.first c.requires.stands c.in_default.ensures

pub copy_back-returns-in_default-first_expr-clause-copied : goal.copy_back-returns-in_default-first_expr-clause-copied
copy_back-returns-in_default-first_expr-clause-copied t c = back_no_args c.args.span c.args.params.now c.args.first c.requires.stands c.in_default-first_expr.ensures

pub copy_back-returns-clause-copied : goal.copy_back-returns-clause-copied
copy_back-returns-clause-copied t c = back_arg c.args.span c.args.first c.in-Some.ensures c.in-Some-first_expr.ensures c.in_ok-copy_arg.ensures.copied

pub copy_arg-returns-then-not-by_ref-clause-copied : goal.copy_arg-returns-then-not-by_ref-clause-copied
copy_arg-returns-then-not-by_ref-clause-copied t c = back_passed c.args.span c.args.arg.now c.args.params.now c.args.args.now c.args.first c.if-not-by_ref.true c.in_ok-pass_expr.ensures c.in_ok-copy_back.ensures.copied

pub copy_arg-returns-in_default-clause-copied : goal.copy_arg-returns-in_default-clause-copied
copy_arg-returns-in_default-clause-copied t c = back_no_values c.args.span c.args.by_ref c.args.arg.now c.args.params.now c.args.args.now c.args.first c.requires.stands c.in_default.ensures

pub copy_arg-returns-clause-keeps : goal.copy_arg-returns-clause-keeps
copy_arg-returns-clause-keeps t c = Keeps-trans c.in_ok-copy_one.ensures.keeps c.in_ok-copy_back-2.ensures.keeps

pub copy_arg-returns-clause-copied : goal.copy_arg-returns-clause-copied
copy_arg-returns-clause-copied t c = one_back c.args.span c.args.arg.now c.args.params.now c.args.args.now c.if-not-by_ref.false c.in-Some.ensures c.in_ok-copy_one.ensures.copied c.in_ok-copy_back-2.ensures.copied

pub end_call-value_of-requires : goal.end_call-value_of-requires
end_call-value_of-requires t c = record { given = AnyStands-keeps c.in_ok-copy_back.ensures.copied.does.moves.keeps c.args.ended.result c.requires.ended.result }

pub end_call-returns-in_err-r-clause-keeps : goal.end_call-returns-in_err-r-clause-keeps
end_call-returns-in_err-r-clause-keeps t c = Keeps-trans c.in_ok-copy_back.ensures.keeps c.value_of.ensures.keeps

pub end_call-returns-clause-keeps : goal.end_call-returns-clause-keeps
end_call-returns-clause-keeps t c = Keeps-trans c.in_ok-copy_back.ensures.keeps c.in_ok-r.ensures.keeps

pub end_call-returns-clause-evaluates : goal.end_call-returns-clause-evaluates
end_call-returns-clause-evaluates t c =
    let self = c.args.self.now in
    let params = subst (λ ps. AreCopiedBack self c.args.dag.now c.copy_back.new.dag c.args.state.now c.copy_back.new.state c.as_slice-refs.result.now (copied_at self c.args.span ps c.args.args.now c.args.first)) c.as_slice-params.ensures c.in_ok-copy_back.ensures.copied in
    let copied = subst (λ rs. AreCopiedBack self c.args.dag.now c.copy_back.new.dag c.args.state.now c.copy_back.new.state rs (copied_at self c.args.span c.args.fun.now.params c.args.args.now c.args.first)) c.as_slice-refs.ensures params in
    ended_evaluates {ended = c.args.ended} c.args.span c.args.fun.now.result c.args.fun.now.params c.args.args.now c.args.first copied c.in_ok-r.ensures.keeps c.in_ok-r.ensures.result

-- ---- assignments, also to patterns

pub assign-place-requires : goal.assign-place-requires
assign-place-requires t c = (omega arith, c.requires.stands)

pub assign-eval-requires : goal.assign-eval-requires
assign-eval-requires t c = (omega arith, c.in_ok-place.ensures.placed.places.does.moves.stands)

pub assign-assign-requires-clause-place : goal.assign-assign-requires-clause-place
assign-assign-requires-clause-place t c = PlaceStands-keeps c.in_ok-v.ensures.evaluated.evaluates.does.moves.keeps c.in_ok-place.ensures.placed.places.there

pub assign-returns-in_err-v-clause-keeps : goal.assign-returns-in_err-v-clause-keeps
assign-returns-in_err-v-clause-keeps t c = Keeps-trans c.in_ok-place.ensures.keeps c.eval.ensures.keeps

pub assign-returns-in_err-assign-clause-keeps : goal.assign-returns-in_err-assign-clause-keeps
assign-returns-in_err-assign-clause-keeps t c = Keeps-trans c.in_ok-place.ensures.keeps (Keeps-trans c.in_ok-v.ensures.keeps c.assign.ensures.keeps)

pub assign-returns-clause-keeps : goal.assign-returns-clause-keeps
assign-returns-clause-keeps t c = Keeps-trans c.in_ok-place.ensures.keeps (Keeps-trans c.in_ok-v.ensures.keeps c.in_ok-assign.ensures.keeps)

pub assign-returns-clause-executed : goal.assign-returns-clause-executed
assign-returns-clause-executed t c = assigned c.args.span c.args.target.now c.args.value.now c.in_ok-place.ensures.placed c.in_ok-v.ensures.evaluated c.in_ok-assign.ensures.executes

pub place-pattern_place-requires : goal.place-pattern_place-requires
place-pattern_place-requires t c = (omega arith, c.requires.stands)

pub place-target_place-requires : goal.place-target_place-requires
place-target_place-requires t c = (omega arith, c.requires.stands)

pub place-returns-in-Pattern-clause-placed : goal.place-returns-in-Pattern-clause-placed
place-returns-in-Pattern-clause-placed t c =
    let is = rw (← c.as_slice.ensures) at c.in-Pattern.is in
    ok_more c.pattern_place.result (λ p. placed_as (same_pattern_target c.args.self.now c.args.span c.args.e.now c.as_slice.result.now is)) c.pattern_place.ensures.placed

pub target_place-target-requires : goal.target_place-target-requires
target_place-target-requires t c = (omega arith, c.requires.stands)

pub target_place-returns-clause-placed : goal.target_place-returns-clause-placed
target_place-returns-clause-placed t c = one_placed c.in_ok-location.ensures.located

pub pattern_place-places-requires : goal.pattern_place-places-requires
pattern_place-places-requires t c = (omega arith, c.requires.stands)

pub pattern_place-returns-clause-placed : goal.pattern_place-returns-clause-placed
pattern_place-returns-clause-placed t c = pattern_placed c.args.span c.args.list.now c.in_ok-pass_site.ensures c.in_ok-p.ensures.placed

pub places-string_place-requires : goal.places-string_place-requires
places-string_place-requires t c = (omega arith, (StateStands-keeps c.in_ok-here.ensures.keeps c.requires.stands, c.in_ok-here.ensures.there))

pub places-returns-in_default-clause-placed : goal.places-returns-in_default-clause-placed
places-returns-in_default-clause-placed t c = ok_more c.fail_nowhere.result (λ p h. placed_as (no_string_target c.args.self.now c.args.span c.args.site c.args.k c.in_default.ensures) (siteless_placed h)) c.fail_nowhere.ensures.places

pub places-returns-in_err-p-clause-keeps : goal.places-returns-in_err-p-clause-keeps
places-returns-in_err-p-clause-keeps t c = Keeps-trans c.in_ok-here.ensures.keeps c.string_place.ensures.keeps

pub places-returns-clause-keeps : goal.places-returns-clause-keeps
places-returns-clause-keeps t c = Keeps-trans c.in_ok-here.ensures.keeps c.in_ok-p.ensures.keeps

pub places-returns-clause-placed : goal.places-returns-clause-placed
places-returns-clause-placed t c = strings_placed c.in_ok-here.here c.args.span c.args.site c.args.k c.in_ok-next.next c.in-Some.ensures c.in_ok-next.ensures c.requires.stands c.in_ok-here.ensures.keeps c.in_ok-here.ensures.value c.in_ok-p.ensures.placed

pub string_place-place-requires : goal.string_place-place-requires
string_place-place-requires t c = (omega arith, c.requires.stands)

pub string_place-places-requires : goal.string_place-places-requires
string_place-places-requires t c = (omega arith, c.requires.stands)

pub string_place-both_places-requires : goal.string_place-both_places-requires
string_place-both_places-requires t c = (omega arith, (c.requires.stands, c.requires.here))

pub string_place-returns-in_ok-pass_exprs-in-Some-true-clause-placed : goal.string_place-returns-in_ok-pass_exprs-in-Some-true-clause-placed
string_place-returns-in_ok-pass_exprs-in-Some-true-clause-placed t c =
    let h = c.in_ok-p-in-Some-true.ensures.placed in
    first_placed c.args.span c.args.here (target_part c.args.self.now c.args.span c.args.first.now) (strings_target c.args.self.now c.args.span c.args.site c.args.next c.args.more.now) (λ g more e. c.in-Some-true.ensures.value g (h.places.does.moves.keeps.later g more) e ∙ c.in-Some-true.field-0-test) h (strings_behind _ c.args.self.now c.args.span c.args.site c.args.next c.args.more.now c.in_ok-pass_exprs-in-Some-true.ensures)

pub string_place-returns-in_ok-pass_expr-in-Some-false-clause-placed : goal.string_place-returns-in_ok-pass_expr-in-Some-false-clause-placed
string_place-returns-in_ok-pass_expr-in-Some-false-clause-placed t c =
    let p = c.in_ok-pass_expr-in-Some-false.ensures in
    ok_more c.places.result (λ r h. second_placed c.args.span c.args.here (target_part c.args.self.now c.args.span c.args.first.now) (strings_target c.args.self.now c.args.span c.args.site c.args.next c.args.more.now) (λ g more e. c.in-Some-false.ensures.value g (h.places.does.moves.keeps.later g more) e ∙ c.in-Some-false.field-0-test) (expr_behind _ c.args.self.now c.args.span c.args.first.now p) h) c.places.ensures.placed

pub both_places-place-requires : goal.both_places-place-requires
both_places-place-requires t c = (omega arith, c.in_ok-waits.ensures.forked.stands)

pub both_places-places-requires : goal.both_places-places-requires
both_places-places-requires t c =
    let a = c.in_ok-x.ensures.placed.places.does.moves in
    (omega arith, turned_stands c.turn-gone.ensures (SideStands-keeps a.keeps c.in_ok-waits.ensures.forked.waits) a.stands)

pub both_places-join-requires-clause-stands : goal.both_places-join-requires-clause-stands
both_places-join-requires-clause-stands t c = c.in_ok-y.ensures.placed.places.does.moves.stands

pub both_places-join-requires-clause-cond : goal.both_places-join-requires-clause-cond
both_places-join-requires-clause-cond t c =
    let f = c.in_ok-waits.ensures.forked in
    let a = c.in_ok-x.ensures.placed.places.does.moves in
    let b = c.in_ok-y.ensures.placed.places.does.moves in
    (Keeps-trans f.keeps (Keeps-trans a.keeps b.keeps)).sorts _ BoolSort c.requires.here

pub both_places-join-requires-clause-gone : goal.both_places-join-requires-clause-gone
both_places-join-requires-clause-gone t c =
    let f = c.in_ok-waits.ensures.forked in
    let a = c.in_ok-x.ensures.placed.places.does.moves in
    let b = c.in_ok-y.ensures.placed.places.does.moves in
    SideStands-keeps b.keeps (gone_stands c.turn-gone.ensures (SideStands-keeps a.keeps f.waits) a.stands)

pub both_places-returns-in_err-x-clause-keeps : goal.both_places-returns-in_err-x-clause-keeps
both_places-returns-in_err-x-clause-keeps t c = Keeps-trans c.in_ok-waits.ensures.keeps c.place.ensures.keeps

pub both_places-returns-in_err-y-clause-keeps : goal.both_places-returns-in_err-y-clause-keeps
both_places-returns-in_err-y-clause-keeps t c = Keeps-trans c.in_ok-waits.ensures.keeps (Keeps-trans c.in_ok-x.ensures.keeps c.places.ensures.keeps)

pub both_places-returns-in_err-join-clause-keeps : goal.both_places-returns-in_err-join-clause-keeps
both_places-returns-in_err-join-clause-keeps t c = Keeps_four c.in_ok-waits.ensures.keeps c.in_ok-x.ensures.keeps c.in_ok-y.ensures.keeps c.join.ensures.keeps

pub both_places-returns-in_err-p-clause-keeps : goal.both_places-returns-in_err-p-clause-keeps
both_places-returns-in_err-p-clause-keeps t c = Keeps_four c.in_ok-waits.ensures.keeps c.in_ok-x.ensures.keeps c.in_ok-y.ensures.keeps c.in_ok-join.ensures.keeps

pub both_places-returns-clause-keeps : goal.both_places-returns-clause-keeps
both_places-returns-clause-keeps t c = Keeps_four c.in_ok-waits.ensures.keeps c.in_ok-x.ensures.keeps c.in_ok-y.ensures.keeps c.in_ok-join.ensures.keeps

pub both_places-returns-clause-placed : goal.both_places-returns-clause-placed
both_places-returns-clause-placed t c = both_placed c.args.span c.requires.here c.in_ok-waits.ensures.forked c.in_ok-x.ensures.placed c.turn-gone.ensures c.in_ok-y.ensures.placed c.in_ok-join.ensures.joined c.in_ok-p.ensures
