use Rattle.std.proofs.Common.{◌≡◌, ◌+◌, ◌*◌, ◌-◌, length, if◌then◌else◌}
use Rattle.sk_parser_laws.specs.Readers.{repeated}
use Rattle.sk_parser_laws.specs.ExprReader.{ends_row, next_expr, next_field, ends_base, behind_base, ends_chain, behind_operand, expr_at}
use Rattle.sk_parser_laws.specs.StringReader.{offers}
use Rattle.sk_parser_exprs.proofs.expr.+exprs.Given as goal

abbrev pub decreases-expr_at : goal.decreases-expr_at
decreases-expr_at l = (if l.in_text then 6000 else 0) + (20 * l.budget + 9)

abbrev pub decreases-operand_at : goal.decreases-operand_at
decreases-operand_at l = (if l.in_text then 6000 else 0) + (20 * l.budget + 8)

abbrev pub decreases-base_at : goal.decreases-base_at
decreases-base_at l = (if l.in_text then 6000 else 0) + (20 * l.budget + 7)

abbrev pub decreases-primary_at : goal.decreases-primary_at
decreases-primary_at l = (if l.in_text then 6000 else 0) + (20 * l.budget + 6)

abbrev pub decreases-new_at : goal.decreases-new_at
decreases-new_at l = (if l.in_text then 6000 else 0) + (20 * l.budget + 5)

abbrev pub decreases-fields_at : goal.decreases-fields_at
decreases-fields_at l = (if l.in_text then 6000 else 0) + (20 * l.budget + 4)

abbrev pub decreases-some_fields_at : goal.decreases-some_fields_at
decreases-some_fields_at l = (if l.in_text then 6000 else 0) + (20 * l.budget + 3)

abbrev pub decreases-more_fields : goal.decreases-more_fields
decreases-more_fields l = (if l.in_text then 6000 else 0) + (20 * l.budget + 2)

abbrev pub decreases-next_field : goal.decreases-next_field
decreases-next_field l = (if l.in_text then 6000 else 0) + (20 * l.budget + 1)

abbrev pub decreases-field_at : goal.decreases-field_at
decreases-field_at l = (if l.in_text then 6000 else 0) + (20 * l.budget + 0)

abbrev pub decreases-braces_at : goal.decreases-braces_at
decreases-braces_at l = (if l.in_text then 6000 else 0) + (20 * l.budget + 0)

abbrev pub decreases-paren_at : goal.decreases-paren_at
decreases-paren_at l = (if l.in_text then 6000 else 0) + (20 * l.budget + 0)

abbrev pub decreases-signed_at : goal.decreases-signed_at
decreases-signed_at l = (if l.in_text then 6000 else 0) + (20 * l.budget + 0)

abbrev pub decreases-behind_bases : goal.decreases-behind_bases
decreases-behind_bases l = (if l.in_text then 6000 else 0) + (20 * l.budget + 3)

abbrev pub decreases-behind_base : goal.decreases-behind_base
decreases-behind_base l = (if l.in_text then 6000 else 0) + (20 * l.budget + 2)

abbrev pub decreases-bracket_at : goal.decreases-bracket_at
decreases-bracket_at l = (if l.in_text then 6000 else 0) + (20 * l.budget + 1)

abbrev pub decreases-slice_at : goal.decreases-slice_at
decreases-slice_at l = (if l.in_text then 6000 else 0) + (20 * l.budget + 0)

abbrev pub decreases-chain_at : goal.decreases-chain_at
decreases-chain_at l = (if l.in_text then 6000 else 0) + (20 * l.budget + 1)

abbrev pub decreases-behind_operand : goal.decreases-behind_operand
decreases-behind_operand l = (if l.in_text then 6000 else 0) + (20 * l.budget + 0)

abbrev pub decreases-behind_cond : goal.decreases-behind_cond
decreases-behind_cond l = (if l.in_text then 6000 else 0) + (20 * l.budget + 1)

abbrev pub decreases-choice_at : goal.decreases-choice_at
decreases-choice_at l = (if l.in_text then 6000 else 0) + (20 * l.budget + 0)

abbrev pub decreases-named_at : goal.decreases-named_at
decreases-named_at l = (if l.in_text then 6000 else 0) + (20 * l.budget + 2)

abbrev pub decreases-call_at : goal.decreases-call_at
decreases-call_at l = (if l.in_text then 6000 else 0) + (20 * l.budget + 1)

abbrev pub decreases-offer_at : goal.decreases-offer_at
decreases-offer_at l = (if l.in_text then 6000 else 0) + (20 * l.budget + 0)

abbrev pub decreases-args_at : goal.decreases-args_at
decreases-args_at l = (if l.in_text then 6000 else 0) + (20 * l.inner + 14)

abbrev pub decreases-exprs_at : goal.decreases-exprs_at
decreases-exprs_at l = (if l.in_text then 6000 else 0) + (20 * l.inner + 13)

abbrev pub decreases-more_exprs : goal.decreases-more_exprs
decreases-more_exprs l = (if l.in_text then 6000 else 0) + (20 * l.inner + 12)

abbrev pub decreases-next_expr : goal.decreases-next_expr
decreases-next_expr l = (if l.in_text then 6000 else 0) + (20 * l.inner + 11)

abbrev pub decreases-trees_of : goal.decreases-trees_of
decreases-trees_of l = 5600

abbrev pub decreases-or_nothing : goal.decreases-or_nothing
decreases-or_nothing l = 5402 + length l.found.now

abbrev pub decreases-strings_at : goal.decreases-strings_at
decreases-strings_at l = 5401 + length l.found.now

abbrev pub decreases-string_at : goal.decreases-string_at
decreases-string_at l = 5400

abbrev pub decreases-offers : goal.decreases-offers
decreases-offers l = (if l.in_text then 6000 else 0) + 10

abbrev pub invariant-more_exprs-loop-alloc : goal.invariant-more_exprs-loop-alloc
invariant-more_exprs-loop-alloc l = repeated ends_row (next_expr (expr_at (offers l.in_text) l.inner)) l.fn.row l.tokens ≡ repeated ends_row (next_expr (expr_at (offers l.in_text) l.inner)) l.so_far l.rest

abbrev pub decreases-more_exprs-loop-alloc : goal.decreases-more_exprs-loop-alloc
decreases-more_exprs-loop-alloc l = length l.rest

abbrev pub invariant-more_fields-loop-alloc : goal.invariant-more_fields-loop-alloc
invariant-more_fields-loop-alloc l = repeated ends_row (next_field (expr_at (offers l.in_text) (l.budget - 1)) l.budget) l.fn.fields l.tokens ≡ repeated ends_row (next_field (expr_at (offers l.in_text) (l.budget - 1)) l.budget) l.so_far l.rest

abbrev pub decreases-more_fields-loop-alloc : goal.decreases-more_fields-loop-alloc
decreases-more_fields-loop-alloc l = length l.rest

abbrev pub invariant-behind_bases-loop-alloc : goal.invariant-behind_bases-loop-alloc
invariant-behind_bases-loop-alloc l = repeated ends_base (behind_base (expr_at (offers l.in_text) (l.budget - 1)) l.budget l.start) l.fn.base l.tokens ≡ repeated ends_base (behind_base (expr_at (offers l.in_text) (l.budget - 1)) l.budget l.start) l.so_far l.rest

abbrev pub decreases-behind_bases-loop-alloc : goal.decreases-behind_bases-loop-alloc
decreases-behind_bases-loop-alloc l = length l.rest

abbrev pub invariant-chain_at-loop-alloc : goal.invariant-chain_at-loop-alloc
invariant-chain_at-loop-alloc l = repeated (ends_chain l.level) (behind_operand (expr_at (offers l.in_text) (l.budget - 1)) l.budget l.start) l.fn.left l.tokens ≡ repeated (ends_chain l.level) (behind_operand (expr_at (offers l.in_text) (l.budget - 1)) l.budget l.start) l.so_far l.rest

abbrev pub decreases-chain_at-loop-alloc : goal.decreases-chain_at-loop-alloc
decreases-chain_at-loop-alloc l = length l.rest
