use Rattle.std.proofs.Common.{◌≡◌, drop, ◌++◌, map, codes}
use Rattle.std.specs.List.{join_by}
use Rattle.sk_print.specs.Joined.{joined_from}
use Rattle.sk_print.specs.Layout.{expr_layout, set_layout}
use Rattle.sk_print.proofs.expr.+expr_text.Given as goal

abbrev pub invariant-push_exprs-loop-e : goal.invariant-push_exprs-loop-e
invariant-push_exprs-loop-e l =
    l.out.items ++ joined_from l.is_first (λ t. t) l.between (map (expr_layout l.fn.prog) (drop l.e-index l.es))
    ≡ l.fn.out.items ++ join_by (λ t. t) l.between (map (expr_layout l.fn.prog) l.es)

abbrev pub invariant-push_fields-loop-field : goal.invariant-push_fields-loop-field
invariant-push_fields-loop-field l =
    l.out.items ++ joined_from l.is_first (λ t. t l.s) (codes ", ") (map (set_layout l.fn.prog) (drop l.field-index l.fields))
    ≡ l.fn.out.items ++ join_by (λ t. t l.s) (codes ", ") (map (set_layout l.fn.prog) l.fields)
