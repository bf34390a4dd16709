use Rattle.std.proofs.Common.{◌≡◌, ◌++◌, map, drop, codes}
use Rattle.std.specs.List.{join_by}
use Rattle.sk_app_texts.specs.ValueTexts.{value_text}
use Rattle.sk_exec_values.proofs.Joined.{joined}
use Rattle.sk_exec_values.proofs.writer.+push_value.Given as goal

-- the text so far, and that of the values to come
abbrev pub invariant-push_values-loop-value : goal.invariant-push_values-loop-value
invariant-push_values-loop-value l =
    l.fn.out.items ++ join_by (λ t. t) (codes ",") (map value_text l.values)
    ≡ l.out.items ++ joined l.between (map value_text (drop l.value-index l.values))
