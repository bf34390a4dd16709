use Rattle.std.proofs.Common.{◌≡◌, drop, ◌++◌, map}
use Rattle.sk_tree.specs.declared.token.Mark.TheVariants as mark
use Rattle.sk_tree.specs.Spell.{sign, between, spell_expr}
use Rattle.sk_tree_spell.specs.Separated.{separated, spell_set}
use Rattle.sk_tree_spell.proofs.expr.+expr_kinds.Given as goal

abbrev pub invariant-push_exprs-loop-e : goal.invariant-push_exprs-loop-e
invariant-push_exprs-loop-e l =
    l.out.items ++ separated l.is_first (sign mark.Comma) (map spell_expr (drop l.e-index l.es))
    ≡ l.fn.out.items ++ between (sign mark.Comma) (map spell_expr l.es)

abbrev pub invariant-push_sets-loop-field : goal.invariant-push_sets-loop-field
invariant-push_sets-loop-field l =
    l.out.items ++ separated l.is_first (sign mark.Comma) (map spell_set (drop l.field-index l.fields))
    ≡ l.fn.out.items ++ between (sign mark.Comma) (map spell_set l.fields)
