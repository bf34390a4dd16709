use Rattle.std.proofs.Common.{◌≡◌, drop, ◌++◌, map}
use Rattle.sk_tree.specs.Spelt.{InBlock}
use Rattle.sk_tree.specs.Spell.{each, spell_stmt}
use Rattle.sk_tree_spell.proofs.stmt.+stmt_kinds.Given as goal

abbrev pub invariant-push_row-loop-s : goal.invariant-push_row-loop-s
invariant-push_row-loop-s l =
    l.out.items ++ each (map (λ s. s InBlock) (map spell_stmt (drop l.s-index l.stmts)))
    ≡ l.fn.out.items ++ each (map (λ s. s InBlock) (map spell_stmt l.stmts))
