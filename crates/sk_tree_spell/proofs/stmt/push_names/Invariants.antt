use Rattle.std.proofs.Common.{◌≡◌, drop, ◌++◌, map}
use Rattle.sk_tree.specs.declared.token.Mark.TheVariants as mark
use Rattle.sk_tree.specs.Spell.{sign, between, spell_declared}
use Rattle.sk_tree_spell.specs.Separated.{separated}
use Rattle.sk_tree_spell.proofs.stmt.push_names.Given as goal

abbrev pub invariant-loop-name : goal.invariant-loop-name
invariant-loop-name l =
    l.out.items ++ separated l.is_first (sign mark.Comma) (map spell_declared (drop l.name-index l.names))
    ≡ l.fn.out.items ++ between (sign mark.Comma) (map spell_declared l.names)
