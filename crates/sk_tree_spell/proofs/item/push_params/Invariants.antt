use Rattle.std.proofs.Common.{◌≡◌, drop, ◌++◌, map}
use Rattle.sk_tree.specs.declared.token.Mark.TheVariants as mark
use Rattle.sk_tree.specs.Spell.{sign, between, spell_param}
use Rattle.sk_tree_spell.specs.Separated.{separated}
use Rattle.sk_tree_spell.proofs.item.push_params.Given as goal

abbrev pub invariant-loop-param : goal.invariant-loop-param
invariant-loop-param l =
    l.out.items ++ separated l.is_first (sign mark.Comma) (map spell_param (drop l.param-index l.params))
    ≡ l.fn.out.items ++ between (sign mark.Comma) (map spell_param l.params)
