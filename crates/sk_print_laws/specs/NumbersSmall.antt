-- Which numbers a program has: those that a text can spell.
use Rattle.std.specs.Prelude.{IsTrue, ◌≤◌}
use Rattle.sk_base.specs.declared.bounds.Bounds.{Bounds}
use Rattle.sk_tree.specs.declared.item.Tree.{Tree}
use Rattle.sk_prog.specs.declared.prog.Prog.{Prog}
use Rattle.sk_types_rules.specs.Types.{Types}
use Rattle.sk_print_laws.specs.Numbers.{numbers_small}

-- A program that a tree means has numbers that a text can spell, where an integer has at most 32 bits. In a wider
-- one are numbers that no text spells.
abbrev pub NumbersAreSmall : Type 0
NumbersAreSmall = (bounds : Bounds) (tree : Tree) (prog : Prog) → bounds.int_bits ≤ 32 → Types tree bounds prog → IsTrue (numbers_small prog)
