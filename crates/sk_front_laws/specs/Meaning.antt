-- What a text means keeps the rules: its tree is placed and means the program, and each pattern of the program
-- holds 1 to 128 strings, spelt without the marks of patterns and parentheses, and at most 256 deep.
use Rattle.std.specs.Prelude.{ℕ, List}
use Rattle.sk_base.specs.declared.bounds.Bounds.{Bounds}
use Rattle.sk_tree.specs.declared.item.Tree.{Tree}
use Rattle.sk_prog.specs.declared.prog.Prog.{Prog}
use Rattle.sk_types_rules.specs.WellTyped.{WellTyped}
use Rattle.sk_opts.specs.declared.line.Set.{Set}
use Rattle.sk_front.specs.Front.{IsTypedAs}

abbrev pub TextsKeepRules : Type 0
TextsKeepRules = (set : Set) (text : List ℕ) (tree : Tree) (bounds : Bounds) (prog : Prog) → IsTypedAs set text tree bounds prog → WellTyped prog bounds
