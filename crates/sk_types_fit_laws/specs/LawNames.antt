-- What a tree means is well-formed.
use Rattle.std.specs.Prelude.{IsTrue}
use Rattle.sk_base.specs.declared.bounds.Bounds.{Bounds}
use Rattle.sk_tree.specs.declared.item.Tree.{Tree}
use Rattle.sk_tree.specs.Names.{all_names}
use Rattle.sk_prog.specs.declared.prog.Prog.{Prog}
use Rattle.sk_prog.specs.Fits.{is_name, prog_fits}
use Rattle.sk_types_rules.specs.Types.{Types}

-- Where the names of a tree are words and no keywords, so are the names of the program that it means, and the
-- program's numbers name what is there.
abbrev pub WellFormed : Type 0
WellFormed = (bounds : Bounds) (tree : Tree) (prog : Prog) → IsTrue (all_names is_name tree) → Types tree bounds prog → IsTrue (prog_fits prog)
