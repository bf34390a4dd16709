-- What a text means is well-formed: each number in the program names what is there, and its names are words and no
-- keywords.
use Rattle.std.specs.Prelude.{ℕ, List, IsTrue}
use Rattle.sk_base.specs.declared.bounds.Bounds.{Bounds}
use Rattle.sk_tree.specs.declared.item.Tree.{Tree}
use Rattle.sk_prog.specs.declared.prog.Prog.{Prog}
use Rattle.sk_prog.specs.Fits.{prog_fits}
use Rattle.sk_opts.specs.declared.line.Set.{Set}
use Rattle.sk_front.specs.Front.{IsTypedAs}

abbrev pub TextsAreWellFormed : Type 0
TextsAreWellFormed = (set : Set) (text : List ℕ) (tree : Tree) (bounds : Bounds) (prog : Prog) → IsTypedAs set text tree bounds prog → IsTrue (prog_fits prog)
