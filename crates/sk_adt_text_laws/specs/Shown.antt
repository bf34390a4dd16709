-- What the layout of a program shows that the plain tokens of a text mean: the program.
use Rattle.std.specs.Prelude.{ℕ, ◌≤◌, IsTrue, List}
use Rattle.sk_base.specs.declared.bounds.Bounds.{Bounds}
use Rattle.sk_tree.specs.declared.token.Token.{Token}
use Rattle.sk_tree.specs.declared.item.Tree.{Tree}
use Rattle.sk_tree.specs.Tokens.{AreTokens}
use Rattle.sk_prog.specs.declared.prog.Prog.{Prog}
use Rattle.sk_prog.specs.Fits.{prog_fits}
use Rattle.sk_print.specs.Layout.{layout}
use Rattle.sk_print.specs.Shows.{Shows}
use Rattle.sk_adt.specs.declared.algebraic.Lowered.{Lowered}
use Rattle.sk_adt_text_laws.specs.Lowered.{IsLoweredProgram}

-- Where the tokens are those of a text, the program is well-formed: each number names what is there, and its names, also those that the lowering makes, are
-- words and no keywords.
abbrev pub LoweredProgramsFit : Type 0
LoweredProgramsFit = (text : List ℕ) (tokens : List Token) (form : Lowered) (tree : Tree) (bounds : Bounds) (prog : Prog) → AreTokens text tokens → IsLoweredProgram tokens form tree bounds prog → IsTrue (prog_fits prog)

-- So its layout shows it, where an integer has at most 32 bits.
abbrev pub LoweredProgramsAreShown : Type 0
LoweredProgramsAreShown = (text : List ℕ) (tokens : List Token) (form : Lowered) (tree : Tree) (bounds : Bounds) (prog : Prog) → bounds.int_bits ≤ 32 → AreTokens text tokens → IsLoweredProgram tokens form tree bounds prog → Shows (layout prog) bounds prog
