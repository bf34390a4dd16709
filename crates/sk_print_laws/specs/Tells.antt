-- What the text of a program tells: the tokens of the tree that is printed.
use Rattle.std.specs.Prelude.{◌≡◌, List, map, IsTrue}
use Rattle.sk_tree.specs.declared.token.Token.{Token}
use Rattle.sk_tree.specs.Tokens.{AreTokens}
use Rattle.sk_tree.specs.Spell.{spell}
use Rattle.sk_prog.specs.declared.prog.Prog.{Prog}
use Rattle.sk_prog.specs.Fits.{prog_fits}
use Rattle.sk_print.specs.Layout.{layout}
use Rattle.sk_print_laws.specs.Printed.{printed}
use Rattle.sk_print_laws.specs.Numbers.{numbers_small}

-- The layout of a well-formed program, of numbers that a text can spell, has tokens, and these have the kinds that
-- spell the printed tree.
abbrev pub Tells : Type 0
Tells = (prog : Prog) → IsTrue (prog_fits prog) → IsTrue (numbers_small prog) → (tokens : List Token) × AreTokens (layout prog) tokens × (map (λ (t : Token). t.kind) tokens ≡ spell (printed prog))
