-- What a line before the header is.
use Rattle.std.specs.Prelude.{◌≡◌, ℕ, List, []}
use Rattle.dimacs_text.specs.Formula.{Text, AreHeader}
use Rattle.dimacs_text.specs.declared.read.Front.{Front}
use Rattle.dimacs_text.specs.declared.read.Front.TheVariants.{Silent, Found, Other}

abbrev pub IsFront : List Text → Front → Type 0
IsFront ws Silent = ws ≡ []
IsFront ws (Found header) = AreHeader ws header.vars header.count
IsFront ws Other = (ws ≡ [] → ⊥) × ((vars count : ℕ) → AreHeader ws vars count → ⊥)
