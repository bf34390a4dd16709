-- The plain form of a text with algebraic types.
use Rattle.std.specs.Prelude.{◌≡◌, List, [], map, Option, Some, None, Result, Ok, Err}
use Rattle.sk_tree.specs.declared.token.Token.{Token}
use Rattle.sk_adt.specs.declared.algebraic.AdtFault.{AdtFault}
use Rattle.sk_adt.specs.declared.algebraic.AdtFault.TheVariants as fault
use Rattle.sk_adt.specs.declared.algebraic.Lowered.{Lowered}
use Rattle.sk_adt.specs.declared.form.TypeWords.{TypeWords}
use Rattle.sk_adt.specs.declared.form.Piece.{Piece}
use Rattle.sk_adt.specs.Forms.{Found, pieces_of}
use Rattle.sk_adt.specs.Words.{types_in, switches_in, known_in, algebraic_of}
use Rattle.sk_adt.specs.Faults.{fault_of}
use Rattle.sk_adt.specs.Branches.{branched}
use Rattle.sk_adt.specs.Builds.{built}

-- the plain tokens of pieces of a text with these types
abbrev pub plain_form : List TypeWords → List Piece → Lowered
plain_form types pieces = record { tokens = built (known_in types) (branched (known_in types) [] pieces); types = map algebraic_of types }

abbrev pub or_plain : List TypeWords → List Piece → Option AdtFault → Result Lowered AdtFault
or_plain types pieces (Some f) = Err f
or_plain types pieces None = Ok (plain_form types pieces)

abbrev pub lowered_pieces : Found (List Piece) → Result Lowered AdtFault
lowered_pieces (Err at) = Err (fault.NoForm at)
lowered_pieces (Ok pieces) = or_plain (types_in pieces) pieces (fault_of (types_in pieces) (switches_in pieces))

-- the plain form of a text, or its fault
unfoldable pub lowered : List Token → Result Lowered AdtFault
lowered ts = lowered_pieces (pieces_of ts)

-- An answer is this one, where it is not that memory was wanting.
abbrev pub Answers : Result Lowered AdtFault → Result Lowered AdtFault → Type 0
Answers (Ok l) is = is ≡ Ok l
Answers (Err f) is = (f ≡ fault.Memory → ⊥) → is ≡ Err f
