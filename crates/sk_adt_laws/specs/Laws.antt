-- What holds of plain forms.
use Rattle.std.specs.Prelude.{ℕ, ◌≡◌, ◌≤◌, ◌*◌, IsTrue, List, [], length, Some, slice_get, Ok}
use Rattle.sk_tree.specs.declared.token.Token.{Token}
use Rattle.sk_adt.specs.declared.algebraic.Algebraic.{Algebraic}
use Rattle.sk_adt.specs.declared.algebraic.Lowered.{Lowered}
use Rattle.sk_adt.specs.Lowering.{lowered}
use Rattle.sk_adt_laws.specs.Plain.{are_plain}
use Rattle.sk_adt_laws.specs.Heads.{HasHead}

-- A text without the words `adt`, `switch` and `case` is its own plain form, and has no algebraic types.
abbrev pub PlainTextsStay : Type 0
PlainTextsStay = (tokens : List Token) → IsTrue (are_plain tokens) → lowered tokens ≡ Ok (record { tokens = tokens; types = [] })

-- None of these words is left in a plain form.
abbrev pub NoWordIsLeft : Type 0
NoWordIsLeft = (tokens : List Token) (form : Lowered) → lowered tokens ≡ Ok form → IsTrue (are_plain form.tokens)

-- A plain form has at most 15 times as many tokens as the text, and so at most 32 times as many: `switch` and a case become three times as many at most, and
-- then a parenthesis behind `new` and a name at most five.
abbrev pub PlainFormsAreSmall : Type 0
PlainFormsAreSmall = (tokens : List Token) (form : Lowered) → lowered tokens ≡ Ok form → length form.tokens ≤ 15 * length tokens

-- Each algebraic type is a struct in the plain form, whose first field is `int tag;`.
abbrev pub TypesBecomeStructs : Type 0
TypesBecomeStructs = (tokens : List Token) (form : Lowered) → lowered tokens ≡ Ok form → (n : ℕ) (a : Algebraic) → slice_get form.types n ≡ Some a → HasHead form.tokens a.name
