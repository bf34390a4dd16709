-- The forms of algebraic types: which tokens are an `adt`, a `switch` and a `case`, and the pieces of a text.
use Rattle.std.specs.Prelude.{ℕ, zero, suc, Bool, true, false, List, [], ◌∷◌, ◌++◌, length, Option, Some, None, Result, Ok, Err, if◌then◌else◌}
use Rattle.sk_base.specs.declared.span.Span.{Span}
use Rattle.sk_tree.specs.declared.token.Token.{Token}
use Rattle.sk_tree.specs.declared.token.Kind.{Kind}
use Rattle.sk_tree.specs.declared.token.Kind.TheVariants as kind
use Rattle.sk_tree.specs.declared.token.Mark.{Mark}
use Rattle.sk_tree.specs.declared.token.Mark.TheVariants as mark
use Rattle.sk_tree.specs.declared.token.Key.{Key}
use Rattle.sk_tree.specs.declared.token.Key.TheVariants as key
use Rattle.sk_parser_laws.specs.Readers.{◌>>=◌, Reader, is_mark, is_key, mark_ahead, mark_at, taken, repeated}
use Rattle.sk_adt.specs.declared.form.Word.{Word}
use Rattle.sk_adt.specs.declared.form.FieldForm.{FieldForm}
use Rattle.sk_adt.specs.declared.form.VariantForm.{VariantForm}
use Rattle.sk_adt.specs.declared.form.TypeForm.{TypeForm}
use Rattle.sk_adt.specs.declared.form.SwitchHead.{SwitchHead}
use Rattle.sk_adt.specs.declared.form.CaseHead.{CaseHead}
use Rattle.sk_adt.specs.declared.form.CaseForm.{CaseForm}
use Rattle.sk_adt.specs.declared.form.Piece.{Piece}
use Rattle.sk_adt.specs.declared.form.Piece.TheVariants as piece

-- what was read, and the tokens after it
abbrev pub with_rest : {A : Type 0} → A → List Token → A × List Token
with_rest a ts = (a, ts)

-- One token, where it stands

unfoldable pub sign_at : Mark → Reader Span
sign_at m [] = None
sign_at m (t ∷ ts) = if is_mark m t.kind then Some (t.span, ts) else None

unfoldable pub keyword_at : Key → Reader Span
keyword_at k [] = None
keyword_at k (t ∷ ts) = if is_key k t.kind then Some (t.span, ts) else None

abbrev pub word_kind : Kind → Span → List Token → Option (Word × List Token)
word_kind (kind.Word x) s ts = Some (record { name = x; span = s }, ts)
word_kind _ s ts = None

unfoldable pub name_at : Reader Word
name_at [] = None
name_at (t ∷ ts) = word_kind t.kind t.span ts

-- a closing brace follows
unfoldable pub at_close : List Token → Bool
at_close ts = mark_ahead mark.CloseBrace ts

-- The item `adt`: a word and, in braces, one or more variants. A variant is a word and, in braces, any number of
-- fields, each a type, a word and `;`. A type is `int`, `bit` or a word, and none, one or two lengths, each a number or
-- a word in brackets.

abbrev pub is_base : Kind → Bool
is_base (kind.Key key.Int) = true
is_base (kind.Key key.Bit) = true
is_base (kind.Word x) = true
is_base _ = false

abbrev pub is_length : Kind → Bool
is_length (kind.Number n) = true
is_length (kind.Word x) = true
is_length _ = false

-- what is left behind a token of these kinds
unfoldable pub behind_one : (Kind → Bool) → List Token → Option (List Token)
behind_one fits [] = None
behind_one fits (t ∷ ts) = if fits t.kind then Some ts else None

unfoldable pub behind_length : List Token → Option (List Token)
behind_length ts = mark_at mark.OpenBracket ts >>= λ inner. behind_one is_length inner >>= λ after. mark_at mark.CloseBracket after

unfoldable pub behind_any_length : List Token → Option (List Token)
behind_any_length ts = if mark_ahead mark.OpenBracket ts then behind_length ts else Some ts

unfoldable pub behind_type : List Token → Option (List Token)
behind_type ts = behind_one is_base ts >>= λ base. behind_any_length base >>= λ first. behind_any_length first

unfoldable pub field_at : Reader FieldForm
field_at ts = do
  behind ← behind_type ts
  word ← name_at behind
  end ← sign_at mark.Semicolon word.1
  Some (record { ty = taken ts behind; word = word.0; end = end.0 }, end.1)

unfoldable pub next_field : List FieldForm → Reader (List FieldForm)
next_field fields ts = field_at ts >>= λ f. Some (fields ++ f.0 ∷ [], f.1)

unfoldable pub variant_at : Reader VariantForm
variant_at ts = do
  word ← name_at ts
  opening ← mark_at mark.OpenBrace word.1
  fields ← repeated at_close next_field [] opening
  rest ← mark_at mark.CloseBrace fields.1
  Some (record { word = word.0; fields = fields.0 }, rest)

unfoldable pub next_variant : List VariantForm → Reader (List VariantForm)
next_variant variants ts = variant_at ts >>= λ v. Some (variants ++ v.0 ∷ [], v.1)

-- one or more of them
unfoldable pub variants_at : Reader (List VariantForm)
variants_at ts = next_variant [] ts >>= λ first. repeated at_close next_variant first.0 first.1

unfoldable pub type_at : Reader TypeForm
type_at ts = do
  at ← keyword_at key.Adt ts
  word ← name_at at.1
  opening ← sign_at mark.OpenBrace word.1
  variants ← variants_at opening.1
  close ← sign_at mark.CloseBrace variants.1
  Some (record { at = at.0; word = word.0; «open» = opening.0; variants = variants.0; close = close.0 }, close.1)

-- The statement `switch (x)` and, in braces, one or more cases. A case is `case`, a word, `:` and a block: the tokens
-- from a brace to the one that matches it.

-- how many more blocks are open behind a token, or none where it closes the first
abbrev pub depth_after : ℕ → Kind → Option ℕ
depth_after n (kind.Mark mark.OpenBrace) = Some (suc n)
depth_after zero (kind.Mark mark.CloseBrace) = None
depth_after (suc n) (kind.Mark mark.CloseBrace) = Some n
depth_after n _ = Some n

abbrev pub or_here : List Token → (ℕ → Option (List Token)) → Option ℕ → Option (List Token)
or_here here further None = Some here
or_here here further (Some n) = further n

-- the tokens from the `}` on that closes what was opened before them, where so many more blocks are open in that
unfoldable pub close_at : ℕ → List Token → Option (List Token)
close_at n [] = None
close_at n (t ∷ ts) = or_here (t ∷ ts) (λ m. close_at m ts) (depth_after n t.kind)

-- a case with the tokens in its block, and the tokens after it
unfoldable pub case_at : List Token → Option (CaseHead × (List Token × List Token))
case_at ts = do
  at ← keyword_at key.Case ts
  word ← name_at at.1
  colon ← mark_at mark.Colon word.1
  opening ← sign_at mark.OpenBrace colon
  block ← close_at 0 opening.1
  close ← sign_at mark.CloseBrace block
  Some (record { word = word.0; «open» = opening.0; close = close.0 }, (taken opening.1 block, close.1))

unfoldable pub head_at : Reader SwitchHead
head_at ts = do
  at ← keyword_at key.Switch ts
  opening ← sign_at mark.OpenParen at.1
  on ← name_at opening.1
  close ← sign_at mark.CloseParen on.1
  Some (record { at = at.0; «open» = opening.0; on = on.0; close = close.0 }, close.1)

-- The pieces of a text, or the first byte of the first token that stands outside its form: an `adt` or `switch` with
-- which no form begins, or a `case` that is none of a form. The blocks of a `switch` are texts themselves.

abbrev pub Found : Type 0 → Type 0
Found A = Result A ℕ

-- one case more, or the fault of the first that has one
abbrev pub with_case : Found (List CaseForm) → CaseHead → Found (List Piece) → Found (List CaseForm)
with_case (Err at) head body = Err at
with_case (Ok cases) head (Err at) = Err at
with_case (Ok cases) head (Ok body) = Ok (cases ++ record { head = head; body = body } ∷ [])

unfoldable pub next_case : (List Token → Found (List Piece)) → Found (List CaseForm) → Reader (Found (List CaseForm))
next_case inner cases ts = case_at ts >>= λ c. Some (with_case cases c.0 (inner c.1.0), c.1.1)

-- one or more of them
unfoldable pub cases_at : (List Token → Found (List Piece)) → Reader (Found (List CaseForm))
cases_at inner ts = next_case inner (Ok []) ts >>= λ first. repeated at_close (next_case inner) first.0 first.1

abbrev pub switched : SwitchHead → Found (List CaseForm) → Found Piece
switched head (Err at) = Err at
switched head (Ok cases) = Ok (piece.Switch head cases)

unfoldable pub switch_at : (List Token → Found (List Piece)) → Reader (Found Piece)
switch_at inner ts = do
  head ← head_at ts
  opening ← mark_at mark.OpenBrace head.1
  cases ← cases_at inner opening
  rest ← mark_at mark.CloseBrace cases.1
  Some (switched head.0 cases.0, rest)

unfoldable pub typed_at : Reader (Found Piece)
typed_at ts = type_at ts >>= λ r. Some (Ok (piece.Type r.0), r.1)

-- what stands in no form is outside
abbrev pub or_outside : Token → List Token → Option (Found Piece × List Token) → Found Piece × List Token
or_outside t ts None = (Err t.span.from, ts)
or_outside t ts (Some found) = found

-- `.` and a word
unfoldable pub selected_at : List Token → Option (Span × (Word × List Token))
selected_at ts = sign_at mark.Dot ts >>= λ dot. name_at dot.1 >>= λ field. Some (dot.0, (field.0, field.1))

abbrev pub member : Token → List Token → List ℕ → Option (Span × (Word × List Token)) → Piece × List Token
member t ts x None = (piece.Plain t, ts)
member t ts x (Some s) = (piece.Member (record { name = x; span = t.span }) s.0 s.1.0, s.1.1)

abbrev pub behind : Token → List Token → Option (Word × List Token) → Piece × List Token
behind t ts None = (piece.Plain t, ts)
behind t ts (Some field) = (piece.Behind t.span field.0, field.1)

abbrev pub plain_kind : Token → List Token → Kind → Piece × List Token
plain_kind t ts (kind.Word x) = member t ts x (selected_at ts)
plain_kind t ts (kind.Mark mark.Dot) = behind t ts (name_at ts)
plain_kind t ts _ = (piece.Plain t, ts)

unfoldable pub plain_at : Token → List Token → Piece × List Token
plain_at t ts = plain_kind t ts t.kind

unfoldable pub ok_plain : Piece × List Token → Found Piece × List Token
ok_plain p = (Ok p.0, p.1)

abbrev pub piece_kind : (List Token → Found (List Piece)) → Token → List Token → Kind → Found Piece × List Token
piece_kind inner t ts (kind.Key key.Adt) = or_outside t ts (typed_at (t ∷ ts))
piece_kind inner t ts (kind.Key key.Switch) = or_outside t ts (switch_at inner (t ∷ ts))
piece_kind inner t ts (kind.Key key.Case) = (Err t.span.from, ts)
piece_kind inner t ts _ = ok_plain (plain_at t ts)

-- the piece at the front, and the tokens after it
unfoldable pub piece_at : (List Token → Found (List Piece)) → Token → List Token → Found Piece × List Token
piece_at inner t ts = piece_kind inner t ts t.kind

-- The pieces behind those so far. No text has more pieces than tokens: with so many left all tokens are read.

abbrev pub with_piece : (List Piece → List Token → Found (List Piece)) → List Piece → Found Piece → List Token → Found (List Piece)
with_piece further so_far (Err at) rest = Err at
with_piece further so_far (Ok p) rest = further (so_far ++ p ∷ []) rest

unfoldable pub pieces_from : ℕ → List Piece → List Token → Found (List Piece)
pieces_from left so_far [] = Ok so_far
pieces_from zero so_far (t ∷ ts) = Err t.span.from
pieces_from (suc left) so_far (t ∷ ts) = let p = piece_at (pieces_from left []) t ts in with_piece (pieces_from left) so_far p.0 p.1

unfoldable pub pieces_of : List Token → Found (List Piece)
pieces_of ts = pieces_from (length ts) [] ts
