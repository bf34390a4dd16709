-- What takes the place of `adt` and `switch`. A token that is made has the span of the nearest token before it that is
-- old, or that stands in the place of an old one: `struct` for `adt`, the first `if` for `switch`, a made name for a name.
use Rattle.std.specs.Prelude.{ℕ, zero, suc, List, [], ◌∷◌, ◌++◌, map, Option, Some, None, option_and_then, option_map, codes, decimal, if◌then◌else◌}
use Rattle.std.specs.Str.{bytes_eq}
use Rattle.sk_base.specs.declared.span.Span.{Span}
use Rattle.sk_tree.specs.declared.token.Token.{Token}
use Rattle.sk_tree.specs.declared.token.Kind.{Kind}
use Rattle.sk_tree.specs.declared.token.Kind.TheVariants as kind
use Rattle.sk_tree.specs.declared.token.Mark.{Mark}
use Rattle.sk_tree.specs.declared.token.Mark.TheVariants as mark
use Rattle.sk_tree.specs.declared.token.Key.{Key}
use Rattle.sk_tree.specs.declared.token.Key.TheVariants as key
use Rattle.sk_types_rules.specs.Scope.{place_of}
use Rattle.sk_adt.specs.declared.form.Word.{Word}
use Rattle.sk_adt.specs.declared.form.FieldForm.{FieldForm}
use Rattle.sk_adt.specs.declared.form.VariantForm.{VariantForm}
use Rattle.sk_adt.specs.declared.form.TypeForm.{TypeForm}
use Rattle.sk_adt.specs.declared.form.SwitchHead.{SwitchHead}
use Rattle.sk_adt.specs.declared.form.CaseHead.{CaseHead}
use Rattle.sk_adt.specs.declared.form.CaseForm.{CaseForm}
use Rattle.sk_adt.specs.declared.form.Spots.{Spots}
use Rattle.sk_adt.specs.declared.form.Known.{Known}
use Rattle.sk_adt.specs.declared.form.Inside.{Inside}
use Rattle.sk_adt.specs.declared.form.Piece.{Piece}
use Rattle.sk_adt.specs.declared.form.Piece.TheOpen as P
use Rattle.sk_adt.specs.declared.form.Piece.TheFolds.{fold-Piece, fold-CaseForm}
use Rattle.sk_adt.specs.Words.{each, variant_named}

abbrev pub Tokens : Type 0
Tokens = List Token

-- the one, and then the other
infixr 5 ◌▹◌
abbrev pub ◌▹◌ : Tokens → Tokens → Tokens
ts ▹ us = ts ++ us

abbrev pub token : Kind → Span → Tokens
token k s = record { kind = k; span = s } ∷ []

abbrev pub sign : Mark → Span → Tokens
sign m = token (kind.Mark m)

abbrev pub keyword : Key → Span → Tokens
keyword k = token (kind.Key k)

abbrev pub name : List ℕ → Span → Tokens
name x = token (kind.Word x)

abbrev pub number : ℕ → Span → Tokens
number n = token (kind.Number n)

-- The made name of field j of variant i: `v`, i, `f`, j.
abbrev pub made_name : ℕ → ℕ → List ℕ
made_name i j = codes "v" ++ decimal i ++ codes "f" ++ decimal j

-- `adt S` becomes `struct S`: first `int tag;`, and then each field of each variant under its made name.

abbrev pub field_tokens : ℕ → ℕ → FieldForm → Tokens
field_tokens i j f = f.ty ▹ name (made_name i j) f.word.span ▹ sign mark.Semicolon f.end

unfoldable pub fields_from : ℕ → ℕ → List FieldForm → Tokens
fields_from i j [] = []
fields_from i j (f ∷ fs) = field_tokens i j f ▹ fields_from i (suc j) fs

unfoldable pub variants_from : ℕ → List VariantForm → Tokens
variants_from i [] = []
variants_from i (v ∷ vs) = fields_from i 0 v.fields ▹ variants_from (suc i) vs

abbrev pub tag_field : Span → Tokens
tag_field s = keyword key.Int s ▹ name (codes "tag") s ▹ sign mark.Semicolon s

abbrev pub struct_of : TypeForm → Tokens
struct_of t =
    keyword key.Struct t.at ▹ name t.word.name t.word.span ▹ sign mark.OpenBrace t.«open»
    ▹ tag_field t.«open» ▹ variants_from 0 t.variants ▹ sign mark.CloseBrace t.close

-- In the block of `case V` of a switch on x, the f of `x.f` is the made name of the field f of V. The innermost case of
-- x counts; the cases that a token stands in are listed from the outermost.

unfoldable pub innermost : Option (List ℕ) → List Inside → List ℕ → Option (List ℕ)
innermost found [] x = found
innermost found (c ∷ cs) x = innermost (if bytes_eq c.on x then Some c.variant else found) cs x

abbrev pub made_field : Known → List ℕ → Option (List ℕ)
made_field k f = option_map (made_name k.number) (place_of k.fields f)

abbrev pub or_name : List ℕ → Option (List ℕ) → List ℕ
or_name f None = f
or_name f (Some made) = made

unfoldable pub member_name : List Known → List Inside → List ℕ → List ℕ → List ℕ
member_name known inside x f = or_name f (option_and_then (λ k. made_field k f) (option_and_then (variant_named known) (innermost None inside x)))

-- `switch (x)` whose first case is that of variant i becomes `if (x.tag == i)`, the block of that case, `else` and a
-- further block. That block holds the remaining cases in the same way, and `assert false;` where none remains.

abbrev pub all_at : Span → Spots
all_at s = record { at = s; opening = s; on = s; closing = s }

abbrev pub number_of_variant : Option Known → ℕ
number_of_variant None = 0
number_of_variant (Some k) = k.number

abbrev pub test_tokens : Span → List ℕ → ℕ → Tokens
test_tokens s x i = name x s ▹ sign mark.Dot s ▹ name (codes "tag") s ▹ sign mark.Equal s ▹ number i s

abbrev pub condition : Spots → List ℕ → ℕ → Tokens
condition s x i = keyword key.If s.at ▹ sign mark.OpenParen s.opening ▹ test_tokens s.on x i ▹ sign mark.CloseParen s.closing

abbrev pub refusal : Span → Tokens
refusal s = keyword key.Assert s ▹ keyword key.False s ▹ sign mark.Semicolon s

-- a case, and what its block becomes in the cases around it
pub record Branch : Type 0 where
  pub head : CaseHead
  pub block : List Inside → Tokens

abbrev pub block_of : Branch → List Inside → List ℕ → Tokens
block_of b inside x = sign mark.OpenBrace b.head.«open» ▹ b.block (inside ++ record { on = x; variant = b.head.word.name } ∷ []) ▹ sign mark.CloseBrace b.head.close

abbrev pub otherwise : Span → Tokens
otherwise s = keyword key.Else s ▹ sign mark.OpenBrace s

abbrev pub behind_tokens : Span → Word → Tokens
behind_tokens dot field = sign mark.Dot dot ▹ name field.name field.span

-- where the last case closes
unfoldable pub last_close : Span → List CaseHead → Span
last_close s [] = s
last_close s (h ∷ hs) = last_close h.close hs

module _ (known : List Known) where
  -- a case up to the further block
  abbrev pub branch : List Inside → List ℕ → Spots → Branch → Tokens
  branch inside x spots b =
      condition spots x (number_of_variant (variant_named known b.head.word.name)) ▹ block_of b inside x ▹ otherwise b.head.close

  -- the remaining cases, of which the last closes here
  unfoldable pub chain : List Inside → List ℕ → Span → Spots → List Branch → Tokens
  chain inside x last spots [] = refusal last
  chain inside x last spots (b ∷ bs) = branch inside x spots b ▹ chain inside x last (all_at b.head.close) bs ▹ sign mark.CloseBrace last

  abbrev pub switch_tokens : SwitchHead → List Branch → List Inside → Tokens
  switch_tokens head branches inside =
      chain inside head.on.name (last_close head.close (map (λ b. b.head) branches))
      (record { at = head.at; opening = head.«open»; on = head.on.span; closing = head.close }) branches

  abbrev pub member_tokens : List Inside → Word → Span → Word → Tokens
  member_tokens inside on dot field = name on.name on.span ▹ sign mark.Dot dot ▹ name (member_name known inside on.name field.name) field.span

  abbrev pub piece_tokens : P.Piece-F (List Inside → Tokens) Branch → List Inside → Tokens
  piece_tokens (P.Type t) inside = struct_of t
  piece_tokens (P.Switch head branches) inside = switch_tokens head branches inside
  piece_tokens (P.Member on dot field) inside = member_tokens inside on dot field
  piece_tokens (P.Behind dot field) inside = behind_tokens dot field
  piece_tokens (P.Plain t) inside = t ∷ []

  abbrev pub case_branch : P.CaseForm-F (List Inside → Tokens) Branch → Branch
  case_branch c = record { head = c.head; block = λ inside. each (map (λ p. p inside) c.body) }

  abbrev pub branched_case : CaseForm → Branch
  branched_case = fold-CaseForm (List Inside → Tokens) Branch piece_tokens case_branch

  abbrev pub branched_piece : Piece → List Inside → Tokens
  branched_piece = fold-Piece (List Inside → Tokens) Branch piece_tokens case_branch

  abbrev pub branched : List Inside → List Piece → Tokens
  branched inside pieces = each (map (λ p. p inside) (map branched_piece pieces))
