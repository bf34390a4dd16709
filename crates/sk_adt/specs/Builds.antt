-- What takes the place of `new V ( .. )` with a variant V of S: `new S ( tag = i, .. )`, where the fields of V that are set
-- have their made names.
use Rattle.std.specs.Prelude.{ℕ, ◌-◌, Bool, List, [], ◌∷◌, ◌++◌, length, take, Option, Some, None, option_and_then, slice_get, codes, if◌then◌else◌}
use Rattle.sk_base.specs.declared.span.Span.{Span}
use Rattle.sk_tree.specs.declared.token.Token.{Token}
use Rattle.sk_tree.specs.declared.token.Kind.{Kind}
use Rattle.sk_tree.specs.declared.token.Kind.TheVariants as kind
use Rattle.sk_tree.specs.declared.token.Mark.TheVariants as mark
use Rattle.sk_tree.specs.declared.token.Key.TheVariants as key
use Rattle.sk_parser_laws.specs.Readers.{mark_ahead}
use Rattle.sk_adt.specs.declared.form.Known.{Known}
use Rattle.sk_adt.specs.declared.form.Before.{Before}
use Rattle.sk_adt.specs.declared.form.Before.TheVariants as before
use Rattle.sk_adt.specs.Words.{variant_named}
use Rattle.sk_adt.specs.Branches.{Tokens, ◌▹◌, name, number, sign, made_field, or_name, number_of_variant}

-- The lists that are open, from the outermost, each with the variant that it builds, where it is that of `new V (`.
-- A list is what stands in brackets of any of the four kinds.
abbrev pub Lists : Type 0
Lists = List (Option (List ℕ))

-- the variant that the innermost list builds
unfoldable pub innermost_list : Lists → Option (List ℕ)
innermost_list lists = option_and_then (λ l. l) (slice_get lists (length lists - 1))

-- a comma, where a field follows
abbrev pub gap : List Token → Span → Tokens
gap after s = if mark_ahead mark.CloseParen after then [] else sign mark.Comma s

abbrev pub tag_set : ℕ → Span → Tokens
tag_set i s = name (codes "tag") s ▹ sign mark.Assign s ▹ number i s

abbrev pub variant_before : List ℕ → Option Known → Before
variant_before x None = before.Other
variant_before x (Some k) = before.Variant x

abbrev pub list_behind : Before → Option (List ℕ)
list_behind (before.Variant v) = Some v
list_behind _ = None

abbrev pub lists_kind : Before → Lists → Kind → Lists
lists_kind b lists (kind.Mark mark.OpenParen) = lists ++ list_behind b ∷ []
lists_kind b lists (kind.Mark mark.OpenBrace) = lists ++ None ∷ []
lists_kind b lists (kind.Mark mark.OpenBracket) = lists ++ None ∷ []
lists_kind b lists (kind.Mark mark.OpenPattern) = lists ++ None ∷ []
lists_kind b lists (kind.Mark mark.CloseParen) = take (length lists - 1) lists
lists_kind b lists (kind.Mark mark.CloseBrace) = take (length lists - 1) lists
lists_kind b lists (kind.Mark mark.CloseBracket) = take (length lists - 1) lists
lists_kind b lists (kind.Mark mark.ClosePattern) = take (length lists - 1) lists
lists_kind b lists _ = lists

-- the lists that are open at the next token
unfoldable pub next_lists : Before → Lists → Token → Lists
next_lists b lists t = lists_kind b lists t.kind

module _ (known : List Known) where
  -- the variant that a word names, between `new` and `(`
  unfoldable pub behind_new : Before → List ℕ → List Token → Option Known
  behind_new before.New x after = if mark_ahead mark.OpenParen after then variant_named known x else None
  behind_new _ x after = None

  -- the field that a word names, before `=` in the list of a `new V (`
  unfoldable pub set_name : Lists → List ℕ → List Token → List ℕ
  set_name lists x after =
      if mark_ahead mark.Assign after then or_name x (option_and_then (λ k. made_field k x) (option_and_then (variant_named known) (innermost_list lists))) else x

  abbrev pub new_name : Lists → List ℕ → List Token → Option Known → List ℕ
  new_name lists x after None = set_name lists x after
  new_name lists x after (Some k) = k.ty

  abbrev pub opening : Before → Span → List Token → Tokens
  opening (before.Variant v) s after =
      sign mark.OpenParen s ▹ tag_set (number_of_variant (variant_named known v)) s ▹ gap after s
  opening _ s after = sign mark.OpenParen s

  abbrev pub word_built : Before → Lists → List ℕ → Span → List Token → Tokens
  word_built b lists x s after = name (new_name lists x after (behind_new b x after)) s

  abbrev pub token_kind : Before → Lists → Token → List Token → Kind → Tokens
  token_kind b lists t after (kind.Word x) = word_built b lists x t.span after
  token_kind b lists t after (kind.Mark mark.OpenParen) = opening b t.span after
  token_kind b lists t after _ = t ∷ []

  -- what a token becomes
  unfoldable pub token_built : Before → Lists → Token → List Token → Tokens
  token_built b lists t after = token_kind b lists t after t.kind

  abbrev pub before_kind : Before → List Token → Kind → Before
  before_kind b after (kind.Key key.New) = before.New
  before_kind b after (kind.Word x) = variant_before x (behind_new b x after)
  before_kind b after _ = before.Other

  -- what stands before the next token
  unfoldable pub next_before : Before → Token → List Token → Before
  next_before b t after = before_kind b after t.kind

  unfoldable pub built_from : Before → Lists → List Token → Tokens
  built_from b lists [] = []
  built_from b lists (t ∷ after) = token_built b lists t after ▹ built_from (next_before b t after) (next_lists b lists t) after

  abbrev pub built : List Token → Tokens
  built = built_from before.Other []
