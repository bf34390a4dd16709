-- The reader of a pattern, by its roles: a choice, a sequence in a choice, and a part of a sequence.
use Rattle.std.specs.Prelude.{ℕ, zero, suc, max, Bool, true, not, List, [], ◌∷◌, ◌++◌, Option, Some, None, if◌then◌else◌}
use Rattle.sk_tree.specs.declared.token.Token.{Token}
use Rattle.sk_tree.specs.declared.token.Kind.{Kind}
use Rattle.sk_tree.specs.declared.token.Kind.TheVariants as kind
use Rattle.sk_tree.specs.declared.token.Mark.TheVariants as mark
use Rattle.sk_tree.specs.declared.pattern.Pattern.{Pattern}
use Rattle.sk_tree.specs.declared.pattern.Pattern.TheVariants as pattern
use Rattle.sk_tree.specs.Spelt.{PatternRole, AsChoice, AsSequence, AsPart, AsPlain, may_stand}
use Rattle.sk_parser_laws.specs.Readers.{◌>>=◌, Reader, mark_ahead, mark_at, repeated, deeper}
use Rattle.sk_parser_laws.specs.declared.pieces.DeepPattern.{DeepPattern}
use Rattle.sk_parser_laws.specs.declared.pieces.Parts.{Parts}

-- A pattern with its depth; and several, with the depth of the deepest.

-- a pattern whose parts have this depth, within the budget
unfoldable pub formed : ℕ → Pattern → ℕ → List Token → Option (DeepPattern × List Token)
formed budget p depth rest = deeper budget depth >>= λ d. Some (record { pattern = p; depth = d }, rest)

abbrev pub one_part : DeepPattern → Parts
one_part p = record { items = p.pattern ∷ []; depth = p.depth }

unfoldable pub push_part : Parts → DeepPattern → Parts
push_part parts p = record { items = parts.items ++ p.pattern ∷ []; depth = max parts.depth p.depth }

-- how a part is read in its role, within a smaller budget
abbrev pub ByRole : Type 0
ByRole = PatternRole → Reader DeepPattern

-- a sequence behind a `|`
unfoldable pub next_sequence : ByRole → Parts → Reader Parts
next_sequence inner parts ts = do
  bar ← mark_at mark.Bar ts
  p ← inner AsSequence bar
  Some (push_part parts p.0, p.1)

-- no other sequence follows
unfoldable pub ends_choice : List Token → Bool
ends_choice ts = not (mark_ahead mark.Bar ts)

unfoldable pub choice_at : ByRole → ℕ → Reader DeepPattern
choice_at inner budget ts = do
  p ← inner AsSequence ts
  parts ← repeated ends_choice (next_sequence inner) (one_part p.0) p.1
  formed budget (pattern.Choice parts.0.items) parts.0.depth parts.1

-- `(` and the tokens of strings begin a part
abbrev pub starts_part : Kind → Bool
starts_part (kind.Mark mark.OpenParen) = true
starts_part k = may_stand k

-- no other part follows
unfoldable pub ends_sequence : List Token → Bool
ends_sequence [] = true
ends_sequence (t ∷ ts) = not (starts_part t.kind)

unfoldable pub next_part : ByRole → Parts → Reader Parts
next_part inner parts ts = inner AsPart ts >>= λ p. Some (push_part parts p.0, p.1)

unfoldable pub sequence_at : ByRole → ℕ → Reader DeepPattern
sequence_at inner budget ts = do
  p ← inner AsPart ts
  parts ← repeated ends_sequence (next_part inner) (one_part p.0) p.1
  formed budget (pattern.Seq parts.0.items) parts.0.depth parts.1

-- a choice in parentheses, behind the opening one
unfoldable pub group_at : ByRole → ℕ → Reader DeepPattern
group_at inner budget ts = do
  p ← inner AsChoice ts
  closing ← mark_at mark.CloseParen p.1
  formed budget (pattern.Group p.0.pattern) p.0.depth closing

abbrev pub plain_token : ByRole → ℕ → Token → Reader DeepPattern
plain_token inner budget t ts = if may_stand t.kind then formed budget (pattern.One t) 0 ts else None

abbrev pub plain_kind : ByRole → ℕ → Token → Kind → Reader DeepPattern
plain_kind inner budget t (kind.Mark mark.OpenParen) ts = group_at inner budget ts
plain_kind inner budget t k ts = plain_token inner budget t ts

-- a token, or a choice in parentheses
unfoldable pub plain_at : ByRole → ℕ → Reader DeepPattern
plain_at inner budget [] = None
plain_at inner budget (t ∷ ts) = plain_kind inner budget t t.kind ts

-- a `?` behind a part
unfoldable pub behind_plain : ℕ → DeepPattern → Reader DeepPattern
behind_plain budget p ts =
    if mark_ahead mark.Question ts then (mark_at mark.Question ts >>= λ rest. formed budget (pattern.Maybe p.pattern) p.depth rest) else Some (p, ts)

unfoldable pub part_at : ByRole → ℕ → Reader DeepPattern
part_at inner budget ts = plain_at inner budget ts >>= λ p. behind_plain budget p.0 p.1

abbrev pub by_role : ByRole → ℕ → PatternRole → Reader DeepPattern
by_role inner budget AsChoice ts = choice_at inner budget ts
by_role inner budget AsSequence ts = sequence_at inner budget ts
by_role inner budget AsPart ts = part_at inner budget ts
by_role inner budget AsPlain ts = plain_at inner budget ts

-- the pattern at the front in this role, at most so deep
unfoldable pub pattern_at : ℕ → ByRole
pattern_at zero role ts = None
pattern_at (suc b) role ts = by_role (pattern_at b) (suc b) role ts
